-- Demand 3 as it was before W10, of one machine with two memories: it follows.
use Rattle.std.specs.Prelude.{ℕ, ◌≡◌}
use Rattle.memory.specs.Memory.{rom_base}
use Rattle.isolation.specs.Reach.{SameReached}
use Rattle.isolation.specs.Isolation.{asid, World, run, UserWorld, UserFor}

-- two worlds that are alike but for RAM and ROM bytes that no User address reaches
pub record OneMachine (w₁ w₂ : World) : Type 0 where
  pub machine : w₁.machine ≡ w₂.machine
  pub lines : w₁.lines ≡ w₂.lines
  pub ram : SameReached w₁.machine.tlb (asid w₁.machine) 0 w₁.ram w₂.ram
  pub rom : SameReached w₁.machine.tlb (asid w₁.machine) rom_base w₁.rom w₂.rom

-- what two runs of one budget have in common: registers, CP0 and TLB, the counted steps, the stop, and every reached byte
pub record StaysOne (w₁ w₂ : World) (n : ℕ) : Type 0 where
  pub machine : (run w₁ n).machine ≡ (run w₂ n).machine
  pub steps : (run w₁ n).steps ≡ (run w₂ n).steps
  pub stop : (run w₁ n).stop ≡ (run w₂ n).stop
  pub ram : SameReached w₁.machine.tlb (asid w₁.machine) 0 (run w₁ n).ram (run w₂ n).ram

-- after each step, up to and with the first that leaves User mode or stops, the two runs are alike
abbrev pub MemoryIsolation : Type 0
MemoryIsolation = (w₁ w₂ : World) → UserWorld w₁ → UserWorld w₂ → OneMachine w₁ w₂ → (n : ℕ) → UserFor n w₁ → StaysOne w₁ w₂ n
