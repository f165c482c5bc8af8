-- The promise to the mills: a User program learns nothing from, and changes nothing of, what it does not reach, and learns nothing of its neighbours' slots.
use Rattle.std.specs.Prelude.{ℕ, ◌<◌, ◌≡◌, Bool, true, false, List}
use Rattle.memory.specs.Memory.{rom_base}
use Rattle.tlb.specs.Slot.{asid_of}
use Rattle.cp0.specs.Status.{CU0, user}
use Rattle.card.specs.declared.Machine.{Machine}
use Rattle.card.specs.Run.{Whole, refusal, run_of}
use Rattle.isolation.specs.Reach.{SameReached, OnlyDirtyChanged}
use Rattle.isolation.specs.Neighbour.{SameSlots}

-- the machine is in User mode
abbrev pub in_user : Machine → Bool
in_user m = user m.cp0.status

-- the ASID that it runs under
abbrev pub asid : Machine → ℕ
asid m = asid_of m.cp0.entryhi

-- a machine with its memory and the interrupt lines of the run
pub record World : Type 0 where
  pub machine : Machine
  pub ram : List ℕ
  pub rom : List ℕ
  pub lines : ℕ

-- the run that the card makes of a world with a budget: the machine, RAM, the counted steps and the stop
abbrev pub run : World → ℕ → Whole
run w budget = run_of w.rom w.lines budget w.machine w.ram

-- the card accepts it, it is in User mode, and CU0 is clear
pub record UserWorld (w : World) : Type 0 where
  pub accepted : refusal w.machine w.ram w.rom w.lines ≡ 0
  pub user : in_user w.machine ≡ true
  pub locked : CU0 w.machine.cp0.status ≡ false

-- two worlds that are alike but for RAM and ROM bytes that no User address reaches, and for a neighbour's slots
pub record Alike (w₁ w₂ : World) : Type 0 where
  pub cpu : w₁.machine.cpu ≡ w₂.machine.cpu
  pub cp0 : w₁.machine.cp0 ≡ w₂.machine.cp0
  pub regs : w₁.machine.regs ≡ w₂.machine.regs
  pub slots : SameSlots (asid w₁.machine) w₁.machine.tlb w₂.machine.tlb
  pub lines : w₁.lines ≡ w₂.lines
  pub ram : SameReached w₁.machine.tlb (asid w₁.machine) 0 w₁.ram w₂.ram
  pub rom : SameReached w₁.machine.tlb (asid w₁.machine) rom_base w₁.rom w₂.rom

-- every one of the first n steps begins in User mode: none before the last has left it or stopped
abbrev pub UserFor : ℕ → World → Type 0
UserFor n w = (k : ℕ) → k < n → ((run w k).stop ≡ 0) × (in_user (run w k).machine ≡ true)

-- what two runs of one budget have in common: registers and CP0, every slot but a neighbour's, the counted steps, the stop, and every
-- reached byte; and each keeps its whole TLB as it was at first
pub record SameRun (w₁ w₂ : World) (n : ℕ) : Type 0 where
  pub cpu : (run w₁ n).machine.cpu ≡ (run w₂ n).machine.cpu
  pub cp0 : (run w₁ n).machine.cp0 ≡ (run w₂ n).machine.cp0
  pub regs : (run w₁ n).machine.regs ≡ (run w₂ n).machine.regs
  pub slots : SameSlots (asid w₁.machine) (run w₁ n).machine.tlb (run w₂ n).machine.tlb
  pub own₁ : (run w₁ n).machine.tlb ≡ w₁.machine.tlb
  pub own₂ : (run w₂ n).machine.tlb ≡ w₂.machine.tlb
  pub steps : (run w₁ n).steps ≡ (run w₂ n).steps
  pub stop : (run w₁ n).stop ≡ (run w₂ n).stop
  pub ram : SameReached w₁.machine.tlb (asid w₁.machine) 0 (run w₁ n).ram (run w₂ n).ram

-- Isolation, for any budget: after each step, up to and with the first that leaves User mode or stops, the two runs are alike
abbrev pub Isolation : Type 0
Isolation = (w₁ w₂ : World) → UserWorld w₁ → UserWorld w₂ → Alike w₁ w₂ → (n : ℕ) → UserFor n w₁ → SameRun w₁ w₂ n

-- Confinement, for any budget: a RAM byte that is not reached through a valid and dirty half keeps its first value
abbrev pub Confinement : Type 0
Confinement =
    (w : World) → UserWorld w → (n : ℕ) → UserFor n w
    → OnlyDirtyChanged w.machine.tlb (asid w.machine) w.ram (run w n).ram

-- no step of that span changes the TLB or the ASID, the last neither; so what is reached, and which slots are a neighbour's, stays as it was at first
abbrev pub Still : Type 0
Still = (w : World) → UserWorld w → (n : ℕ) → UserFor n w → ((run w n).machine.tlb ≡ w.machine.tlb) × (asid (run w n).machine ≡ asid w.machine)

-- which of two worlds is called the first makes no difference
abbrev pub Turned : Type 0
Turned = (w₁ w₂ : World) → Alike w₁ w₂ → Alike w₂ w₁

-- if each of the first's n steps begins in User mode, so does each of the second's
abbrev pub SameSpan : Type 0
SameSpan = (w₁ w₂ : World) → UserWorld w₁ → UserWorld w₂ → Alike w₁ w₂ → (n : ℕ) → UserFor n w₁ → UserFor n w₂
