-- Isolation by name: while the TLB is as the image made it, no mill reads or alters what stands in another's pages or in the kernel's.
use Rattle.std.specs.Prelude.{ℕ, ◌/◌, ◌≡◌, List, length, get_or}
use Rattle.isolation.specs.Neighbour.{SameSlots}
use Rattle.isolation.specs.Isolation.{World, UserWorld, UserFor, SameRun, asid, run}
use Rattle.mills.specs.Mills.{Image, Mill, machine, owner_of}

-- mill a runs: in User mode with CU0 clear, under its ASID, with the TLB that the image made; whatever else the kernel has done since
pub record Runs (file : ℕ → List ℕ) (n : ℕ) (settings : List ℕ) (a : ℕ) (w : World) : Type 0 where
  pub one : Mill n a
  pub world : UserWorld w
  pub slots : w.machine.tlb ≡ (machine file n settings).tlb
  pub under : asid w.machine ≡ a

-- two worlds differ only in slots that in both are a neighbour's, and in RAM only in pages that are not mill a's: the other mills', the kernel's, nobody's
pub record But (file : ℕ → List ℕ) (n : ℕ) (settings : List ℕ) (a : ℕ) (w₁ w₂ : World) : Type 0 where
  pub cpu : w₁.machine.cpu ≡ w₂.machine.cpu
  pub cp0 : w₁.machine.cp0 ≡ w₂.machine.cp0
  pub regs : w₁.machine.regs ≡ w₂.machine.regs
  pub slots : SameSlots a w₁.machine.tlb w₂.machine.tlb
  pub roms : w₁.rom ≡ w₂.rom
  pub lines : w₁.lines ≡ w₂.lines
  pub long : length w₁.ram ≡ length w₂.ram
  pub same : (p : ℕ) → owner_of file n settings (p / 4096) ≡ a → get_or w₁.ram p 0 ≡ get_or w₂.ram p 0

-- mill a's run does not depend on what the others' pages hold, nor on their slots, after each step up to and with the first that leaves User mode or stops
abbrev pub Unseen : Type 0
Unseen =
    (file : ℕ → List ℕ) (n : ℕ) (settings : List ℕ) → Image file n settings → (a : ℕ) (w₁ w₂ : World) → Runs file n settings a w₁ → UserWorld w₂ → But file n settings a w₁ w₂
    → (k : ℕ) → UserFor k w₁ → SameRun w₁ w₂ k

-- and it leaves every byte of their pages as it was, for the same span
abbrev pub Unharmed : Type 0
Unharmed =
    (file : ℕ → List ℕ) (n : ℕ) (settings : List ℕ) → Image file n settings → (a : ℕ) (w : World) → Runs file n settings a w
    → (k : ℕ) → UserFor k w → (p : ℕ) → (owner_of file n settings (p / 4096) ≡ a → ⊥) → get_or (run w k).ram p 0 ≡ get_or w.ram p 0
