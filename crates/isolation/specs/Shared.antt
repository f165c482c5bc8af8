-- Mills that share a card by ASID: worlds to compute with, and how far the promise goes.
use Rattle.std.specs.Prelude.{ℕ, ◌/◌, ◌%◌, ◌<◌, ◌≡◌, List, [], ◌∷◌, ◌++◌, ◌⊎◌, false, get_or, replicate}
use Rattle.tlb.specs.Slot.{slot_at, asid_of, global_of}
use Rattle.effect.specs.After.{cpu_of}
use Rattle.card.specs.Machine.{machine}
use Rattle.card.specs.Run.{Whole}
use Rattle.isolation.specs.Neighbour.{Neighbour, Neighbours}
use Rattle.isolation.specs.Isolation.{World, asid, run, UserWorld, UserFor, Alike}
use Rattle.isolation.specs.Example.{user_cp0}

-- slot 0 is global and maps mill A's program, page 0, onto frame 0; slots 1 and 2 have these as EntryHi and EntryLo0
unfoldable pub slots : ℕ → ℕ → ℕ → ℕ → List ℕ
slots hi₁ lo₁ hi₂ lo₂ = 0 ∷ 0x1000 ∷ 2 ∷ 0 ∷ 0 ∷ hi₁ ∷ lo₁ ∷ 0 ∷ 0 ∷ hi₂ ∷ lo₂ ∷ 0 ∷ replicate 180 0

-- frame 0 has the program, LW r8, 8192(r0), and frame 1 mill B's word 0b0b0b0b
unfoldable pub frames : List ℕ
frames = 0x8c ∷ 0x08 ∷ 0x20 ∷ 0x00 ∷ (replicate 4092 0 ++ (0x0b ∷ 0x0b ∷ 0x0b ∷ 0x0b ∷ replicate 4 0))

-- mill A at address 0, under ASID 1
unfoldable pub sharing : ℕ → ℕ → ℕ → ℕ → World
sharing hi₁ lo₁ hi₂ lo₂ = record { machine = machine (cpu_of 0 false 0 0 0 false) user_cp0 (replicate 32 0) (slots hi₁ lo₁ hi₂ lo₂); ram = frames; rom = []; lines = 0 }

-- how a run ended: the stop, the counted steps, PC, the exception's code, BadVAddr, and what r8 has learnt
abbrev pub shown : Whole → List ℕ
shown w = w.stop ∷ w.steps ∷ w.machine.cpu.pc ∷ w.machine.cp0.cause / 4 % 32 ∷ w.machine.cp0.badvaddr ∷ get_or w.machine.regs 8 0 ∷ []

-- a User world, and how its one step ends
pub record Ends (w : World) (stop steps pc code address r8 : ℕ) : Type 0 where
  pub world : UserWorld w
  pub ends : shown (run w 1) ≡ stop ∷ steps ∷ pc ∷ code ∷ address ∷ r8 ∷ []

-- the step by what slots 1 and 2 are. EntryHi 2001h is page 2000h of ASID 1, 2002h that of ASID 2, 3002h the same but global (T6);
-- EntryLo0 46h is frame 1, valid and dirty, 2 is frame 0, valid, and 0 is not valid (T3)
pub record Computed : Type 0 where
  -- A has no page there: a refill, whether B's half is valid or not (T24 to T27)
  pub theirs_valid : Ends (sharing 0 0 0x2002 0x46) 0 1 0xffffffff80000000 2 0x2000 0
  pub theirs_invalid : Ends (sharing 0 0 0x2002 0) 0 1 0xffffffff80000000 2 0x2000 0
  -- A has the page, onto frame 0: A's is read, whether B's slot is for the same page or not, and it is no stop 16
  pub same_page : Ends (sharing 0x2001 2 0x2002 0x46) 0 1 4 0 0 0xffffffff8c082000
  pub other_page : Ends (sharing 0x2001 2 0x6002 0) 0 1 4 0 0 0xffffffff8c082000
  -- that it is where both slots are A's (N10)
  pub both_own : Ends (sharing 0x2001 2 0x2001 0x46) 16 0 0 0 0 0
  -- a global slot, or one of A's own, does matter: valid, it is read; not valid, it is an exception at the general vector
  pub global_valid : Ends (sharing 0 0 0x3002 0x46) 0 1 4 0 0 0x0b0b0b0b
  pub global_invalid : Ends (sharing 0 0 0x3002 0) 0 1 0xffffffff80000180 2 0x2000 0
  pub own_valid : Ends (sharing 0 0 0x2001 0x46) 0 1 4 0 0 0x0b0b0b0b
  pub own_invalid : Ends (sharing 0 0 0x2001 0) 0 1 0xffffffff80000180 2 0x2000 0

-- the worlds of the first two pairs are alike
pub record Shared : Type 0 where
  pub no_page : Alike (sharing 0 0 0x2002 0x46) (sharing 0 0 0x2002 0)
  pub own_page : Alike (sharing 0x2001 2 0x2002 0x46) (sharing 0x2001 2 0x6002 0)

-- ---- how far it goes

-- worlds equal in all but slots, which may differ where `may` says it of the two TLBs, the ASID and the slot
pub record But (may : List ℕ → List ℕ → ℕ → ℕ → Type 0) (w₁ w₂ : World) : Type 0 where
  pub cpu : w₁.machine.cpu ≡ w₂.machine.cpu
  pub cp0 : w₁.machine.cp0 ≡ w₂.machine.cp0
  pub regs : w₁.machine.regs ≡ w₂.machine.regs
  pub slots : (i : ℕ) → i < 48 → (slot_at w₁.machine.tlb i ≡ slot_at w₂.machine.tlb i) ⊎ may w₁.machine.tlb w₂.machine.tlb (asid w₁.machine) i
  pub lines : w₁.lines ≡ w₂.lines
  pub ram : w₁.ram ≡ w₂.ram
  pub rom : w₁.rom ≡ w₂.rom

-- the promise with such slots, cut down to the registers
abbrev pub Promised : (List ℕ → List ℕ → ℕ → ℕ → Type 0) → Type 0
Promised may =
    (w₁ w₂ : World) → UserWorld w₁ → UserWorld w₂ → But may w₁ w₂ → (n : ℕ) → UserFor n w₁
    → (run w₁ n).machine.regs ≡ (run w₂ n).machine.regs

-- slot i of both is of another ASID, global or not
abbrev pub Others : List ℕ → List ℕ → ℕ → ℕ → Type 0
Others tlb₁ tlb₂ asid i = (asid_of (slot_at tlb₁ i).hi ≡ asid → ⊥) × (asid_of (slot_at tlb₂ i).hi ≡ asid → ⊥)

-- slot i of both is not global, whatever its ASID
abbrev pub NotGlobal : List ℕ → List ℕ → ℕ → ℕ → Type 0
NotGlobal tlb₁ tlb₂ asid i = (global_of (slot_at tlb₁ i).hi ≡ false) × (global_of (slot_at tlb₂ i).hi ≡ false)

-- it holds of slots that in both are a neighbour's. It would not hold of global ones, nor of the program's own, nor of
-- those that are a neighbour's in one of the two, whatever the other has there
pub record Limits : Type 0 where
  pub neighbours : Promised Neighbours
  pub refuted_global : Promised Others → ⊥
  pub refuted_own : Promised NotGlobal → ⊥
  pub refuted_first_alone : Promised (λ tlb₁ tlb₂. Neighbour tlb₁) → ⊥
  pub refuted_second_alone : Promised (λ tlb₁ tlb₂. Neighbour tlb₂) → ⊥
