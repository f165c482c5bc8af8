-- What stop 16 means: the address is looked up, and two different slots of the 48 match it (N10, N18, T4).
use Rattle.std.specs.Prelude.{ℕ, ◌%◌, ◌^◌, ◌≤◌, ◌<◌, ◌≡◌, ◌↔◌, ◌⊎◌, Err}
use Rattle.tlb.specs.declared.VAddr.{VAddr}
use Rattle.tlb.specs.declared.Mode.{Mode}
use Rattle.tlb.specs.declared.Mode.TheVariants.{User, Kernel, Error}
use Rattle.tlb.specs.declared.Where.TheVariants.{Double}
use Rattle.tlb.specs.Slot.{asid_of}
use Rattle.tlb.specs.Match.{matches_at, Two}
use Rattle.tlb.specs.Translate.{vaddr}
use Rattle.tlb.specs.Probe.{probe}
use Rattle.cp0.specs.Status.{mode_of}
use Rattle.card.specs.declared.Machine.{Machine}
use Rattle.demands.specs.StepStops.{goes}

-- two different slots match an address, under the machine's ASID
abbrev pub TwoSlots : Machine → VAddr → Type 0
TwoSlots m v = Two (matches_at m.tlb (asid_of m.cp0.entryhi) v) 48

-- an address is the sign extension of its low 32 bits: it lies in the lowest or in the highest 2^31 (D3)
abbrev pub SignExtended : VAddr → Type 0
SignExtended v = (v.0 < 0x80000000) ⊎ ((0xffffffff80000000 ≤ v.0) × (v.0 < 2 ^ 64))

-- the low words that a mode has mapped: User 0..7FFFFFFF (D6), Kernel that and C0000000..FFFFFFFF, the second alone while ERL is set (D7)
abbrev pub MappedWord : Mode → ℕ → Type 0
MappedWord User w = w < 0x80000000
MappedWord Kernel w = (w < 0x80000000) ⊎ (0xc0000000 ≤ w)
MappedWord Error w = 0xc0000000 ≤ w

-- the address is looked up in the TLB: it is aligned, sign-extended and of a segment that its mode has mapped (D3, D6, D7, N18)
pub record LookedUp (m : Machine) (align : ℕ) (v : VAddr) : Type 0 where
  pub aligned : v.0 % align ≡ 0
  pub extended : SignExtended v
  pub in_segment : MappedWord (mode_of m.cp0.status) (v.0 % 2 ^ 32)

-- of every machine: an address of a fetch, a load or a store, and TLBP, which looks EntryHi up
pub record TwiceMeans (m : Machine) : Type 0 where
  pub address : (align : ℕ) (v : VAddr) → (goes m align v ≡ Double) ↔ (LookedUp m align v × TwoSlots m v)
  pub tlbp : (probe m.tlb m.cp0.entryhi ≡ Err (record {})) ↔ TwoSlots m (vaddr m.cp0.entryhi)
