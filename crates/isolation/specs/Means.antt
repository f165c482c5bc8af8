-- What "reached" means, in the words of the demand.
use Rattle.std.specs.Prelude.{ℕ, ◌<◌, ◌^◌, ◌≡◌, true, List, ◌↔◌}
use Rattle.tlb.specs.Slot.{slot_at, valid_of, dirty_of}
use Rattle.tlb.specs.Match.{matches_at, Only}
use Rattle.tlb.specs.Translate.{vaddr, odd_of, lo_of, physical}
use Rattle.isolation.specs.Reach.{Reached, ReachedDirty}

-- the EntryLo of the half of slot i that v picks
abbrev pub lo : List ℕ → ℕ → ℕ → ℕ
lo tlb i v = lo_of (slot_at tlb i) (odd_of (slot_at tlb i).mask v)

-- a way to p: an address below 2^31, the slot that matches it, which no other of the 48 does, its half that the address picks, which is valid, and where that leads
pub record Leads (tlb : List ℕ) (asid p : ℕ) : Type 0 where
  pub from : ℕ
  pub slot : ℕ
  pub below : from < 2 ^ 31
  pub only : Only (matches_at tlb asid (vaddr from)) 48 slot
  pub valid : valid_of (lo tlb slot from) ≡ true
  pub lands : physical (slot_at tlb slot).mask (lo tlb slot from) from ≡ p

-- a way through a half that is dirty too
pub record LeadsDirty (tlb : List ℕ) (asid p : ℕ) : Type 0 where
  pub leads : Leads tlb asid p
  pub dirty : dirty_of (lo tlb leads.slot leads.from) ≡ true

-- a byte is reached where there is a way to it
pub record Means (tlb : List ℕ) (asid p : ℕ) : Type 0 where
  pub reached : Reached tlb asid p ↔ Leads tlb asid p
  pub dirty : ReachedDirty tlb asid p ↔ LeadsDirty tlb asid p

-- of every byte
abbrev pub ReachedMeans : Type 0
ReachedMeans = (tlb : List ℕ) (asid p : ℕ) → Means tlb asid p
