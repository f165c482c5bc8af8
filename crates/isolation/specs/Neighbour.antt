-- A neighbour's slots: those of another address space, which a User program's run does not depend on.
use Rattle.std.specs.Prelude.{ℕ, ◌<◌, ◌≡◌, false, List, ◌⊎◌, ◌↔◌}
use Rattle.tlb.specs.declared.VAddr.{VAddr}
use Rattle.tlb.specs.Slot.{slot_at, asid_of, global_of}
use Rattle.tlb.specs.Match.{matches_at}
use Rattle.isolation.specs.Reach.{Reached, ReachedDirty}

-- slot i is a neighbour's: not global, and of an ASID other than this one (W10)
pub record Neighbour (tlb : List ℕ) (asid i : ℕ) : Type 0 where
  pub not_global : global_of (slot_at tlb i).hi ≡ false
  pub other : asid_of (slot_at tlb i).hi ≡ asid → ⊥

-- slot i is a neighbour's in both TLBs
abbrev pub Neighbours : List ℕ → List ℕ → ℕ → ℕ → Type 0
Neighbours tlb₁ tlb₂ asid i = Neighbour tlb₁ asid i × Neighbour tlb₂ asid i

-- two TLBs are alike but for slots that in both are a neighbour's (W10)
pub record SameSlots (asid : ℕ) (tlb₁ tlb₂ : List ℕ) : Type 0 where
  pub same : (i : ℕ) → i < 48 → (slot_at tlb₁ i ≡ slot_at tlb₂ i) ⊎ Neighbours tlb₁ tlb₂ asid i

-- a neighbour's slot matches no address, so it is never found, nor one of two that are stop 16
abbrev pub MatchesNothing : Type 0
MatchesNothing = (tlb : List ℕ) (asid i : ℕ) (v : VAddr) → Neighbour tlb asid i → matches_at tlb asid v i ≡ false

-- which of two such TLBs says what is reached makes no difference
pub record ReachedByEither (asid : ℕ) (tlb₁ tlb₂ : List ℕ) : Type 0 where
  pub reached : (p : ℕ) → Reached tlb₁ asid p ↔ Reached tlb₂ asid p
  pub dirty : (p : ℕ) → ReachedDirty tlb₁ asid p ↔ ReachedDirty tlb₂ asid p

abbrev pub ReachedAlike : Type 0
ReachedAlike = (asid : ℕ) (tlb₁ tlb₂ : List ℕ) → SameSlots asid tlb₁ tlb₂ → ReachedByEither asid tlb₁ tlb₂
