-- What a User program reaches of memory, by the TLB and the ASID that it runs under.
use Rattle.std.specs.Prelude.{ℕ, ◌+◌, ◌<◌, ◌^◌, ◌≡◌, true, List, length, get_or}
use Rattle.tlb.specs.declared.Half.{Half}
use Rattle.tlb.specs.declared.Where.TheVariants.{Mapped}
use Rattle.tlb.specs.Translate.{vaddr, paddr, mapped}

-- a User address below 2^31 leads to the byte at physical address p: exactly one slot of the 48 matches it for this ASID or
-- globally, the half that it picks is valid, and its translation is p
pub record Reached (tlb : List ℕ) (asid p : ℕ) : Type 0 where
  pub from : ℕ
  pub half : Half
  pub below : from < 2 ^ 31
  pub leads : mapped tlb asid (vaddr from) ≡ Mapped (paddr p) half

-- and the half is dirty too, so that a store may go there
pub record ReachedDirty (tlb : List ℕ) (asid p : ℕ) : Type 0 where
  pub reached : Reached tlb asid p
  pub dirty : reached.half.dirty ≡ true

-- two memories that start at physical address `base` are equally long and hold the same byte wherever a User address leads
pub record SameReached (tlb : List ℕ) (asid base : ℕ) (l₁ l₂ : List ℕ) : Type 0 where
  pub long : length l₁ ≡ length l₂
  pub same : (k : ℕ) → Reached tlb asid (base + k) → get_or l₁ k 0 ≡ get_or l₂ k 0

-- RAM holds its first value wherever no User address leads through a dirty half
pub record OnlyDirtyChanged (tlb : List ℕ) (asid : ℕ) (first now : List ℕ) : Type 0 where
  pub long : length now ≡ length first
  pub same : (k : ℕ) → (ReachedDirty tlb asid k → ⊥) → get_or now k 0 ≡ get_or first k 0
