-- What a write to one slot leaves of the TLB: its EntryHi and one half, and nothing else.
use Prim.Native.Nat.{ℕ, ◌+◌, ◌*◌, ◌<◌}
use native.Mathlib.Omega.{arith}
use mathlib.Core.Path.{◌≡◌, ◌∙◌}
use mathlib.Core.List.{List}
use lib.ListN.{length, length-set, get_or, set}
use lib.Seq.{get_or-set_same, get_or-set_other}

module _ (l : List ℕ) (long : length l ≡ 192) (i odd x y : ℕ) (there : i < 48) (half : odd < 2) where
  -- EntryHi x, and EntryLo y of that half
  abbrev pub put : List ℕ
  put = set (set l (i * 4 + 1) x) (i * 4 + 2 + odd) y

  other : (k : ℕ) → (k ≡ i * 4 + 1 → ⊥) → (k ≡ i * 4 + 2 + odd → ⊥) → get_or put k 0 ≡ get_or l k 0
  other k n₁ n₂ = get_or-set_other (set l (i * 4 + 1) x) (i * 4 + 2 + odd) k y 0 n₂ ∙ get_or-set_other l (i * 4 + 1) k x 0 n₁

  pub hi_here : get_or put (i * 4 + 1) 0 ≡ x
  hi_here =
      let n : i * 4 + 1 ≡ i * 4 + 2 + odd → ⊥ = λ e. absurd (omega arith) in
      get_or-set_other (set l (i * 4 + 1) x) (i * 4 + 2 + odd) (i * 4 + 1) y 0 n ∙ get_or-set_same l (i * 4 + 1) x 0 (omega arith)

  pub hi_other : (j : ℕ) → (j ≡ i → ⊥) → get_or put (j * 4 + 1) 0 ≡ get_or l (j * 4 + 1) 0
  hi_other j n =
      let n₁ : j * 4 + 1 ≡ i * 4 + 1 → ⊥ = λ e. n (omega arith) in
      let n₂ : j * 4 + 1 ≡ i * 4 + 2 + odd → ⊥ = λ e. absurd (omega arith) in
      other (j * 4 + 1) n₁ n₂

  pub lo_here : get_or put (i * 4 + 2 + odd) 0 ≡ y
  lo_here =
      let t : length (set l (i * 4 + 1) x) ≡ 192 = length-set l (i * 4 + 1) x ∙ long in
      get_or-set_same (set l (i * 4 + 1) x) (i * 4 + 2 + odd) y 0 (omega arith)

  pub lo_other : (j h : ℕ) → h < 2 → (j * 4 + 2 + h ≡ i * 4 + 2 + odd → ⊥) → get_or put (j * 4 + 2 + h) 0 ≡ get_or l (j * 4 + 2 + h) 0
  lo_other j h g n = let n₁ : j * 4 + 2 + h ≡ i * 4 + 1 → ⊥ = λ e. absurd (omega arith) in other (j * 4 + 2 + h) n₁ n

  pub mask_same : (j : ℕ) → get_or put (j * 4) 0 ≡ get_or l (j * 4) 0
  mask_same j =
      let n₁ : j * 4 ≡ i * 4 + 1 → ⊥ = λ e. absurd (omega arith) in
      let n₂ : j * 4 ≡ i * 4 + 2 + odd → ⊥ = λ e. absurd (omega arith) in
      other (j * 4) n₁ n₂

  -- EntryLo y of that half alone
  abbrev pub granting : List ℕ
  granting = set l (i * 4 + 2 + odd) y

  pub granted_here : get_or granting (i * 4 + 2 + odd) 0 ≡ y
  granted_here = get_or-set_same l (i * 4 + 2 + odd) y 0 (omega arith)

  pub granted_other : (k : ℕ) → (k ≡ i * 4 + 2 + odd → ⊥) → get_or granting k 0 ≡ get_or l k 0
  granted_other k n = get_or-set_other l (i * 4 + 2 + odd) k y 0 n
