-- Laws of the files' ends.
use Prim.Native.Nat.{ℕ, suc, ◌-◌, ◌<◌, ◌≤◌}
use mathlib.Core.Path.{◌≡◌, sym, ap, ◌∙◌}
use mathlib.Core.List.{List, []}
use mathlib.Core.Logic.{◌⊎◌, inl, inr}
use native.Mathlib.Omega.{arith}
use Rattle.std.specs.Prelude.{Option, Some, None, unwrap_or, max}
use Rattle.std.specs.Ordering.{ord_max, nat_cmp}
use Rattle.std.specs.Slice.{IsGetRangeResult}
use Rattle.std.proofs.Common.{Bor}
use borrow.Author.Tests.{le-leb, lt-leb}
use lib.ListN.{length, take, drop}
use Rattle.promise.specs.Pick.{both_false}
use Rattle.place.specs.Files.{start, end, file_at}

-- a file begins where the one before it ends
pub start_next : (ends : List ℕ) (k : ℕ) → (k ≡ 0 → ⊥) → end ends (k - 1) ≡ start ends k
unfolding start end
start_next ends k h = sym (ap (start ends) (let e : k ≡ suc (k - 1) = omega arith in e))

module _ (files ends : List ℕ) (k a e : ℕ) (p : a ≡ start ends k) (q : e ≡ end ends k) where
  pub file_back : e < a → [] ≡ file_at files ends k
  unfolding file_at
  file_back h = simp (sym p, sym q, lt-leb a e h)

  pub file_past : length files < e → [] ≡ file_at files ends k
  unfolding file_at
  file_past h = simp (sym p, sym q, lt-leb e (length files) h, both_false)

  pub file_is : a ≤ e → e ≤ length files → take (e - a) (drop a files) ≡ file_at files ends k
  unfolding file_at
  file_is h g = simp (sym p, sym q, le-leb a e h, le-leb e (length files) g)

-- what the slice gives from one place up to another: the file, or nothing
module _ (files ends : List ℕ) (k a e : ℕ) (p : a ≡ start ends k) (q : e ≡ end ends k) where
  pub file_got : (r : Option (Bor (List ℕ))) (d : Bor (List ℕ)) → d.now ≡ [] → IsGetRangeResult files a e r → (unwrap_or r d).now ≡ file_at files ends k
  file_got (Some x) d z h = h.0.2 ∙ file_is files ends k a e p q h.0.0 h.0.1
  file_got None d z h = go h.0
    where
      go : (e < a) ⊎ (length files < e) → d.now ≡ file_at files ends k
      go (inl l) = z ∙ file_back files ends k a e p q l
      go (inr l) = z ∙ file_past files ends k a e p q l

-- the higher of two numbers
pub max_is : (a b : ℕ) → ord_max nat_cmp a b ≡ max a b
max_is a b = grind arith
