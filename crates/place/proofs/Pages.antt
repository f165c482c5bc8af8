-- What a page of a program takes.
use Prim.Native.Nat.{ℕ, ◌+◌, ◌<◌, ◌≤◌}
use mathlib.Core.Bool.{Bool, true, false}
use mathlib.Core.Path.{◌≡◌, sym, ap, ◌∙◌}
use native.Mathlib.Omega.{arith}
use borrow.Author.Tests.{eq-eqb, ne_eqb, lt-ltb, le-ltb}
use lib.Dec.{eqb}
use lib.ListN.{get_or}
use Rattle.promise.specs.Pick.{pick}
use Rattle.place.specs.Plan.{Plan, key, lo_at, find, more, taken, crowded, again, add_at, add}

-- a slot more at most
pub more_least : (used i next : ℕ) → i ≤ used → used ≤ next → more used i ≤ next + 1
unfolding more
more_least used i next h g = go (eqb i used)
  where
    go : (t : Bool) → pick t (i + 1) used ≤ next + 1
    go true = omega arith
    go false = omega arith

-- a page in the slot that is found for it
module _ (p : Plan) (asid page : ℕ) (writable : Bool) (hi : ℕ) (k : hi ≡ key asid page) (i : ℕ) (e : i ≡ find p.tlb hi p.used 0) (at : ℕ) (a : at ≡ lo_at i page) where
  add_found : add_at p asid page writable i ≡ add p asid page writable
  unfolding add
  add_found = ap (add_at p asid page writable) (e ∙ ap (λ (h : ℕ). find p.tlb h p.used 0) k)

  lo_is : get_or p.tlb (lo_at i page) 0 ≡ get_or p.tlb at 0
  lo_is = ap (λ (n : ℕ). get_or p.tlb n 0) (sym a)

  pub add_again : (get_or p.tlb at 0 ≡ 0 → ⊥) → again p page writable i ≡ add p asid page writable
  unfolding add_at
  add_again h = sym (simp (ne_eqb _ _ (λ z. h (sym lo_is ∙ z)))) ∙ add_found

  pub add_crowded : get_or p.tlb at 0 ≡ 0 → 16 ≤ p.next → crowded p asid ≡ add p asid page writable
  unfolding add_at
  add_crowded h g = sym (simp (eq-eqb _ _ (lo_is ∙ h), le-ltb _ _ g)) ∙ add_found

  pub add_taken : get_or p.tlb at 0 ≡ 0 → p.next < 16 → taken p asid page writable i ≡ add p asid page writable
  unfolding add_at
  add_taken h g = sym (simp (eq-eqb _ _ (lo_is ∙ h), lt-ltb _ _ g)) ∙ add_found
