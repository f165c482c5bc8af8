-- A search that holds has a place where its test holds, and one that does not hold has none: of every search over `left` numbers from i on.
use Prim.Native.Nat.{ℕ, zero, suc, ◌+◌, ◌<◌, ◌≤◌}
use mathlib.Core.Bool.{Bool, true, false}
use mathlib.Core.Path.{◌≡◌, refl, sym, ap, ◌∙◌}
use native.Mathlib.Decide.{ℕ_discrete}
use native.Mathlib.Omega.{arith}
use Rattle.std.specs.Prelude.{◌||◌, Option, Some, None}
use Rattle.std.specs.Option.{option_map}
use Rattle.std.specs.List.{list_any, find, range_with_len}
use Rattle.promise.specs.Pick.{pick, either}
use Rattle.elf.proofs.Laws.{never}

pub record Hit (t : ℕ → Bool) (i left : ℕ) : Type 0 where
  pub place : ℕ
  pub from : i ≤ place
  pub below : place < i + left
  pub hit : t place ≡ true

or_either : (a b c : Bool) → b ≡ c → (a || b) ≡ either a c
or_either true b c e = refl
or_either false b c e = e

module _ (t : ℕ → Bool) (f : ℕ → ℕ → Bool) (none : (i : ℕ) → f zero i ≡ false) (more : (left i : ℕ) → f (suc left) i ≡ either (t i) (f left (i + 1))) where
  pub hits : (left i : ℕ) → f left i ≡ true → Hit t i left
  hits zero i e = absurd (never (f zero i) e (none i))
  hits (suc left) i e = go (hits left (i + 1)) (t i) refl
    where
      go : (f left (i + 1) ≡ true → Hit t (i + 1) left) → (b : Bool) → t i ≡ b → Hit t i (suc left)
      go rest true h = record { place = i; from = omega arith; below = omega arith; hit = h }
      go rest false h =
          let r = rest (sym (more left i ∙ ap (λ (b : Bool). either b (f left (i + 1))) h) ∙ e) in
          record { place = r.place; from = omega arith; below = omega arith; hit = r.hit }

  pub misses : (left i : ℕ) → f left i ≡ false → (j : ℕ) → i ≤ j → j < i + left → t j ≡ false
  misses zero i e j l u = absurd (omega arith)
  misses (suc left) i e j l u = go (λ r p. misses left (i + 1) r j p) (t i) refl (ℕ_discrete j i)
    where
      go : (f left (i + 1) ≡ false → i + 1 ≤ j → j < i + 1 + left → t j ≡ false) → (b : Bool) → t i ≡ b → Dec (j ≡ i) → t j ≡ false
      go rest true h d = absurd (never true refl (sym (more left i ∙ ap (λ (b : Bool). either b (f left (i + 1))) h) ∙ e))
      go rest false h (yes d) = rw d h
      go rest false h (no n) = rest (sym (more left i ∙ ap (λ (b : Bool). either b (f left (i + 1))) h) ∙ e) (omega arith) (omega arith)

  -- it is the search that `any` makes of these numbers
  pub any_is : (left i : ℕ) → list_any t (range_with_len i left) ≡ f left i
  any_is zero i = sym (none i)
  any_is (suc left) i = or_either (t i) _ _ (any_is left (i + 1)) ∙ sym (more left i)

-- the first place of a range where a test holds
module _ (t : ℕ → Bool) where
  holds : (left i x : ℕ) → Some x ≡ find t (range_with_len i left) → t x ≡ true
  holds zero i x e = cc
  holds (suc left) i x e = go (holds left (i + 1) x) (t i) refl
    where
      go : (Some x ≡ find t (range_with_len (i + 1) left) → t x ≡ true) → (b : Bool) → t i ≡ b → t x ≡ true
      go rest true h = let z : Some x ≡ Some i = simp h at e in cc
      go rest false h = rest (simp h at e)

  pub found_holds : (left i : ℕ) (r : Option ℕ) → option_map (λ (x : ℕ). x) r ≡ find t (range_with_len i left) → (x : ℕ) → r ≡ Some x → t x ≡ true
  found_holds left i r e x q = holds left i x (sym (ap (option_map (λ (x : ℕ). x)) q) ∙ e)

  -- what it gives, or else another: of every choice of the first case over `left` numbers from i on
  module _ {A : Type 0} (got : ℕ → A) (none : A) (f : ℕ → ℕ → A) (stop : (i : ℕ) → f zero i ≡ none) (more : (left i : ℕ) → f (suc left) i ≡ pick (t i) (got i) (f left (i + 1))) where
    gives : Option ℕ → A
    gives None = none
    gives (Some x) = got x

    first_is : (left i : ℕ) → gives (find t (range_with_len i left)) ≡ f left i
    unfolding gives
    first_is zero i = sym (stop i)
    first_is (suc left) i = go (first_is left (i + 1)) (t i) refl
      where
        go : gives (find t (range_with_len (i + 1) left)) ≡ f left (i + 1) → (b : Bool) → t i ≡ b → gives (find t (range_with_len i (suc left))) ≡ f (suc left) i
        go rest true h = simp h (sym (more left i ∙ ap (λ (b : Bool). pick b (got i) (f left (i + 1))) h))
        go rest false h = simp h (rest ∙ sym (more left i ∙ ap (λ (b : Bool). pick b (got i) (f left (i + 1))) h))

    pub found_some : (left i : ℕ) (r : Option ℕ) → option_map (λ (x : ℕ). x) r ≡ find t (range_with_len i left) → (x : ℕ) → r ≡ Some x → got x ≡ f left i
    unfolding gives
    found_some left i r e x q = ap gives (sym (ap (option_map (λ (x : ℕ). x)) q) ∙ e) ∙ first_is left i

    pub found_none : (left i : ℕ) (r : Option ℕ) → option_map (λ (x : ℕ). x) r ≡ find t (range_with_len i left) → r ≡ None → none ≡ f left i
    unfolding gives
    found_none left i r e q = ap gives (sym (ap (option_map (λ (x : ℕ). x)) q) ∙ e) ∙ first_is left i
