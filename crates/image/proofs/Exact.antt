-- Refusals of an image are exact: the two lengths are tested first, and then the lines decide.
use Prim.Native.Nat.{ℕ, ◌<◌, ◌≤◌}
use mathlib.Core.Bool.{Bool, true, false}
use mathlib.Core.List.{List}
use mathlib.Core.Logic.{◌⊎◌, inl, inr}
use mathlib.Core.Path.{◌≡◌, refl, sym, ap, ◌∙◌, subst, subst⁻¹}
use native.Mathlib.Omega.{arith}
use borrow.Author.Tests.{eq-eqb, ne_eqb, eqb-true, eqb-false, leb-true, leb-false, le-leb, lt-leb}
use lib.Dec.{eqb, leb}
use lib.ListN.{length}
use Rattle.std.specs.Prelude.{Option, Some, None}
use Rattle.frame.specs.Line.{from_line}
use Rattle.image.specs.declared.Refusal.{Refusal}
use Rattle.image.specs.Refusals.{refusal, size, image_refusal}
use Rattle.image.specs.Acts.{Loaded}
use Rattle.image.specs.Image.{image_by, ram_by, loaded_by, image_of, ram_after}
use Rattle.image.specs.Exact.{NoFrame, BadValue, AfterBudget, NoBudget, Whole, Fits, Gives, Exact}
use Rattle.image.proofs.Reached.{first_from, start}
use Rattle.image.proofs.Given.{Tells, walk, gives_zero, gives_six, gives_seven, gives_eight}
use Rattle.image.proofs.InRange.{image_in_range}

-- the image has the refusal that the text has, and RAM is unchanged where there is one
refusal_kept : (r : Option Refusal) (l : Loaded) → (image_by r l).refusal ≡ r
refusal_kept None l = refl
refusal_kept (Some r) l = refl

ram_kept : (r : Option Refusal) (k : Refusal) (l : Loaded) (ram : List ℕ) → r ≡ Some k → ram_by r l ram ≡ ram
ram_kept r k l ram e = rw e

module _ (text ram : List ℕ) where
  -- ---- what each length leads to

  bad_ram : (length ram ≡ 65536 → ⊥) → image_refusal text ram ≡ Some (refusal 1 0)
  unfolding image_refusal
  bad_ram h = simp (ne_eqb _ _ h)

  too_long : length ram ≡ 65536 → 65536 < length text → image_refusal text ram ≡ Some (refusal 5 0)
  unfolding image_refusal
  too_long p q = simp (eq-eqb _ _ p, lt-leb _ _ q)

  by_lines : Fits text ram → image_refusal text ram ≡ first_from text 1 false
  unfolding image_refusal from_line
  by_lines f = simp (eq-eqb _ _ f.0, le-leb _ _ f.1)

  -- ---- what is given is given in its case

  record Shown (number n : ℕ) : Type 0 where
    one : number ≡ 1 → (length ram ≡ 65536 → ⊥) × (n ≡ 0)
    five : number ≡ 5 → (length ram ≡ 65536) × (65536 < length text) × (n ≡ 0)
    six : number ≡ 6 → Fits text ram × NoFrame text n
    seven : number ≡ 7 → Fits text ram × BadValue text n
    eight : number ≡ 8 → Fits text ram × (AfterBudget text n ⊎ NoBudget text n)
    no_other : (number ≡ 1) ⊎ ((5 ≤ number) × (number ≤ 8))

  abbrev Shows : Option Refusal → Type 0
  Shows None = Fits text ram × Whole text
  Shows (Some r) = Shown r.number r.line

  shows_one : (length ram ≡ 65536 → ⊥) → Shown 1 0
  shows_one h =
      record {
        one = λ e. (h, refl);
        five = λ e. absurd (omega arith);
        six = λ e. absurd (omega arith);
        seven = λ e. absurd (omega arith);
        eight = λ e. absurd (omega arith);
        no_other = inl refl;
      }

  shows_five : length ram ≡ 65536 → 65536 < length text → Shown 5 0
  shows_five p q =
      record {
        one = λ e. absurd (omega arith);
        five = λ e. (p, q, refl);
        six = λ e. absurd (omega arith);
        seven = λ e. absurd (omega arith);
        eight = λ e. absurd (omega arith);
        no_other = inr (omega arith, omega arith);
      }

  shows_lines : Fits text ram → (r : Option Refusal) → Tells text r → Shows r
  shows_lines f None t = (f, t)
  shows_lines f (Some r) t =
      record {
        one = λ e. absurd (omega (arith, t.among));
        five = λ e. absurd (omega (arith, t.among));
        six = λ e. (f, t.six e);
        seven = λ e. (f, t.seven e);
        eight = λ e. (f, t.eight e);
        no_other = inr (omega (arith, t.among), omega (arith, t.among));
      }

  shows : Shows (image_refusal text ram)
  shows = go (eqb (length ram) size) (leb (length text) size) refl refl
    where
      go : (x y : Bool) → eqb (length ram) size ≡ x → leb (length text) size ≡ y → Shows (image_refusal text ram)
      go false y p q = subst⁻¹ Shows (bad_ram (eqb-false _ _ p)) (shows_one (eqb-false _ _ p))
      go true false p q = subst⁻¹ Shows (too_long (eqb-true _ _ p) (leb-false _ _ q)) (shows_five (eqb-true _ _ p) (leb-false _ _ q))
      go true true p q =
          let f : Fits text ram = (eqb-true _ _ p, leb-true _ _ q) in
          subst⁻¹ Shows (by_lines f) (shows_lines f _ (walk text (length (from_line text 1)) 1 false (omega arith) (start text)))

  -- ---- the image has the refusal of the text

  refusal_is : (image_of text ram).refusal ≡ image_refusal text ram
  unfolding image_of
  refusal_is = refusal_kept (image_refusal text ram) (loaded_by text ram)

  shown : (k n : ℕ) → Gives text ram k n → Shown k n
  shown k n g = subst Shows (sym refusal_is ∙ g) shows

  unchanged : (k n : ℕ) → Gives text ram k n → ram_after text ram ≡ ram
  unfolding ram_after
  unchanged k n g = ram_kept (image_refusal text ram) (refusal k n) (loaded_by text ram) ram (sym refusal_is ∙ g)

  pub exact : Exact text ram
  exact =
      record {
        zero = (λ g. subst Shows (sym refusal_is ∙ g) shows, λ c. refusal_is ∙ by_lines c.0 ∙ gives_zero text c.1);
        one = λ n. (λ g. (shown 1 n g).one refl, λ c. refusal_is ∙ bad_ram c.0 ∙ ap (λ (k : ℕ). Some (refusal 1 k)) (sym c.1));
        five = λ n. (λ g. (shown 5 n g).five refl, λ c. refusal_is ∙ too_long c.0 c.1 ∙ ap (λ (k : ℕ). Some (refusal 5 k)) (sym c.2));
        six = λ n. (λ g. (shown 6 n g).six refl, λ c. refusal_is ∙ by_lines c.0 ∙ gives_six text n c.1);
        seven = λ n. (λ g. (shown 7 n g).seven refl, λ c. refusal_is ∙ by_lines c.0 ∙ gives_seven text n c.1);
        eight = λ n. (λ g. (shown 8 n g).eight refl, λ c. refusal_is ∙ by_lines c.0 ∙ gives_eight text n c.1);
        no_other = λ k n g. (shown k n g).no_other;
        same_ram = unchanged;
        is_in_range = image_in_range text ram;
      }
