-- The lines of a text are gone through to the first that does not pass: each number is given there in its case, by induction over the lines.
use Prim.Native.Nat.{ℕ, zero, suc, ◌+◌, ◌<◌, ◌≤◌}
use mathlib.Core.Bool.{Bool, true, false}
use mathlib.Core.List.{List}
use mathlib.Core.Logic.{◌⊎◌, inl, inr}
use mathlib.Core.Path.{◌≡◌, refl, ap, ◌∙◌, subst, subst⁻¹}
use native.Mathlib.Numerals.{add-one}
use native.Mathlib.Omega.{arith}
use lib.ListN.{length, length-drop}
use Rattle.std.specs.Prelude.{Option, Some, None}
use Rattle.std.proofs.lemmas.Option.{same_Some}
use Rattle.promise.specs.Pick.{pick}
use Rattle.frame.specs.Line.{from_line}
use Rattle.image.specs.declared.Refusal.{Refusal}
use Rattle.image.specs.Refusals.{refusal, refusal_of}
use Rattle.image.specs.Exact.{There, frame_at, Budgeted, Passes, Reached, NoFrame, BadValue, AfterBudget, NoBudget, Whole}
use Rattle.image.proofs.Cases.{Good, Bad, given, gives_6, gives_7, gives_8, gives_none}
use Rattle.image.proofs.Reached.{differ, some, left, At, over, number_at, first_from, from_next, frame_there, stops, goes_on, ends, turn, start, passes}

module _ (text : List ℕ) where
  -- ---- what is given is given in its case

  pub record Told (number n : ℕ) : Type 0 where
    pub six : number ≡ 6 → NoFrame text n
    pub seven : number ≡ 7 → BadValue text n
    pub eight : number ≡ 8 → AfterBudget text n ⊎ NoBudget text n
    pub among : (6 ≤ number) × (number ≤ 8)

  abbrev pub Tells : Option Refusal → Type 0
  Tells None = Whole text
  Tells (Some r) = Told r.number r.line

  module _ (n : ℕ) (after : Bool) (a : At text n after) where
    -- a line that does not pass is the last that is looked at
    here : (b x : Bool) → over text n ≡ b → after ≡ x → (k : ℕ) → pick b (pick x None (Some 8)) (refusal_of after (frame_at text n)) ≡ Some k → Told k n
    here true true p q k h = absurd (cc)
    here true false p q k h =
        let e : 8 ≡ k = same_Some _ _ h in
        record {
          six = λ z. absurd (omega arith);
          seven = λ z. absurd (omega arith);
          eight = λ z. inr (a.reached, λ l. differ p (some _ l), a.not_yet q);
          among = (omega arith, omega arith);
        }
    here false x p q k h =
        let g = given after (frame_at text n) k h in
        record {
          six = λ e. (a.reached, left _ p, g.six e);
          seven = λ e. (a.reached, g.seven e);
          eight = λ e. let w = g.eight e in inl (a.reached, w.0, a.came w.1);
          among = g.among;
        }

    -- a line that passes leaves the rest to the lines after it
    tells : (over text n ≡ false → Passes text n → after ≡ false → number_at text n after ≡ None → Tells (first_from text n after)) → Tells (first_from text n after)
    tells later = go (number_at text n after) (over text n) after refl refl refl
      where
        go : (x : Option ℕ) (y z : Bool) → number_at text n after ≡ x → over text n ≡ y → after ≡ z → Tells (first_from text n after)
        go (Some k) y z p q r = subst⁻¹ Tells (stops text n after k p) (here (over text n) after refl refl k p)
        go None false z p q r = let g = passes text n after a q p in later q g.0 g.1 p
        go None true false p q r = let z : ◌≡◌ {A = Option ℕ} (Some 8) None = simp (q, r) at p in absurd (cc)
        go None true true p q r =
            subst⁻¹ Tells (ap (first_from text n) r ∙ ends text n q)
            (record { past = n; reached = a.reached; over = λ l. differ q (some _ l); budget = a.came r })

  shorter : (n fuel : ℕ) → 1 ≤ n → length (from_line text n) ≤ suc fuel → length (from_line text (n + 1)) ≤ fuel
  shorter n fuel c l = rw (from_next text n c, length-drop) (omega arith)

  pub walk : (fuel n : ℕ) (after : Bool) → length (from_line text n) ≤ fuel → At text n after → Tells (first_from text n after)
  walk zero n after l a = tells n after a (λ t p e h. absurd (let z : 0 < length (from_line text n) = left _ t in omega arith))
  walk (suc fuel) n after l a =
      tells n after a
      (λ t p e h. subst⁻¹ Tells (goes_on text n after a.reached.counted t h)
      (walk fuel (n + 1) _ (shorter n fuel a.reached.counted l) (turn text n after a p e)))

  -- ---- what is in its case is given

  good_there : (n : ℕ) → Good (frame_at text n) → over text n ≡ false
  good_there n p = frame_there text n (λ e. subst Good e p)

  bad_there : (n : ℕ) → Bad (frame_at text n) → over text n ≡ false
  bad_there n p = frame_there text n (λ e. subst Bad e p)

  -- line n is come to
  record Comes (n : ℕ) : Type 0 where
    after : Bool
    at : At text n after
    is : first_from text 1 false ≡ first_from text n after

  come_next : (n : ℕ) → Passes text n → Comes n → Comes (n + 1)
  come_next n p c = go c.after refl
    where
      go : (b : Bool) → c.after ≡ b → Comes (n + 1)
      go true e = absurd (p.in_time (c.at.came e))
      go false e =
          let t : over text n ≡ false = good_there n p.frame in
          let h : number_at text n c.after ≡ None = rw (t, gives_none c.after (frame_at text n) p.frame e) in
          record { after = _; at = turn text n c.after c.at p e; is = c.is ∙ goes_on text n c.after c.at.reached.counted t h }

  come : (n : ℕ) → Reached text n → Comes n
  come zero r = absurd (omega (arith, r.counted))
  come (suc zero) r = record { after = false; at = start text; is = refl }
  come (suc (suc n)) r =
      subst Comes (add-one (suc n))
      (come_next (suc n) (r.passed (suc n) (omega arith) (omega arith))
      (come (suc n) (record { counted = omega arith; passed = λ k l u. r.passed k l (omega arith) })))

  gives : (k n : ℕ) → Reached text n → ((after : Bool) → At text n after → number_at text n after ≡ Some k) → first_from text 1 false ≡ Some (refusal k n)
  gives k n r h = let c = come n r in c.is ∙ stops text n c.after k (h c.after c.at)

  budgeted : (n : ℕ) (after : Bool) → At text n after → Budgeted text n → after ≡ true
  budgeted n true a b = refl
  budgeted n false a b = absurd (a.not_yet refl b)

  not_budgeted : (n : ℕ) (after : Bool) → At text n after → (Budgeted text n → ⊥) → after ≡ false
  not_budgeted n true a b = absurd (b (a.came refl))
  not_budgeted n false a b = refl

  nothing_left : (n : ℕ) → (There text n → ⊥) → over text n ≡ true
  nothing_left n h = go (over text n) refl
    where
      go : (b : Bool) → over text n ≡ b → over text n ≡ true
      go true e = e
      go false e = absurd (h (left _ e))

  module _ (n : ℕ) where
    pub gives_six : NoFrame text n → first_from text 1 false ≡ Some (refusal 6 n)
    gives_six c = gives 6 n c.0 (λ after a. simp (some _ c.1) (gives_6 after (frame_at text n) c.2))

    pub gives_seven : BadValue text n → first_from text 1 false ≡ Some (refusal 7 n)
    gives_seven c = gives 7 n c.0 (λ after a. simp (bad_there n c.1) (gives_7 after (frame_at text n) c.1))

    pub gives_eight : AfterBudget text n ⊎ NoBudget text n → first_from text 1 false ≡ Some (refusal 8 n)
    gives_eight (inl c) = gives 8 n c.0 (λ after a. simp (good_there n c.1) (gives_8 after (frame_at text n) c.1 (budgeted n after a c.2)))
    gives_eight (inr c) = gives 8 n c.0 (λ after a. simp (nothing_left n c.1, not_budgeted n after a c.2))

  pub gives_zero : Whole text → first_from text 1 false ≡ None
  gives_zero w =
      let c = come w.past w.reached in
      c.is ∙ ap (first_from text w.past) (budgeted w.past c.after c.at w.budget) ∙ ends text w.past (nothing_left w.past w.over)
