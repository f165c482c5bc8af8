-- One line of a text: it passes and the next is reached, or it is the last that is looked at.
use Prim.Native.Nat.{ℕ, zero, suc, ◌+◌, ◌<◌, ◌≤◌}
use mathlib.Core.Bool.{Bool, true, false}
use mathlib.Core.List.{List}
use mathlib.Core.Path.{◌≡◌, refl, subst}
use native.Mathlib.Numerals.{add-one}
use native.Mathlib.Omega.{arith}
use borrow.Author.Tests.{eq-eqb, ne_eqb, ltb-true, ltb-false}
use lib.Dec.{eqb, ltb}
use lib.ListN.{length, drop}
use Rattle.std.specs.Prelude.{Option, Some, None}
use Rattle.std.proofs.lemmas.Option.{same_Some}
use Rattle.promise.specs.Pick.{pick, either}
use Rattle.frame.specs.Line.{line_of, lines_of, ended_line, from_line}
use Rattle.frame.proofs.Lines.{Form, empty, cut, whole, form}
use Rattle.image.specs.declared.Refusal.{Refusal}
use Rattle.image.specs.Refusals.{refusal, is_budget, refusal_of, first_of}
use Rattle.image.specs.Exact.{frame_at, Budgeted, Passes, Reached}
use Rattle.image.proofs.Cases.{passed}

pub differ : {t : Bool} → t ≡ true → t ≡ false → ⊥
differ p q = let z : ◌≡◌ {A = ℕ} 0 1 = cc in omega arith

pub some : (n : ℕ) → 0 < n → eqb n 0 ≡ false
some n h = ne_eqb n 0 (λ (z : n ≡ 0). omega arith)

pub left : (n : ℕ) → eqb n 0 ≡ false → 0 < n
left zero e = absurd (differ refl e)
left (suc n) e = omega arith

some_ended : (t : List ℕ) → ended_line t ≡ true → eqb (length t) 0 ≡ false
unfolding ended_line
some_ended t e = let l : length (line_of t) < length t = ltb-true _ _ e in some (length t) (omega arith)

module _ (text : List ℕ) where
  -- line n is reached, and `after` tells whether a budget frame stands before it
  pub record At (n : ℕ) (after : Bool) : Type 0 where
    pub reached : Reached text n
    pub came : after ≡ true → Budgeted text n
    pub not_yet : after ≡ false → Budgeted text n → ⊥

  -- nothing is left from line n on; the number that line n gives; and what the lines from n on give
  abbrev pub over : ℕ → Bool
  over n = eqb (length (from_line text n)) 0

  abbrev pub number_at : ℕ → Bool → Option ℕ
  number_at n after = pick (over n) (pick after None (Some 8)) (refusal_of after (frame_at text n))

  abbrev pub first_from : ℕ → Bool → Option Refusal
  first_from n after = first_of (lines_of (from_line text n)) n after

  -- ---- one line

  pub from_next : (n : ℕ) → 1 ≤ n → from_line text (n + 1) ≡ drop (suc (length (line_of (from_line text n)))) (from_line text n)
  unfolding from_line
  from_next zero h = absurd (omega arith)
  from_next (suc n) h = rw add-one

  -- a line that is no frame may not be there
  not_there : (n : ℕ) → over n ≡ true → frame_at text n ≡ None
  unfolding frame_at
  not_there n h = go (ended_line (from_line text n)) refl
    where
      go : (b : Bool) → ended_line (from_line text n) ≡ b → frame_at text n ≡ None
      go true e = absurd (differ h (some_ended _ e))
      go false e = simp e

  pub frame_there : (n : ℕ) → (frame_at text n ≡ None → ⊥) → over n ≡ false
  frame_there n h = go (over n) refl
    where
      go : (b : Bool) → over n ≡ b → over n ≡ false
      go true e = absurd (h (not_there n e))
      go false e = e

  -- a line that does not pass is the last that is looked at
  pub stops : (n : ℕ) (after : Bool) (k : ℕ) → number_at n after ≡ Some k → first_from n after ≡ Some (refusal k n)
  unfolding frame_at first_of
  stops n after k h = go after (form (from_line text n)) h
    where
      go : (a : Bool) → Form (from_line text n) → number_at n a ≡ Some k → first_from n a ≡ Some (refusal k n)
      go true (empty l e) h = let z : None ≡ Some k = simp (eq-eqb _ _ l) at h in absurd (cc)
      go false (empty l e) h = let z : Some 8 ≡ Some k = simp (eq-eqb _ _ l) at h in simp (e, same_Some _ _ z)
      go a (cut l b e) h = let z : Some 6 ≡ Some k = simp (b, some _ l) at h in simp (e, same_Some _ _ z)
      go a (whole b e) h = simp (e, simp (b, some_ended _ b) at h)

  -- after a line that passes come those after it
  pub goes_on : (n : ℕ) (after : Bool) → 1 ≤ n → over n ≡ false → number_at n after ≡ None → first_from n after ≡ first_from (n + 1) (either after (is_budget (frame_at text n)))
  unfolding frame_at first_of
  goes_on n after c t h = go (form (from_line text n))
    where
      go : Form (from_line text n) → first_from n after ≡ first_from (n + 1) (either after (is_budget (frame_at text n)))
      go (empty l e) = absurd (differ (eq-eqb _ _ l) t)
      go (cut l b e) = let z : ◌≡◌ {A = Option ℕ} (Some 6) None = simp (b, t) at h in absurd (cc)
      go (whole b e) = simp (e, b, simp (b, t) at h, from_next n c)

  -- where nothing is left after the budget nothing is refused
  pub ends : (n : ℕ) → over n ≡ true → first_from n true ≡ None
  unfolding first_of
  ends n t = go (form (from_line text n))
    where
      go : Form (from_line text n) → first_from n true ≡ None
      go (empty l e) = simp e
      go (cut l b e) = absurd (differ t (some _ l))
      go (whole b e) = absurd (differ t (some_ended _ b))

  -- the next line is reached from a line that passes
  pub turn : (n : ℕ) (after : Bool) → At n after → Passes text n → after ≡ false → At (n + 1) (either after (is_budget (frame_at text n)))
  turn n true a p e = absurd (differ refl e)
  turn n false a p e =
      record {
        reached = record { counted = omega (arith, a.reached.counted); passed = λ k l u. before k l u (ltb k n) refl };
        came = λ q. record { place = n; counted = a.reached.counted; before = omega arith; is = q };
        not_yet = λ q b. none_came q b (ltb b.place n) refl;
      }
    where
      before : (k : ℕ) → 1 ≤ k → k < n + 1 → (b : Bool) → ltb k n ≡ b → Passes text k
      before k l u true q = a.reached.passed k l (ltb-true _ _ q)
      before k l u false q = let w : n ≤ k = ltb-false _ _ q in let z : n ≡ k = omega arith in subst (Passes text) z p

      none_came : is_budget (frame_at text n) ≡ false → (b : Budgeted text (n + 1)) → (t : Bool) → ltb b.place n ≡ t → ⊥
      none_came q b true t = a.not_yet refl (record { place = b.place; counted = b.counted; before = ltb-true _ _ t; is = b.is })
      none_came q b false t =
          let w : n ≤ b.place = ltb-false _ _ t in
          let z : b.place ≡ n = omega (arith, b.before) in
          differ (subst (λ (k : ℕ). is_budget (frame_at text k) ≡ true) z b.is) q

  pub start : At 1 false
  start =
      record {
        reached = record { counted = omega arith; passed = λ k l u. absurd (omega arith) };
        came = λ e. absurd (differ e refl);
        not_yet = λ e b. omega (arith, b.counted, b.before);
      }

  pub passes : (n : ℕ) (after : Bool) → At n after → over n ≡ false → number_at n after ≡ None → Passes text n × (after ≡ false)
  passes n after a t h =
      let g = passed after (frame_at text n) (simp t at h) in
      (record { frame = g.0; in_time = a.not_yet g.1 }, g.1)
