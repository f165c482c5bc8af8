-- The turns of the loops over a text: a line, and what comes after it.
use Prim.Native.Nat.{ℕ, ◌+◌, ◌<◌, ◌≤◌}
use mathlib.Core.Bool.{Bool, true, false}
use mathlib.Core.Logic.{◌⊎◌, inl, inr}
use mathlib.Core.Path.{◌≡◌, refl, sym, ap, ◌∙◌}
use mathlib.Core.List.{List, [], ◌∷◌}
use native.Mathlib.Numerals.{add-one}
use native.Mathlib.Omega.{arith}
use lib.ListN.{length, drop, replicate, length-drop}
use lib.Seq.{take_all}
use Rattle.std.specs.Prelude.{Option, Some, None, option_map, is_some, unwrap_or, MatchOption}
use Rattle.std.specs.Borrow.{Bor}
use Rattle.std.specs.List.{slice_range}
use Rattle.promise.specs.Pick.{pick, either}
use Rattle.frame.specs.Line.{line_of, Lines, done, unended, line, lines_of}
use Rattle.frame.specs.Frame.{frame_of}
use Rattle.frame.specs.declared.Frame.{Frame}
use Rattle.frame.proofs.Lines.{next, last}
use Rattle.card.specs.declared.Machine.{Machine}
use Rattle.card.specs.Machine.{fresh}
use Rattle.image.specs.declared.Refusal.{Refusal}
use Rattle.image.specs.Refusals.{refusal, is_budget, refusal_of, refused_at, first_of}
use Rattle.image.specs.Acts.{Loaded, loaded, line_act, acts}
use Rattle.image.specs.Image.{image, loaded_by, Has}
use Rattle.image.specs.Lines.{Begins}
use Rattle.image.proofs.Cases.{passed}

-- ---- the first line of a text

pub nothing_left : (t : List ℕ) → length t ≡ 0 → lines_of t ≡ done
unfolding lines_of
nothing_left [] h = refl
nothing_left (x ∷ xs) h = absurd (omega arith)

abbrev Got : List ℕ → List ℕ → Bor (List ℕ) → Type 0
Got t l x =
    (length l + 1 ≤ length t)
    × (length t ≤ length t)
    × (x.now ≡ slice_range t (length l + 1) (length t))
    × (length x.now + (length l + 1) ≡ length t)

-- where the characters end by an LF, and what is left
pub takes : (t l : List ℕ) (a : Option (Bor (List ℕ))) (d r : Bor (List ℕ)) → l ≡ line_of t → (length t ≡ 0 → ⊥) → MatchOption a ((length t < length l + 1) ⊎ (length t < length t)) (Got t l) → r ≡ unwrap_or a d → d.now ≡ [] → Begins t l (is_some a) r.now × (length r.now < length t)
takes t l None d r e p (inl m) q z =
    let w = ap length e in
    ((rw e (last t (omega arith) (omega arith)), ap (λ (k : Bor (List ℕ)). k.now) q ∙ z), rw (q, z) (omega arith))
takes t l None d r e p (inr m) q z = absurd (omega arith)
takes t l (Some x) d r e p m q z =
    let n : length l ≡ length (line_of t) = ap length e in
    let w : x.now ≡ drop (length l + 1) t = m.2 ∙ take_all _ _ (simp length-drop (omega arith)) in
    (next t (omega arith) ∙ simp (e, q, w, add-one), rw q (omega (arith, m.3)))

-- ---- the first refusal

-- a line that passes does not come after the budget
seen : (n : ℕ) (after : Bool) (f : Option Frame) → refused_at n after f ≡ None → either after (is_budget f) ≡ is_budget f
seen n after f h = go (refusal_of after f) refl h
  where
    go : (r : Option ℕ) → refusal_of after f ≡ r → option_map (λ (k : ℕ). refusal k n) r ≡ None → either after (is_budget f) ≡ is_budget f
    go None e z = rw (passed after f e).1
    go (Some k) e z = absurd (cc)

module _ {ls : Lines} (n : ℕ) (after : Bool) where
  pub first_done : ls ≡ done → first_of ls n after ≡ pick after None (Some (refusal 8 n))
  unfolding first_of
  first_done e = simp e

  pub first_unended : {l : List ℕ} → ls ≡ unended l → first_of ls n after ≡ Some (refusal 6 n)
  unfolding first_of
  first_unended e = simp e

  module _ {l : List ℕ} {later : Lines} {f : Option Frame} (e : ls ≡ line l later) (g : f ≡ frame_of l) where
    pub first_refused : {r : Refusal} → refused_at n after f ≡ Some r → first_of ls n after ≡ Some r
    unfolding first_of
    first_refused q = simp (e, sym g, q)

    pub first_next : refused_at n after f ≡ None → {next : Bool} → next ≡ is_budget f → first_of ls n after ≡ first_of later (n + 1) next
    unfolding first_of
    first_next q w = simp (e, sym g, q, seen n after f q, w)

-- ---- what the frames do

pub acts_next : (t l : List ℕ) (ended : Bool) (r : List ℕ) → Begins t l ended r → (f : Option Frame) → f ≡ frame_of l → (s : Loaded) → acts (lines_of t) s ≡ acts (lines_of r) (line_act s f)
unfolding acts lines_of
acts_next t l true r b f g s = rw (b, g)
acts_next t l false r b f g s = rw (b.0, b.1, g)

-- when none is left, all of the text has acted
pub all_acted : (text ram z : List ℕ) (m : Machine) (s : Loaded) {ls : Lines} → m ≡ fresh → z ≡ replicate (length ram) 0 → acts (lines_of text) (loaded m z 0) ≡ acts ls s → ls ≡ done → Has (loaded_by text ram) (image s.machine s.budget None) s.ram
unfolding loaded_by acts
all_acted text ram z m s p q e h =
    let w : loaded_by text ram ≡ s = rw (← p, ← q, e, h) in
    record { image = ap (λ (k : Loaded). image k.machine k.budget None) (sym w); memory = ap (λ (k : Loaded). k.ram) (sym w) }
