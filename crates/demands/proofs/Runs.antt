-- How a run goes, by induction over its steps: all of them go on, or one stops and what the steps before it left stays.
use Prim.Native.Nat.{ℕ, zero, suc, ◌+◌, ◌-◌, ◌<◌}
use native.Mathlib.Nat.{suc-add}
use native.Mathlib.Omega.{arith}
use mathlib.Core.Path.{◌≡◌, refl, ◌∙◌, ap}
use mathlib.Core.Bool.{Bool, true, false}
use mathlib.Core.List.{List}
use mathlib.Core.Logic.{◌⊎◌, inl, inr}
use lib.Dec.{eqb}
use borrow.Author.Tests.{eqb-false, ne_eqb}
use Rattle.card.specs.declared.Machine.{Machine}
use Rattle.card.specs.Step.{Out, step_of}
use Rattle.card.specs.Run.{whole, plus, steps}
use Rattle.demands.specs.Runs.{resumed, InParts}
use Rattle.demands.proofs.StepStops.{stopped_kept}

module _ (rom : List ℕ) (lines : ℕ) where
  -- the first step goes on: the run is that step and the rest
  pub goes_on : (n : ℕ) (m : Machine) (s : List ℕ) → eqb (step_of m s rom lines).stop 0 ≡ true
      → steps rom lines (suc n) m s ≡ plus 1 (steps rom lines n (step_of m s rom lines).machine (step_of m s rom lines).ram)
  unfolding steps
  goes_on n m s e = rw e

  -- or it stops, and nothing has changed
  pub stops : (n : ℕ) (m : Machine) (s : List ℕ) → eqb (step_of m s rom lines).stop 0 ≡ false
      → steps rom lines (suc n) m s ≡ whole m s 0 (step_of m s rom lines).stop
  unfolding steps
  stops n m s e = grind (arith, stopped_kept)

  -- where the first step goes on, resuming is resuming what comes after it
  more_parts : (a b : ℕ) (m : Machine) (s : List ℕ) → steps rom lines (a + b) (step_of m s rom lines).machine (step_of m s rom lines).ram ≡ resumed rom lines b (steps rom lines a (step_of m s rom lines).machine (step_of m s rom lines).ram)
      → steps rom lines (suc (a + b)) m s ≡ resumed rom lines b (steps rom lines (suc a) m s)
  unfolding steps
  more_parts a b m s rest = let k = stopped_kept m s rom lines in grind arith

  pub parts : (a b : ℕ) (m : Machine) (s : List ℕ) → steps rom lines (a + b) m s ≡ resumed rom lines b (steps rom lines a m s)
  unfolding steps
  parts zero b m s = grind arith
  parts (suc a) b m s = ap (λ (k : ℕ). steps rom lines k m s) (suc-add a b) ∙ more_parts a b m s (parts a b (step_of m s rom lines).machine (step_of m s rom lines).ram)

  -- the first k steps go on
  pub record On (k : ℕ) (m : Machine) (s : List ℕ) : Type 0 where
    pub no_stop : (steps rom lines k m s).stop ≡ 0
    pub all_counted : (steps rom lines k m s).steps ≡ k

  -- the step after the first k
  abbrev pub then : ℕ → Machine → List ℕ → Out
  then k m s = step_of (steps rom lines k m s).machine (steps rom lines k m s).ram rom lines

  -- within n steps, some go on and the one after them stops
  pub record Stops (n : ℕ) (m : Machine) (s : List ℕ) : Type 0 where
    pub before : ℕ
    pub within : before < n
    pub on : On before m s
    pub stop : (then before m s).stop ≡ 0 → ⊥
    pub is : steps rom lines n m s ≡ whole (steps rom lines before m s).machine (steps rom lines before m s).ram before (then before m s).stop

  module _ (m : Machine) (s : List ℕ) (e : eqb (step_of m s rom lines).stop 0 ≡ true) where
    more_on : (k : ℕ) → On k (step_of m s rom lines).machine (step_of m s rom lines).ram → On (suc k) m s
    unfolding steps
    more_on k o = grind arith

    more_stops : (n : ℕ) → Stops n (step_of m s rom lines).machine (step_of m s rom lines).ram → Stops (suc n) m s
    unfolding steps
    more_stops n t = record { before = suc t.before; within = grind arith; on = grind arith; stop = grind arith; is = grind arith }

  first_stops : (n : ℕ) (m : Machine) (s : List ℕ) → eqb (step_of m s rom lines).stop 0 ≡ false → Stops (suc n) m s
  unfolding steps
  first_stops n m s e =
      record {
        before = 0;
        within = omega arith;
        on = grind arith;
        stop = eqb-false _ _ e;
        is = stops n m s e;
      }

  pub ends : (n : ℕ) (m : Machine) (s : List ℕ) → On n m s ⊎ Stops n m s
  unfolding steps
  ends zero m s = inl (grind arith)
  ends (suc n) m s = go (ends n (step_of m s rom lines).machine (step_of m s rom lines).ram) (eqb (step_of m s rom lines).stop 0) refl
    where
      go : On n (step_of m s rom lines).machine (step_of m s rom lines).ram ⊎ Stops n (step_of m s rom lines).machine (step_of m s rom lines).ram
          → (t : Bool) → eqb (step_of m s rom lines).stop 0 ≡ t → On (suc n) m s ⊎ Stops (suc n) m s
      go (inl o) true e = inl (more_on m s e n o)
      go (inr t) true e = inr (more_stops m s e n t)
      go rest false e = inr (first_stops n m s e)

  -- a step that stops after k that go on is where the run ends
  pub ended : (n k : ℕ) (m : Machine) (s : List ℕ) → k < n → On k m s → ((then k m s).stop ≡ 0 → ⊥) → (steps rom lines n m s).stop ≡ (then k m s).stop
  ended n k m s l o t =
      let split : n ≡ k + suc (n - k - 1) = omega arith in
      let p = parts k (suc (n - k - 1)) m s in
      let q = stops (n - k - 1) (steps rom lines k m s).machine (steps rom lines k m s).ram (ne_eqb _ _ t) in
      rw split (grind arith)

pub in_parts : InParts
in_parts rom lines a b m s = parts rom lines a b m s
