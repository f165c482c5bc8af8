-- The stops of a run, from the way that its steps end.
use Prim.Native.Nat.{ℕ, ◌≤◌}
use native.Mathlib.Omega.{arith}
use native.Mathlib.Decide.{dec_le}
use mathlib.Core.Path.{◌≡◌, ◌∙◌, ap}
use mathlib.Core.Logic.{◌⊎◌}
use Rattle.card.specs.Run.{Whole}
use Rattle.demands.specs.Call.{Call, run}
use Rattle.demands.specs.Refusals.{Accepted}
use Rattle.demands.specs.Runs.{after, GoOn, next, UsesBudget, StopsWith, Runs}
use Rattle.demands.proofs.Runs.{On, Stops, ends, ended}
use Rattle.demands.proofs.StepStops.{stop_least}
use Rattle.demands.proofs.Refusals.{accepted, refused_kept, is_accepted}

module _ (c : Call) where
  -- all of an accepted run's steps go on
  abbrev AllOn : Type 0
  AllOn = On c.rom c.lines c.budget c.machine c.ram

  -- or one stops
  abbrev OneStops : Type 0
  OneStops = Stops c.rom c.lines c.budget c.machine c.ram

  how : AllOn ⊎ OneStops
  how = ends c.rom c.lines c.budget c.machine c.ram

  module _ (a : Accepted c) where
    -- the run is what its counted steps left
    pub record Left : Type 0 where
      pub counted : GoOn c (run c).steps
      pub machine : (run c).machine ≡ (after c (run c).steps).machine
      pub ram : (run c).ram ≡ (after c (run c).steps).ram
      pub within : (run c).steps ≤ c.budget

    pub left : Left
    left = let h = how in let e = accepted c a in grind arith

  uses : (run c).stop ≡ 0 → UsesBudget c
  uses e =
      let a = is_accepted c (λ l u. omega arith) in
      let h = how in
      let k = accepted c a in
      record { accepted = a; go_on = grind arith }

  used : UsesBudget c → (run c).stop ≡ 0
  used u = let k = accepted c u.accepted in grind arith

  -- a stop of 16 or more is that of a step
  stops : (n : ℕ) → 16 ≤ n → (run c).stop ≡ n → StopsWith c n
  stops n h e =
      let a = is_accepted c (λ l u. omega arith) in
      let w = how in
      let k = accepted c a in
      grind arith

  stopped : (n : ℕ) → 16 ≤ n → StopsWith c n → (run c).stop ≡ n
  stopped n h t =
      let e = t.stops in
      ap (λ (w : Whole). w.stop) (accepted c t.accepted)
      ∙ ended c.rom c.lines c.budget t.before c.machine c.ram t.within (record { no_stop = t.go_on.no_stop; all_counted = t.go_on.all_counted }) (λ z. omega arith)
      ∙ e

  -- the step after the counted ones is the one that stopped
  stopped_next : Accepted c → 1 ≤ (run c).stop → (next c (run c).steps).stop ≡ (run c).stop
  stopped_next a l = let w = how in let k = accepted c a in grind arith

  within : (run c).steps ≤ c.budget
  within = go (dec_le 1 (run c).stop) (dec_le (run c).stop 4)
    where
      go : Dec (1 ≤ (run c).stop) → Dec ((run c).stop ≤ 4) → (run c).steps ≤ c.budget
      go (yes l) (yes u) = let e : (run c).steps ≡ 0 = ap (λ (w : Whole). w.steps) (refused_kept c l u) in omega arith
      go (no l) d = (left (is_accepted c (λ x y. l x))).within
      go (yes l) (no u) = (left (is_accepted c (λ x y. u y))).within

  numbers : ((run c).stop ≤ 4) ⊎ ((16 ≤ (run c).stop) × ((run c).stop ≤ 18))
  numbers = let w = how in grind (arith, stop_least, accepted c, is_accepted c)

  pub runs : Runs c
  runs =
      record {
        zero = (uses, used);
        sixteen = (stops 16 (omega arith), stopped 16 (omega arith));
        seventeen = (stops 17 (omega arith), stopped 17 (omega arith));
        eighteen = (stops 18 (omega arith), stopped 18 (omega arith));
        no_other = numbers;
        within_budget = within;
        all_used = λ e. let u = uses e in let k = accepted c u.accepted in grind arith;
        counted = λ a. (left a).counted;
        stopped_next = stopped_next;
        machine_left = λ a. (left a).machine;
        ram_left = λ a. (left a).ram;
      }
