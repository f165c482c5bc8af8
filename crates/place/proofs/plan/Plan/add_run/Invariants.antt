-- The invariant: what is left to add gives what all gives.
use mathlib.Core.Path.{◌≡◌}
use Prim.Native.Nat.{◌-◌}
use Rattle.place.specs.Plan.{add_run}
use Rattle.place.proofs.plan.Plan.add_run.Given as goal

abbrev pub invariant-loop-page : goal.invariant-loop-page
invariant-loop-page l = add_run l.initial.self l.asid l.from l.writable l.n ≡ add_run l.self l.asid l.page l.writable (l.page-end - l.page)
