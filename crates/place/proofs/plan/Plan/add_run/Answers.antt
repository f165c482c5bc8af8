-- Page by page.
use native.Mathlib.Omega.{arith}
use Prim.Native.Nat.{◌+◌, ◌-◌}
use mathlib.Core.Path.{◌≡◌, sym, ap, ◌∙◌}
use Rattle.place.specs.Plan.{add_run}
use Rattle.place.proofs.Turns.{run_next, run_done}
use Rattle.place.proofs.plan.Plan.add_run.Goals as goal

pub loop-page-init : goal.loop-page-init
loop-page-init c = let all : c.args.n ≡ c.args.from + c.args.n - c.args.from = omega arith in ap (add_run c.args.self.now c.args.asid c.args.from c.args.writable) all

pub loop-page-preserved : goal.loop-page-preserved
loop-page-preserved c = c.loop-page.invariant ∙ run_next _ _ _ _ _ _ c.add.ensures c.loop-page-test.true

pub returns : goal.returns
returns c = sym (c.loop-page.invariant ∙ run_done _ _ _ _ _ c.loop-page-test.false)
