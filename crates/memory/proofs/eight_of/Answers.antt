-- A byte more at the right of a number that is not full; after eight it is the number that they are.
use Rattle.std.proofs.Common.{◌≡◌, ◌<◌, ap, ◌∙◌, arith, length-take, get_or-take}
use Rattle.memory.proofs.Runs.{run, run_none, run_next, run_eight}
use Rattle.memory.proofs.eight_of.Goals as goal

pub loop-x-init : goal.loop-x-init
loop-x-init c = run_none _

pub loop-x-preserved : goal.loop-x-preserved
loop-x-preserved c =
    let h : c.loop-x.x-index < 8 = omega (arith, length-take 8 c.args.l.now) in
    run_next c.args.l.now c.type_inv.l _ _ _ h c.loop-x.invariant (c.from.ensures ∙ get_or-take 8 c.args.l.now c.loop-x.x-index 0 h)

pub returns : goal.returns
returns c =
    let e : c.loop-x.x-index ≡ 8 = omega (arith, length-take 8 c.args.l.now) in
    c.loop-x.invariant ∙ ap (run c.args.l.now) e ∙ run_eight c.args.l.now
