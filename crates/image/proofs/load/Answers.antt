use Rattle.std.proofs.Common.{sym, ap, ◌∙◌}
use Rattle.image.specs.Acts.{acts}
use Rattle.image.proofs.Turns.{acts_next, all_acted}
use Rattle.image.proofs.load.Goals as goal

pub loop-line-preserved-in-Some-frame_of : goal.loop-line-preserved-in-Some-frame_of
loop-line-preserved-in-Some-frame_of c =
    c.loop-line.invariant ∙ acts_next _ _ _ _ c.in-Some.ensures.steps.0 _ (sym c.in-Some-frame_of.is ∙ c.frame_of.ensures) _ ∙ ap (acts _) (sym c.act.ensures)

pub loop-line-preserved : goal.loop-line-preserved
loop-line-preserved c =
    c.loop-line.invariant ∙ acts_next _ _ _ _ c.in-Some.ensures.steps.0 _ (sym c.in_default.is ∙ c.frame_of.ensures) _

pub returns : goal.returns
returns c =
    all_acted _ _ _ _ _ c.fresh-machine.ensures (c.fill.ensures.after (λ y e. e)) c.loop-line.invariant c.in-None.ensures.steps
