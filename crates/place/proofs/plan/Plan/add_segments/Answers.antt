-- Header by header.
use mathlib.Core.Path.{sym, ◌∙◌}
use Rattle.place.proofs.Turns.{segments_next, segments_done}
use Rattle.place.proofs.plan.Plan.add_segments.Goals as goal

pub loop-i-preserved : goal.loop-i-preserved
loop-i-preserved c = c.loop-i.invariant ∙ segments_next _ _ _ _ _ _ c.add_segment.ensures c.loop-i-test.true

pub returns : goal.returns
returns c = sym (c.loop-i.invariant ∙ segments_done _ _ _ _ _ c.loop-i-test.false)
