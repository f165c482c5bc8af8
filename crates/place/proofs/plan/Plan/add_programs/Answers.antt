-- Program by program.
use mathlib.Core.Path.{sym, ◌∙◌}
use Rattle.place.proofs.Turns.{programs_next, programs_done}
use Rattle.place.proofs.plan.Plan.add_programs.Goals as goal

pub loop-k-preserved : goal.loop-k-preserved
loop-k-preserved c = c.loop-k.invariant ∙ programs_next _ _ _ _ _ _ c.file.ensures c.add_program.ensures c.loop-k-test.true

pub returns : goal.returns
returns c = sym (c.loop-k.invariant ∙ programs_done _ _ _ _ c.loop-k-test.false)
