-- Byte by byte.
use native.Mathlib.Omega.{arith}
use mathlib.Core.Path.{sym, ◌∙◌}
use Rattle.place.proofs.Turns.{fill_next, fill_done}
use Rattle.place.proofs.ram.fill.Goals as goal

pub loop-p-preserved : goal.loop-p-preserved
loop-p-preserved c = fill_next _ _ _ _ _ _ c.loop-p.auto.ram _ c.byte_at.ensures (omega arith) ∙ c.loop-p.invariant

pub returns : goal.returns
returns c = sym (fill_done _ _ _ _ _ _ c.loop-p.auto.ram (omega arith)) ∙ c.loop-p.invariant
