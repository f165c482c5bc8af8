use Rattle.std.proofs.Common.{arith}
use Rattle.answer.proofs.Laws.{bytes_next, bytes_none}
use Rattle.answer.proofs.Writes.{start, step, finish}
use Rattle.answer.proofs.Text.bytes.Goals as goal

pub loop-b-init : goal.loop-b-init
loop-b-init c = record { at = omega arith; left = start }

pub loop-b-preserved : goal.loop-b-preserved
loop-b-preserved c = record {
  at = omega (arith, c.byte.ensures.wrote.ends, c.loop-b.invariant.at);
  left = step (rw (bytes_next _ _ c.loop-b-test.true) at c.loop-b.invariant.left) c.byte.ensures;
}

pub returns : goal.returns
returns c = finish (rw (bytes_none _ _ c.loop-b-test.false) at c.loop-b.invariant.left)
