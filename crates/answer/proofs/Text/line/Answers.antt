use Rattle.std.proofs.Common.{arith}
use Rattle.answer.proofs.Laws.{field_small, fields_next, fields_none, length_hex}
use Rattle.answer.proofs.Writes.{start, step, finish}
use Rattle.answer.proofs.Text.line.Goals as goal

pub loop-many-init : goal.loop-many-init
loop-many-init c = record { at = omega arith; left = start }

pub hex-requires : goal.hex-requires
hex-requires c = (omega (arith, c.loop-many.invariant.at), field_small _ _ c.requires.2 c.loop-many-test.true)

pub loop-many-preserved : goal.loop-many-preserved
loop-many-preserved c =
    let s = field_small _ _ c.requires.2 c.loop-many-test.true in
    record {
      at = omega (arith, c.hex.ensures.wrote.ends, length_hex, c.loop-many.invariant.at, s);
      left = step (rw (fields_next _ _ c.loop-many-test.true) at c.loop-many.invariant.left) c.hex.ensures;
    }

pub returns : goal.returns
returns c = (
  finish (step (rw (fields_none _ _ c.loop-many-test.false) at c.loop-many.invariant.left) c.byte.ensures),
  omega (arith, c.byte.ensures.wrote.ends, c.loop-many.invariant.at),
)
