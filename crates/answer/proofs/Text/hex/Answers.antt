use Rattle.std.proofs.Common.{arith, refl}
use Rattle.answer.proofs.Laws.{digit_lt, hex_next, hex_none}
use Rattle.answer.proofs.Writes.{start, step, finish}
use Rattle.answer.proofs.Text.hex.Goals as goal

pub loop-k-init : goal.loop-k-init
loop-k-init c = record { at = refl; left = start }

pub character-requires : goal.character-requires
character-requires c = rw c.digit.ensures (digit_lt _ _)

pub loop-k-preserved : goal.loop-k-preserved
loop-k-preserved c =
    record {
      at = omega (arith, c.byte.ensures.wrote.ends, c.loop-k.invariant.at);
      left = step (rw (hex_next _ _ c.loop-k-test.true) at c.loop-k.invariant.left) (rw (c.character.ensures, c.digit.ensures) at c.byte.ensures);
    }

pub returns : goal.returns
returns c = finish (rw (hex_none _ _ c.loop-k-test.false) at c.loop-k.invariant.left)
