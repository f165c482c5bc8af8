-- Each number met picks its move; where none is met every test fails.
use Rattle.std.proofs.Common.{arith}
use Rattle.std.proofs.lemmas.Grind.{common_steps}
use Rattle.decode.specs.Decode.{move}
use Rattle.decode.proofs.cop0.moves.Goals as goal

pub returns-in_default : goal.returns-in_default
unfolding move
returns-in_default c = grind (arith, common_steps)

pub returns-in-0 : goal.returns-in-0
unfolding move
returns-in-0 c = simp c.in-0.is

pub returns-in-1 : goal.returns-in-1
unfolding move
returns-in-1 c = simp c.in-1.is

pub returns-in-4 : goal.returns-in-4
unfolding move
returns-in-4 c = simp c.in-4.is

pub returns-in-5 : goal.returns-in-5
unfolding move
returns-in-5 c = simp c.in-5.is
