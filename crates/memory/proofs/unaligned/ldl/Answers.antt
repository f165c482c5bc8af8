use Rattle.memory.specs.Unaligned.{ldl}
use Rattle.memory.proofs.unaligned.ldl.Goals as goal

pub returns : goal.returns
unfolding ldl
returns c = c.left.ensures
