use Rattle.memory.specs.Unaligned.{ldr}
use Rattle.memory.proofs.unaligned.ldr.Goals as goal

pub returns : goal.returns
unfolding ldr
returns c = c.right.ensures
