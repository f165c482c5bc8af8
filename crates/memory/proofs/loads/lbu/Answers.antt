use Rattle.memory.specs.Loads.{lbu}
use Rattle.memory.proofs.loads.lbu.Goals as goal

pub returns : goal.returns
unfolding lbu
returns c = c.field.ensures
