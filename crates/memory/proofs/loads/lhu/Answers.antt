use Rattle.memory.specs.Loads.{lhu}
use Rattle.memory.proofs.loads.lhu.Goals as goal

pub returns : goal.returns
unfolding lhu
returns c = c.field.ensures
