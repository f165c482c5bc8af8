use Rattle.memory.specs.Loads.{lwu}
use Rattle.memory.proofs.loads.lwu.Goals as goal

pub returns : goal.returns
unfolding lwu
returns c = c.field.ensures
