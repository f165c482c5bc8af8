-- To the left and back in two halves: the low bytes.
use Rattle.memory.proofs.Merges.{low_kept}
use Rattle.memory.proofs.kept_low.Goals as goal

pub returns : goal.returns
returns c = low_kept c.args.x c.args.n c.requires
