-- Each image takes some of what is left.
use Rattle.std.proofs.Common.{length}
use Rattle.vectors.proofs.print_all.Given as goal

abbrev pub decreases-loop-rest : goal.decreases-loop-rest
decreases-loop-rest g l = length l.rest
