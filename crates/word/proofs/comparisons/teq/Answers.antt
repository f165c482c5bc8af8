-- The comparison is that of whole registers.
use Rattle.std.proofs.Common.{sym}
use Rattle.word.proofs.CompareLaws.{same_whole}
use Rattle.word.proofs.comparisons.teq.Goals as goal

pub returns : goal.returns
returns c = sym (same_whole _ _ c.ranges.a c.ranges.b)
