-- The comparison is that of whole registers.
use Rattle.std.proofs.Common.{sym}
use Rattle.word.proofs.CompareLaws.{less_whole}
use Rattle.word.proofs.comparisons.tltu.Goals as goal

pub returns : goal.returns
returns c = sym (less_whole _ _ c.ranges.a c.ranges.b)
