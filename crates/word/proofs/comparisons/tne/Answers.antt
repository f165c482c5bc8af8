-- The test is the comparison of whole registers, turned round.
use Rattle.std.proofs.Common.{sym, ap, ◌∙◌}
use Rattle.promise.specs.Pick.{not}
use Rattle.word.proofs.CompareLaws.{same_whole, not_is}
use Rattle.word.proofs.comparisons.tne.Goals as goal

pub returns : goal.returns
returns c = not_is _ ∙ ap not (sym (same_whole _ _ c.ranges.a c.ranges.b))
