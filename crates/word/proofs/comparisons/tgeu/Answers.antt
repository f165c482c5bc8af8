-- The test is the comparison of whole registers, turned round.
use Rattle.std.proofs.Common.{sym, ap, ◌∙◌}
use Rattle.promise.specs.Pick.{not}
use Rattle.word.proofs.CompareLaws.{less_whole, at_least}
use Rattle.word.proofs.comparisons.tgeu.Goals as goal

pub returns : goal.returns
returns c = at_least _ _ ∙ ap not (sym (less_whole _ _ c.ranges.a c.ranges.b))
