-- The test is the comparison of whole registers.
use Rattle.std.proofs.Common.{sym, ap, ◌∙◌}
use Rattle.word.specs.Compare.{flag}
use Rattle.word.proofs.CompareLaws.{flag_is, less_whole}
use Rattle.word.proofs.comparisons.sltu.Goals as goal

pub returns : goal.returns
returns c = c.from.ensures ∙ flag_is _ ∙ ap flag (sym (less_whole _ _ c.ranges.a c.ranges.b))
