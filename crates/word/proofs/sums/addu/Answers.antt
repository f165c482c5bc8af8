-- The low word of the wrapped sum of registers is that of the sum of words.
use Rattle.std.proofs.Common.{refl, ◌∙◌, w32}
use Rattle.word.proofs.SumLaws.{sum_is}
use Rattle.word.proofs.sums.addu.Goals as goal

pub returns : goal.returns
returns c = c.extend.ensures ∙ sum_is 32 w32 c.args.a c.args.b _ refl
