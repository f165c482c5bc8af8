-- The low word of the wrapped difference of registers is that of the difference of words.
use Rattle.std.proofs.Common.{refl, ◌∙◌, arith, w32}
use Rattle.word.proofs.SumLaws.{difference_is}
use Rattle.word.proofs.sums.subu.Goals as goal

pub returns : goal.returns
returns c = c.extend.ensures ∙ difference_is 32 w32 c.args.a c.args.b _ (omega arith) refl
