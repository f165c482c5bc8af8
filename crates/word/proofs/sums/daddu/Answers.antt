-- A doubleword is its own extension, and the wrapped sum of registers is that of doublewords.
use Rattle.std.proofs.Common.{refl, ◌∙◌, arith, w64}
use Rattle.word.proofs.Registers.{whole}
use Rattle.word.proofs.SumLaws.{sum_is}
use Rattle.word.proofs.sums.daddu.Goals as goal

pub returns : goal.returns
returns c = whole _ (omega arith) ∙ sum_is 0 w64 c.args.a c.args.b _ refl
