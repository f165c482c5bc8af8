-- The product of the doublewords fits two.
use Rattle.std.proofs.Common.{◌*◌, pos, sym, ◌∙◌, w64}
use Rattle.word.specs.Product.{halves, product_unsigned}
use Rattle.word.proofs.Registers.{low_whole}
use Rattle.word.proofs.products.dmultu.Goals as goal

pub returns : goal.returns
unfolding product_unsigned
returns c = c.double_halves.ensures
    ∙ (λ i. halves w64 (pos ((c.from.ensures ∙ sym (low_whole c.args.a c.ranges.a)) i * (c.from-2.ensures ∙ sym (low_whole c.args.b c.ranges.b)) i)))
