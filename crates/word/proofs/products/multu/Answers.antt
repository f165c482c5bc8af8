-- The product of the low words is below 2^64, and its halves are extended.
use Rattle.std.proofs.Common.{◌*◌, ◌%◌, ◌^◌, ◌*ℤ◌, ◌∙◌, w32}
use Rattle.word.specs.Extend.{unsigned}
use Rattle.word.specs.Product.{product_unsigned}
use Rattle.word.proofs.ProductLaws.{halves_cut}
use Rattle.word.proofs.products.multu.Goals as goal

pub returns : goal.returns
unfolding product_unsigned
returns c = let ex = c.low_word.ensures in
    let ey = c.low_word-2.ensures in
    c.word_halves.ensures
    ∙ halves_cut w32 (unsigned w32 c.args.a *ℤ unsigned w32 c.args.b) _ (c.wrapped_product.ensures ∙ (λ i. ex i * ey i % 2 ^ 64))
