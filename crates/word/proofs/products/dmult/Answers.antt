-- The product of the signed doublewords fits two.
use Rattle.std.proofs.Common.{refl, ◌∙◌, lit≤, w64}
use Rattle.std.specs.Int.{w128}
use Rattle.word.proofs.CompareLaws.{seen_wide}
use Rattle.word.proofs.ProductLaws.{product_is}
use Rattle.word.proofs.Registers.{as_signed}
use Rattle.word.proofs.products.dmult.Goals as goal

pub returns : goal.returns
returns c = c.double_halves.ensures
    ∙ product_is w64 w128 refl c.args.a c.args.b (seen_wide w64 w128 c.args.a (lit≤ tt) (as_signed _ c.ranges.a c.cast_signed.ensures) c.from.ensures)
    (seen_wide w64 w128 c.args.b (lit≤ tt) (as_signed _ c.ranges.b c.cast_signed-2.ensures) c.from-2.ensures) c.cast_unsigned.ensures
