-- The product of the signed words fits a register.
use Rattle.std.proofs.Common.{refl, ◌∙◌, lit≤, w32, w64}
use Rattle.word.proofs.CompareLaws.{seen_wide}
use Rattle.word.proofs.ProductLaws.{product_is}
use Rattle.word.proofs.products.mult.Goals as goal

pub returns : goal.returns
returns c = c.word_halves.ensures
    ∙ product_is w32 w64 refl c.args.a c.args.b (seen_wide w32 w64 c.args.a (lit≤ tt) c.signed32.ensures c.from.ensures)
    (seen_wide w32 w64 c.args.b (lit≤ tt) c.signed32-2.ensures c.from-2.ensures) c.cast_unsigned.ensures
