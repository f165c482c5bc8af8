-- A number below 2^64 is its own double word, and its halves are extended.
use Rattle.std.proofs.Common.{pos, sym, ◌∙◌, mod-eq_of_lt, w32}
use Rattle.word.proofs.ProductLaws.{halves_are}
use Rattle.word.proofs.products.word_halves.Goals as goal

pub returns : goal.returns
returns c = (λ i. record { hi = c.extend.ensures i; lo = c.extend-2.ensures i }) ∙ halves_are w32 (pos c.args.p) _ (sym (mod-eq_of_lt c.ranges.p.fits))
