-- A number of two doublewords has its digits for its halves.
use Rattle.word.proofs.ProductLaws.{double_digits}
use Rattle.word.proofs.products.double_halves.Goals as goal

pub returns : goal.returns
returns c = double_digits _ c.ranges.p.fits
