-- The signed type compares the numbers that the registers are.
use Rattle.std.proofs.Common.{w64}
use Rattle.word.proofs.CompareLaws.{less_signed_lem}
use Rattle.word.proofs.Registers.{as_signed}
use Rattle.word.proofs.comparisons.tlt.Goals as goal

pub returns : goal.returns
returns c = less_signed_lem w64 c.args.a c.args.b _ _ (as_signed _ c.ranges.a c.cast_signed.ensures) (as_signed _ c.ranges.b c.cast_signed-2.ensures)
