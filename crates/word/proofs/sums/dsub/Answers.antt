-- The signed type has a difference where it fits.
use Rattle.std.proofs.Common.{◌-ℤ◌, ap, ◌∙◌, w64}
use Rattle.word.specs.Sum.{checked, checked_difference}
use Rattle.word.proofs.CompareLaws.{seen_both}
use Rattle.word.proofs.Overflow.{checked_is}
use Rattle.word.proofs.Registers.{as_signed}
use Rattle.word.proofs.sums.dsub.Goals as goal

pub returns : goal.returns
unfolding checked_difference
returns c = checked_is w64 _ _ _ c.checked_sub.ensures c.map.ensures.cases
    ∙ ap (checked w64) (seen_both w64 c.args.a c.args.b ◌-ℤ◌ (as_signed c.args.a c.ranges.a c.cast_signed.ensures) (as_signed c.args.b c.ranges.b c.cast_signed-2.ensures))
