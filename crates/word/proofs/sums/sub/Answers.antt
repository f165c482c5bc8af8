-- The signed type has a difference where it fits.
use Rattle.std.proofs.Common.{◌-ℤ◌, ap, ◌∙◌, w32}
use Rattle.word.specs.Sum.{checked, checked_difference}
use Rattle.word.proofs.CompareLaws.{seen_both}
use Rattle.word.proofs.Overflow.{checked_is}
use Rattle.word.proofs.sums.sub.Goals as goal

pub returns : goal.returns
unfolding checked_difference
returns c = checked_is w32 _ _ _ c.checked_sub.ensures c.map.ensures.cases
    ∙ ap (checked w32) (seen_both w32 c.args.a c.args.b ◌-ℤ◌ c.signed32.ensures c.signed32-2.ensures)
