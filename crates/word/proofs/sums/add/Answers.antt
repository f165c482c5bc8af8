-- The signed type has a sum where it fits.
use Rattle.std.proofs.Common.{◌+ℤ◌, ap, ◌∙◌, w32}
use Rattle.word.specs.Sum.{checked, checked_sum}
use Rattle.word.proofs.CompareLaws.{seen_both}
use Rattle.word.proofs.Overflow.{checked_is}
use Rattle.word.proofs.sums.add.Goals as goal

pub returns : goal.returns
unfolding checked_sum
returns c = checked_is w32 _ _ _ c.checked_add.ensures c.map.ensures.cases
    ∙ ap (checked w32) (seen_both w32 c.args.a c.args.b ◌+ℤ◌ c.signed32.ensures c.signed32-2.ensures)
