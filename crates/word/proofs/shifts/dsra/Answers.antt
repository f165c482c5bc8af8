-- The signed type shifts the number that the register is.
use Rattle.std.proofs.Common.{◌%◌, ◌∙◌, w64}
use Rattle.word.proofs.Registers.{as_signed}
use Rattle.word.proofs.ShiftLaws.{shift_seen, right_signed_is}
use Rattle.word.proofs.shifts.dsra.Goals as goal

pub returns : goal.returns
returns c = c.cast_unsigned.ensures ∙ right_signed_is w64 c.args.x (c.args.n % 64) _ (shift_seen w64 c.args.x (c.args.n % 64) _ (as_signed _ c.ranges.x c.cast_signed.ensures))
