-- The signed type shifts the number that the word is.
use Rattle.std.proofs.Common.{◌%◌, ◌∙◌, w32}
use Rattle.word.proofs.ShiftLaws.{shift_seen, right_signed_is}
use Rattle.word.proofs.shifts.sra.Goals as goal

pub returns : goal.returns
returns c = c.pattern32.ensures ∙ right_signed_is w32 c.args.x (c.args.n % 32) _ (shift_seen w32 c.args.x (c.args.n % 32) _ c.signed32.ensures)
