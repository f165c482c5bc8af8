-- The low word of the register's shift is that of the word.
use Rattle.std.proofs.Common.{◌%◌, refl, ◌∙◌, w32}
use Rattle.word.proofs.ShiftLaws.{left_is}
use Rattle.word.proofs.shifts.sll.Goals as goal

pub returns : goal.returns
returns c = c.extend.ensures ∙ left_is w32 c.args.x (c.args.n % 32) 32 _ refl
