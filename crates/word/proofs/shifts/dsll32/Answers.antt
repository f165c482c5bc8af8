-- A doubleword is shifted as a whole.
use Rattle.word.proofs.ShiftLaws.{left_whole}
use Rattle.word.proofs.shifts.dsll32.Goals as goal

pub returns : goal.returns
returns c = left_whole _ _
