-- A doubleword is shifted as a whole.
use Rattle.word.proofs.ShiftLaws.{right_whole}
use Rattle.word.proofs.shifts.dsrl32.Goals as goal

pub returns : goal.returns
returns c = right_whole _ _ c.ranges.x
