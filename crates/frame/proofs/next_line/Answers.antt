use Rattle.std.proofs.Common.{refl}
use Rattle.frame.proofs.Laws.{line_cut, line_whole}
use Rattle.frame.proofs.next_line.Goals as goal

pub returns-in-Some : goal.returns-in-Some
returns-in-Some c = (line_cut _ _ c.in-Some.ensures, refl)

pub returns-in-None : goal.returns-in-None
returns-in-None c = (line_whole _ c.in-None.ensures, refl)
