-- How a program ends, and the status that says so (house).
use Rattle.std.specs.Prelude.{Bool, true, false, ℤ, pos}
use Rattle.program.specs.declared.End.{End}
use Rattle.program.specs.declared.End.TheVariants.{Answered, Unread, Unwritten, Misused, Refused}

-- 0 with a whole answer, 1 without one, 2 for wrong arguments, 3 where what was asked for is refused
abbrev pub status_of : End → ℤ
status_of Answered = pos 0
status_of Unread = pos 1
status_of Unwritten = pos 1
status_of Misused = pos 2
status_of Refused = pos 3

-- with an answer only where all of it was written
abbrev pub end_of : Bool → End
end_of true = Answered
end_of false = Unwritten
