-- Every end of a program has one of the four statuses.
use mathlib.Core.Path.{◌≡◌, subst, sym}
use native.Mathlib.Omega.{arith}
use lib.IntN.{ℤ}
use mir.Syntax.{w32}
use mir.Val.{of_z, to_z}
use Rattle.program.specs.declared.End.{End}
use Rattle.program.specs.declared.End.TheVariants.{Answered, Unread, Unwritten, Misused, Refused}
use Rattle.program.specs.Ends.{status_of}
use Rattle.programs.specs.Statuses.{IsStatus}

-- a status as the machine hands it back, from the bits of a signed number
abbrev returned : ℤ → ℤ
returned status = to_z w32 (of_z w32 status)

of_end : (end : End) → IsStatus (returned (status_of end))
of_end Answered = omega arith
of_end Unread = omega arith
of_end Unwritten = omega arith
of_end Misused = omega arith
of_end Refused = omega arith

pub known : {status : ℤ} (end : End) → status ≡ status_of end → IsStatus (to_z w32 (of_z w32 status))
known end e = subst (λ (status : ℤ). IsStatus (returned status)) (sym e) (of_end end)
