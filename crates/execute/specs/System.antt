-- System calls, breakpoints, SYNC, and the moves from and to CP0.
use Rattle.std.specs.Prelude.{ℕ, true, false}
use Rattle.word.specs.Word as word
use Rattle.cp0.specs.declared.Exception.TheVariants.{Sys, Bp}
use Rattle.decode.specs.declared.SpecialOp.{SpecialOp}
use Rattle.decode.specs.declared.SpecialOp.TheVariants.{SYSCALL, BREAK, SYNC}
use Rattle.decode.specs.declared.MoveOp.{MoveOp}
use Rattle.decode.specs.declared.MoveOp.TheVariants.{MFC0, DMFC0, MTC0, DMTC0}
use Rattle.flow.specs.declared.Act.{Act}
use Rattle.flow.specs.declared.Act.TheVariants.{Nothing, Raise}
use Rattle.execute.specs.declared.Command.{Command}
use Rattle.execute.specs.declared.Command.TheVariants.{MoveFrom, MoveTo}

-- System call and breakpoint raise (S7); SYNC does nothing (S18).
unfoldable pub special : SpecialOp → Act
special SYSCALL = Raise Sys
special BREAK = Raise Bp
special SYNC = Nothing

-- A move from the CP0 register of number rd to rt, or of the value of rt to it: a word is sign-extended, a doubleword is whole (T15).
unfoldable pub move_cp0 : MoveOp → ℕ → ℕ → ℕ → Command
move_cp0 MFC0 value rt rd = MoveFrom rt rd false
move_cp0 DMFC0 value rt rd = MoveFrom rt rd true
move_cp0 MTC0 value rt rd = MoveTo rd (word.extend value)
move_cp0 DMTC0 value rt rd = MoveTo rd value
