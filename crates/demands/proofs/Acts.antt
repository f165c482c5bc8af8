-- What an instruction raises by itself, before memory is asked, is Ov, Tr, Sys or Bp.
use Prim.Native.Nat.{ℕ}
use native.Mathlib.Omega.{arith}
use mathlib.Core.Path.{◌≡◌}
use Rattle.cp0.specs.declared.Exception.{Exception}
use Rattle.decode.specs.declared.Instr.{Instr}
use Rattle.flow.specs.declared.Act.TheVariants as act
use Rattle.execute.specs.declared.Executed.TheVariants as done
use Rattle.execute.specs.Arithmetic.{trapping, arithmetic, arithmetic_immediate}
use Rattle.execute.specs.Logic.{logic, logic_immediate}
use Rattle.execute.specs.Shifts.{shift, shift_variable}
use Rattle.execute.specs.Multiply.{to_hi_lo, multiply, move_hi_lo}
use Rattle.flow.specs.Branches.{plain, likely, branch}
use Rattle.flow.specs.Jumps.{jump, jump_register}
use Rattle.execute.specs.Traps as traps
use Rattle.execute.specs.Traps.{trap_if, trap_immediate}
use Rattle.execute.specs.LoadStore as memory
use Rattle.execute.specs.System.{special, move_cp0}
use Rattle.execute.specs.Execute.{execute}
use Rattle.demands.specs.StepRaises.{OfExecute}
use Rattle.demands.specs.StepRaises.OfExecute.{overflow, trap, system_call, breakpoint}

pub raises_own : (i : Instr) (pc a b hi lo : ℕ) (e : Exception) → execute i pc a b hi lo ≡ done.Plain (act.Raise e) → OfExecute e
unfolding execute trapping arithmetic arithmetic_immediate logic logic_immediate shift shift_variable multiply to_hi_lo move_hi_lo plain likely branch jump jump_register trap_if traps.trap trap_immediate special move_cp0 memory.load memory.store
raises_own i pc a b hi lo e x = grind (arith, overflow, trap, system_call, breakpoint)
