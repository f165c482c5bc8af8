-- What an instruction comes to, from PC, the values of the registers that its rs and rt fields name (a load's and store's base is rs), HI and LO.
-- Where an act names register 0, nothing is written: r0 is always 0.
use Rattle.std.specs.Prelude.{ℕ}
use Rattle.decode.specs.declared.Instr.{Instr}
use Rattle.decode.specs.declared.Instr.TheVariants as instr
use Rattle.flow.specs.declared.Act.TheVariants.{Nothing}
use Rattle.execute.specs.declared.Command.TheVariants as command
use Rattle.execute.specs.declared.Executed.{Executed}
use Rattle.execute.specs.declared.Executed.TheVariants.{Plain, Command}
use Rattle.execute.specs.Arithmetic.{arithmetic, arithmetic_immediate}
use Rattle.execute.specs.Logic.{logic, logic_immediate}
use Rattle.execute.specs.Shifts.{shift, shift_variable}
use Rattle.execute.specs.Multiply.{multiply, move_hi_lo}
use Rattle.flow.specs.Branches.{branch}
use Rattle.flow.specs.Jumps.{jump, jump_register}
use Rattle.execute.specs.Traps.{trap, trap_immediate}
use Rattle.execute.specs.LoadStore.{load, store}
use Rattle.execute.specs.System.{special, move_cp0}

unfoldable pub execute : Instr → ℕ → ℕ → ℕ → ℕ → ℕ → Executed
execute (instr.Load op b t offset) pc rs rt hi lo = Plain (load op t rs offset)
execute (instr.Store op b t offset) pc rs rt hi lo = Plain (store op t rs offset)
execute (instr.Arithmetic op s t d) pc rs rt hi lo = Plain (arithmetic op rs rt d)
execute (instr.ArithmeticImmediate op s t immediate) pc rs rt hi lo = Plain (arithmetic_immediate op rs immediate t)
execute (instr.Logic op s t d) pc rs rt hi lo = Plain (logic op rs rt d)
execute (instr.LogicImmediate op s t immediate) pc rs rt hi lo = Plain (logic_immediate op rs immediate t)
execute (instr.Shift op t d sa) pc rs rt hi lo = Plain (shift op rt sa d)
execute (instr.ShiftVariable op s t d) pc rs rt hi lo = Plain (shift_variable op rs rt d)
execute (instr.Multiply op s t) pc rs rt hi lo = Plain (multiply op rs rt)
execute (instr.HiLo op s d) pc rs rt hi lo = Plain (move_hi_lo op rs hi lo d)
execute (instr.Branch op s t offset) pc rs rt hi lo = Plain (branch op rs rt pc offset)
execute (instr.Jump op target) pc rs rt hi lo = Plain (jump op pc target)
execute (instr.JumpRegister op s d) pc rs rt hi lo = Plain (jump_register op rs d)
execute (instr.Trap op s t) pc rs rt hi lo = Plain (trap op rs rt)
execute (instr.TrapImmediate op s immediate) pc rs rt hi lo = Plain (trap_immediate op rs immediate)
execute (instr.Special op) pc rs rt hi lo = Plain (special op)
-- CACHE does nothing once it is usable (S18)
execute instr.Cache pc rs rt hi lo = Plain Nothing
execute (instr.Move op t d) pc rs rt hi lo = Command (move_cp0 op rt t d)
-- the TLB operations and ERET are done where the TLB and CP0 are at hand
execute (instr.Tlb op) pc rs rt hi lo = Command (command.Tlb op)
execute instr.Eret pc rs rt hi lo = Command command.Eret
