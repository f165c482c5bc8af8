-- The doubleword instructions and LWU, which User mode does not have (D11).
use Rattle.std.specs.Prelude.{Bool, true, false}
use Rattle.decode.specs.declared.Instr.{Instr}
use Rattle.decode.specs.declared.Instr.TheVariants.{Load, Store, Arithmetic, ArithmeticImmediate, Logic, LogicImmediate, Shift, ShiftVariable, Multiply, HiLo, Branch, Jump, JumpRegister, Trap, TrapImmediate, Special, Cache, Move, Tlb, Eret}
use Rattle.decode.specs.declared.LoadOp.{LoadOp}
use Rattle.decode.specs.declared.LoadOp.TheVariants.{LB, LBU, LH, LHU, LW, LWU, LD, LWL, LWR, LDL, LDR, LL, LLD}
use Rattle.decode.specs.declared.StoreOp.{StoreOp}
use Rattle.decode.specs.declared.StoreOp.TheVariants.{SB, SH, SW, SD, SWL, SWR, SDL, SDR, SC, SCD}
use Rattle.decode.specs.declared.ArithmeticOp.{ArithmeticOp}
use Rattle.decode.specs.declared.ArithmeticOp.TheVariants.{ADD, ADDU, SUB, SUBU, DADD, DADDU, DSUB, DSUBU, SLT, SLTU}
use Rattle.decode.specs.declared.ArithmeticImmediateOp.{ArithmeticImmediateOp}
use Rattle.decode.specs.declared.ArithmeticImmediateOp.TheVariants.{ADDI, ADDIU, DADDI, DADDIU, SLTI, SLTIU}
use Rattle.decode.specs.declared.ShiftOp.{ShiftOp}
use Rattle.decode.specs.declared.ShiftOp.TheVariants.{SLL, SRL, SRA, DSLL, DSRL, DSRA, DSLL32, DSRL32, DSRA32}
use Rattle.decode.specs.declared.ShiftVariableOp.{ShiftVariableOp}
use Rattle.decode.specs.declared.ShiftVariableOp.TheVariants.{SLLV, SRLV, SRAV, DSLLV, DSRLV, DSRAV}
use Rattle.decode.specs.declared.MultiplyOp.{MultiplyOp}
use Rattle.decode.specs.declared.MultiplyOp.TheVariants.{MULT, MULTU, DIV, DIVU, DMULT, DMULTU, DDIV, DDIVU}
use Rattle.decode.specs.declared.MoveOp.{MoveOp}
use Rattle.decode.specs.declared.MoveOp.TheVariants.{MFC0, DMFC0, MTC0, DMTC0}

-- a load of a doubleword, or LWU (D11)
abbrev pub double_load : LoadOp → Bool
double_load LB = false
double_load LBU = false
double_load LH = false
double_load LHU = false
double_load LW = false
double_load LWU = true
double_load LD = true
double_load LWL = false
double_load LWR = false
double_load LDL = true
double_load LDR = true
double_load LL = false
double_load LLD = true

-- a store of a doubleword (D11)
abbrev pub double_store : StoreOp → Bool
double_store SB = false
double_store SH = false
double_store SW = false
double_store SD = true
double_store SWL = false
double_store SWR = false
double_store SDL = true
double_store SDR = true
double_store SC = false
double_store SCD = true

-- a doubleword sum or difference (D11)
abbrev pub double_arithmetic : ArithmeticOp → Bool
double_arithmetic ADD = false
double_arithmetic ADDU = false
double_arithmetic SUB = false
double_arithmetic SUBU = false
double_arithmetic DADD = true
double_arithmetic DADDU = true
double_arithmetic DSUB = true
double_arithmetic DSUBU = true
double_arithmetic SLT = false
double_arithmetic SLTU = false

-- a doubleword sum with an immediate (D11)
abbrev pub double_immediate : ArithmeticImmediateOp → Bool
double_immediate ADDI = false
double_immediate ADDIU = false
double_immediate DADDI = true
double_immediate DADDIU = true
double_immediate SLTI = false
double_immediate SLTIU = false

-- a doubleword shift (D11)
abbrev pub double_shift : ShiftOp → Bool
double_shift SLL = false
double_shift SRL = false
double_shift SRA = false
double_shift DSLL = true
double_shift DSRL = true
double_shift DSRA = true
double_shift DSLL32 = true
double_shift DSRL32 = true
double_shift DSRA32 = true

-- a doubleword shift by a variable amount (D11)
abbrev pub double_shift_variable : ShiftVariableOp → Bool
double_shift_variable SLLV = false
double_shift_variable SRLV = false
double_shift_variable SRAV = false
double_shift_variable DSLLV = true
double_shift_variable DSRLV = true
double_shift_variable DSRAV = true

-- a doubleword product or quotient (D11)
abbrev pub double_multiply : MultiplyOp → Bool
double_multiply MULT = false
double_multiply MULTU = false
double_multiply DIV = false
double_multiply DIVU = false
double_multiply DMULT = true
double_multiply DMULTU = true
double_multiply DDIV = true
double_multiply DDIVU = true

-- a doubleword move (D11)
abbrev pub double_move : MoveOp → Bool
double_move MFC0 = false
double_move DMFC0 = true
double_move MTC0 = false
double_move DMTC0 = true

-- a doubleword instruction or LWU: reserved in User mode (D11)
abbrev pub is_double : Instr → Bool
is_double (Load op base rt offset) = double_load op
is_double (Store op base rt offset) = double_store op
is_double (Arithmetic op rs rt rd) = double_arithmetic op
is_double (ArithmeticImmediate op rs rt immediate) = double_immediate op
is_double (Logic op rs rt rd) = false
is_double (LogicImmediate op rs rt immediate) = false
is_double (Shift op rt rd sa) = double_shift op
is_double (ShiftVariable op rs rt rd) = double_shift_variable op
is_double (Multiply op rs rt) = double_multiply op
is_double (HiLo op rs rd) = false
is_double (Branch op rs rt offset) = false
is_double (Jump op target) = false
is_double (JumpRegister op rs rd) = false
is_double (Trap op rs rt) = false
is_double (TrapImmediate op rs immediate) = false
is_double (Special op) = false
is_double Cache = false
is_double (Move op rt rd) = double_move op
is_double (Tlb op) = false
is_double Eret = false
