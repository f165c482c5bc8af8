-- The maps of codes, row by row as document 001 draws them (17.5): 64 major opcodes, 64 SPECIAL functions, 32 REGIMM codes (S14).
use Rattle.std.specs.Prelude.{List, [], ◌∷◌, map}
use Rattle.decode.specs.declared.LoadOp.TheVariants.{LB, LBU, LH, LHU, LW, LWU, LD, LWL, LWR, LDL, LDR, LL, LLD}
use Rattle.decode.specs.declared.StoreOp.TheVariants.{SB, SH, SW, SD, SWL, SWR, SDL, SDR, SC, SCD}
use Rattle.decode.specs.declared.ArithmeticOp.TheVariants.{ADD, ADDU, SUB, SUBU, DADD, DADDU, DSUB, DSUBU, SLT, SLTU}
use Rattle.decode.specs.declared.ArithmeticImmediateOp.TheVariants.{ADDI, ADDIU, DADDI, DADDIU, SLTI, SLTIU}
use Rattle.decode.specs.declared.LogicOp.TheVariants.{AND, OR, XOR, NOR}
use Rattle.decode.specs.declared.LogicImmediateOp.TheVariants.{ANDI, ORI, XORI, LUI}
use Rattle.decode.specs.declared.ShiftOp.TheVariants.{SLL, SRL, SRA, DSLL, DSRL, DSRA, DSLL32, DSRL32, DSRA32}
use Rattle.decode.specs.declared.ShiftVariableOp.TheVariants.{SLLV, SRLV, SRAV, DSLLV, DSRLV, DSRAV}
use Rattle.decode.specs.declared.MultiplyOp.TheVariants.{MULT, MULTU, DIV, DIVU, DMULT, DMULTU, DDIV, DDIVU}
use Rattle.decode.specs.declared.HiLoOp.TheVariants.{MFHI, MTHI, MFLO, MTLO}
use Rattle.decode.specs.declared.BranchOp.TheVariants.{BEQ, BNE, BLEZ, BGTZ, BLTZ, BGEZ, BLTZAL, BGEZAL, BEQL, BNEL, BLEZL, BGTZL, BLTZL, BGEZL, BLTZALL, BGEZALL}
use Rattle.decode.specs.declared.JumpOp.TheVariants.{J, JAL}
use Rattle.decode.specs.declared.JumpRegisterOp.TheVariants.{JR, JALR}
use Rattle.decode.specs.declared.TrapOp.TheVariants.{TGE, TGEU, TLT, TLTU, TEQ, TNE}
use Rattle.decode.specs.declared.TrapImmediateOp.TheVariants.{TGEI, TGEIU, TLTI, TLTIU, TEQI, TNEI}
use Rattle.decode.specs.declared.SpecialOp.TheVariants.{SYSCALL, BREAK, SYNC}
use Rattle.decode.specs.declared.maps.Entry.{Entry}
use Rattle.decode.specs.declared.maps.Entry.TheVariants.{Reserved, Cop0, Coprocessor, Cache, Load, Store, Arithmetic, ArithmeticImmediate, Logic, LogicImmediate, Shift, ShiftVariable, Multiply, HiLo, Branch, Jump, JumpRegister, Trap, TrapImmediate, Special}
use Rattle.decode.specs.declared.maps.Major.{Major}
use Rattle.decode.specs.declared.maps.Major.TheVariants.{Regimm, Own}
use Rattle.decode.specs.declared.maps.Major.TheVariants as major

-- A processor's three maps.
pub record Maps : Type 0 where
  pub majors : List Major
  pub specials : List Entry
  pub regimms : List Entry

-- the major opcodes, by bits 31..26; what is no instruction of MIPS I to III is reserved, COP3, LWC3 and SWC3 too (S14, S15, S16)
unfoldable pub majors : List Major
majors =
    major.Special ∷ Regimm ∷ map Own
    (Jump J ∷ Jump JAL ∷ Branch BEQ ∷ Branch BNE ∷ Branch BLEZ ∷ Branch BGTZ
    ∷ ArithmeticImmediate ADDI ∷ ArithmeticImmediate ADDIU ∷ ArithmeticImmediate SLTI ∷ ArithmeticImmediate SLTIU ∷ LogicImmediate ANDI ∷ LogicImmediate ORI ∷ LogicImmediate XORI ∷ LogicImmediate LUI
    ∷ Cop0 ∷ Coprocessor 1 ∷ Coprocessor 2 ∷ Reserved ∷ Branch BEQL ∷ Branch BNEL ∷ Branch BLEZL ∷ Branch BGTZL
    ∷ ArithmeticImmediate DADDI ∷ ArithmeticImmediate DADDIU ∷ Load LDL ∷ Load LDR ∷ Reserved ∷ Reserved ∷ Reserved ∷ Reserved
    ∷ Load LB ∷ Load LH ∷ Load LWL ∷ Load LW ∷ Load LBU ∷ Load LHU ∷ Load LWR ∷ Load LWU
    ∷ Store SB ∷ Store SH ∷ Store SWL ∷ Store SW ∷ Store SDL ∷ Store SDR ∷ Store SWR ∷ Cache
    ∷ Load LL ∷ Coprocessor 1 ∷ Coprocessor 2 ∷ Reserved ∷ Load LLD ∷ Coprocessor 1 ∷ Coprocessor 2 ∷ Load LD
    ∷ Store SC ∷ Coprocessor 1 ∷ Coprocessor 2 ∷ Reserved ∷ Store SCD ∷ Coprocessor 1 ∷ Coprocessor 2 ∷ Store SD
    ∷ [])

-- the functions of SPECIAL, by bits 5..0 (S14)
unfoldable pub specials : List Entry
specials =
    Shift SLL ∷ Reserved ∷ Shift SRL ∷ Shift SRA ∷ ShiftVariable SLLV ∷ Reserved ∷ ShiftVariable SRLV ∷ ShiftVariable SRAV
    ∷ JumpRegister JR ∷ JumpRegister JALR ∷ Reserved ∷ Reserved ∷ Special SYSCALL ∷ Special BREAK ∷ Reserved ∷ Special SYNC
    ∷ HiLo MFHI ∷ HiLo MTHI ∷ HiLo MFLO ∷ HiLo MTLO ∷ ShiftVariable DSLLV ∷ Reserved ∷ ShiftVariable DSRLV ∷ ShiftVariable DSRAV
    ∷ Multiply MULT ∷ Multiply MULTU ∷ Multiply DIV ∷ Multiply DIVU ∷ Multiply DMULT ∷ Multiply DMULTU ∷ Multiply DDIV ∷ Multiply DDIVU
    ∷ Arithmetic ADD ∷ Arithmetic ADDU ∷ Arithmetic SUB ∷ Arithmetic SUBU ∷ Logic AND ∷ Logic OR ∷ Logic XOR ∷ Logic NOR
    ∷ Reserved ∷ Reserved ∷ Arithmetic SLT ∷ Arithmetic SLTU ∷ Arithmetic DADD ∷ Arithmetic DADDU ∷ Arithmetic DSUB ∷ Arithmetic DSUBU
    ∷ Trap TGE ∷ Trap TGEU ∷ Trap TLT ∷ Trap TLTU ∷ Trap TEQ ∷ Reserved ∷ Trap TNE ∷ Reserved
    ∷ Shift DSLL ∷ Reserved ∷ Shift DSRL ∷ Shift DSRA ∷ Shift DSLL32 ∷ Reserved ∷ Shift DSRL32 ∷ Shift DSRA32
    ∷ []

-- the codes of REGIMM, by bits 20..16 (S14)
unfoldable pub regimms : List Entry
regimms =
    Branch BLTZ ∷ Branch BGEZ ∷ Branch BLTZL ∷ Branch BGEZL ∷ Reserved ∷ Reserved ∷ Reserved ∷ Reserved
    ∷ TrapImmediate TGEI ∷ TrapImmediate TGEIU ∷ TrapImmediate TLTI ∷ TrapImmediate TLTIU ∷ TrapImmediate TEQI ∷ Reserved ∷ TrapImmediate TNEI ∷ Reserved
    ∷ Branch BLTZAL ∷ Branch BGEZAL ∷ Branch BLTZALL ∷ Branch BGEZALL ∷ Reserved ∷ Reserved ∷ Reserved ∷ Reserved
    ∷ Reserved ∷ Reserved ∷ Reserved ∷ Reserved ∷ Reserved ∷ Reserved ∷ Reserved ∷ Reserved
    ∷ []

-- the maps of the MIPS III card
abbrev pub mips3 : Maps
mips3 = record { majors = majors; specials = specials; regimms = regimms }
