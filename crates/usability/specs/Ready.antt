-- Whether the step may go on with a word once it is decoded: coprocessor unusable, then reserved, then stop 17 (S6, N19).
use Rattle.std.specs.Prelude.{Bool, true, false, Result, Ok, Err}
use Rattle.promise.specs.Pick.{pick, both, not}
use Rattle.decode.specs.declared.Instr.{Instr}
use Rattle.decode.specs.declared.Instr.TheVariants.{Load, Store, Arithmetic, ArithmeticImmediate, Logic, LogicImmediate, Shift, ShiftVariable, Multiply, HiLo, Branch, Jump, JumpRegister, Trap, TrapImmediate, Special, Cache, Move, Tlb, Eret}
use Rattle.decode.specs.declared.Undecoded.{Undecoded}
use Rattle.decode.specs.declared.Undecoded.TheVariants.{Coprocessor, ReservedCop0, Reserved}
use Rattle.usability.specs.declared.Unready.{Unready}
use Rattle.usability.specs.declared.Unready.TheVariants.{Unusable, InSlot}
use Rattle.usability.specs.Doubleword.{is_double}

-- a CP0 instruction, or CACHE (T21)
abbrev pub is_cp0 : Instr → Bool
is_cp0 (Load op base rt offset) = false
is_cp0 (Store op base rt offset) = false
is_cp0 (Arithmetic op rs rt rd) = false
is_cp0 (ArithmeticImmediate op rs rt immediate) = false
is_cp0 (Logic op rs rt rd) = false
is_cp0 (LogicImmediate op rs rt immediate) = false
is_cp0 (Shift op rt rd sa) = false
is_cp0 (ShiftVariable op rs rt rd) = false
is_cp0 (Multiply op rs rt) = false
is_cp0 (HiLo op rs rd) = false
is_cp0 (Branch op rs rt offset) = false
is_cp0 (Jump op target) = false
is_cp0 (JumpRegister op rs rd) = false
is_cp0 (Trap op rs rt) = false
is_cp0 (TrapImmediate op rs immediate) = false
is_cp0 (Special op) = false
is_cp0 Cache = true
is_cp0 (Move op rt rd) = true
is_cp0 (Tlb op) = true
is_cp0 Eret = true

-- a branch, a jump or ERET, which may not stand in a delay slot (N11)
abbrev pub is_branch : Instr → Bool
is_branch (Load op base rt offset) = false
is_branch (Store op base rt offset) = false
is_branch (Arithmetic op rs rt rd) = false
is_branch (ArithmeticImmediate op rs rt immediate) = false
is_branch (Logic op rs rt rd) = false
is_branch (LogicImmediate op rs rt immediate) = false
is_branch (Shift op rt rd sa) = false
is_branch (ShiftVariable op rs rt rd) = false
is_branch (Multiply op rs rt) = false
is_branch (HiLo op rs rd) = false
is_branch (Branch op rs rt offset) = true
is_branch (Jump op target) = true
is_branch (JumpRegister op rs rd) = true
is_branch (Trap op rs rt) = false
is_branch (TrapImmediate op rs immediate) = false
is_branch (Special op) = false
is_branch Cache = false
is_branch (Move op rt rd) = false
is_branch (Tlb op) = false
is_branch Eret = true

-- CP0 cannot be used: User mode, and CU0 is clear (T21)
abbrev pub locked : Bool → Bool → Bool
locked user cu0 = both user (not cu0)

-- the last check: a branch, jump or ERET in a slot is stop 17 (N11, N19)
unfoldable pub in_place : Bool → Instr → Result Instr Unready
in_place slot i = pick (both slot (is_branch i)) (Err InSlot) (Ok i)

-- before it: a doubleword instruction or LWU in User mode is reserved (D11)
unfoldable pub allowed : Bool → Bool → Instr → Result Instr Unready
allowed user slot i = pick (both user (is_double i)) (Err Unready.Reserved) (in_place slot i)

-- first of all: a CP0 instruction or CACHE where CP0 is locked is unusable, with unit 0 (S6, T21)
unfoldable pub usable : Bool → Bool → Bool → Instr → Result Instr Unready
usable user cu0 slot i = pick (both (locked user cu0) (is_cp0 i)) (Err (Unusable 0)) (allowed user slot i)

-- a COP0 code that is none: unusable where CP0 is locked, else reserved (S6, S16, T21)
unfoldable pub reserved_cop0 : Bool → Bool → Unready
reserved_cop0 user cu0 = pick (locked user cu0) (Unusable 0) Unready.Reserved

-- any word, with User mode, CU0 and a pending slot: a code of CP1 or CP2 is unusable always (S6, S14, S15)
unfoldable pub ready : Bool → Bool → Bool → Result Instr Undecoded → Result Instr Unready
ready user cu0 slot (Ok i) = usable user cu0 slot i
ready user cu0 slot (Err (Coprocessor unit)) = Err (Unusable unit)
ready user cu0 slot (Err ReservedCop0) = Err (reserved_cop0 user cu0)
ready user cu0 slot (Err Reserved) = Err Unready.Reserved
