-- Decoding: the instruction that a word is, by its fields and the maps.
use Rattle.std.specs.Prelude.{ℕ, get_or, eqb, Result, Ok, Err}
use Rattle.promise.specs.Pick.{pick}
use Rattle.promise.specs.Bits.{set?}
use Rattle.decode.specs.declared.Undecoded.{Undecoded}
use Rattle.decode.specs.declared.Undecoded.TheVariants.{Coprocessor, ReservedCop0, Reserved}
use Rattle.decode.specs.declared.Instr.{Instr}
use Rattle.decode.specs.declared.Instr.TheVariants.{Load, Store, Arithmetic, ArithmeticImmediate, Logic, LogicImmediate, Shift, ShiftVariable, Multiply, HiLo, Branch, Jump, JumpRegister, Trap, TrapImmediate, Special, Cache, Move, Tlb, Eret}
use Rattle.decode.specs.declared.MoveOp.TheVariants.{MFC0, DMFC0, MTC0, DMTC0}
use Rattle.decode.specs.declared.TlbOp.TheVariants.{TLBR, TLBWI, TLBWR, TLBP}
use Rattle.decode.specs.Fields.{opcode, rs, rt, rd, sa, funct, immediate, target}
use Rattle.decode.specs.declared.maps.Entry.{Entry}
use Rattle.decode.specs.declared.maps.Entry.TheVariants as entry
use Rattle.decode.specs.declared.maps.Major.{Major}
use Rattle.decode.specs.declared.maps.Major.TheVariants as major
use Rattle.decode.specs.Maps.{Maps, mips3}

-- a COP0 word with bit 25 clear, by its fields rs, rt and rd: a move by rs, any other rs reserved; bits 10..0 are not looked at (S16, S17; house)
unfoldable pub move : ℕ → ℕ → ℕ → Result Instr Undecoded
move rs rt rd =
    pick (eqb rs 0) (Ok (Move MFC0 rt rd))
    (pick (eqb rs 1) (Ok (Move DMFC0 rt rd))
    (pick (eqb rs 4) (Ok (Move MTC0 rt rd))
    (pick (eqb rs 5) (Ok (Move DMTC0 rt rd))
    (Err ReservedCop0))))

-- a COP0 word with bit 25 set, by its function code: a TLB operation or ERET, any other code reserved; bits 24..6 are not looked at (S16, S17; house)
unfoldable pub operation : ℕ → Result Instr Undecoded
operation funct =
    pick (eqb funct 0x01) (Ok (Tlb TLBR))
    (pick (eqb funct 0x02) (Ok (Tlb TLBWI))
    (pick (eqb funct 0x06) (Ok (Tlb TLBWR))
    (pick (eqb funct 0x08) (Ok (Tlb TLBP))
    (pick (eqb funct 0x18) (Ok Eret)
    (Err ReservedCop0)))))

-- a COP0 word: an operation where bit 25 is set, else a move (S16)
unfoldable pub cop0 : ℕ → Result Instr Undecoded
cop0 w = pick (set? w 25) (operation (funct w)) (move (rs w) (rt w) (rd w))

-- the instruction of an entry, with the fields that it uses; fields that should be zero are not looked at (S17; house)
abbrev pub instruction : Entry → ℕ → Result Instr Undecoded
instruction entry.Reserved w = Err Reserved
instruction entry.Cop0 w = cop0 w
instruction (entry.Coprocessor unit) w = Err (Coprocessor unit)
instruction entry.Cache w = Ok Cache
instruction (entry.Load op) w = Ok (Load op (rs w) (rt w) (immediate w))
instruction (entry.Store op) w = Ok (Store op (rs w) (rt w) (immediate w))
instruction (entry.Arithmetic op) w = Ok (Arithmetic op (rs w) (rt w) (rd w))
instruction (entry.ArithmeticImmediate op) w = Ok (ArithmeticImmediate op (rs w) (rt w) (immediate w))
instruction (entry.Logic op) w = Ok (Logic op (rs w) (rt w) (rd w))
instruction (entry.LogicImmediate op) w = Ok (LogicImmediate op (rs w) (rt w) (immediate w))
instruction (entry.Shift op) w = Ok (Shift op (rt w) (rd w) (sa w))
instruction (entry.ShiftVariable op) w = Ok (ShiftVariable op (rs w) (rt w) (rd w))
instruction (entry.Multiply op) w = Ok (Multiply op (rs w) (rt w))
instruction (entry.HiLo op) w = Ok (HiLo op (rs w) (rd w))
instruction (entry.Branch op) w = Ok (Branch op (rs w) (rt w) (immediate w))
instruction (entry.Jump op) w = Ok (Jump op (target w))
instruction (entry.JumpRegister op) w = Ok (JumpRegister op (rs w) (rd w))
instruction (entry.Trap op) w = Ok (Trap op (rs w) (rt w))
instruction (entry.TrapImmediate op) w = Ok (TrapImmediate op (rs w) (immediate w))
instruction (entry.Special op) w = Ok (Special op)

-- the entry of a word by its major opcode's place: SPECIAL's by the function, REGIMM's by the rt field, any other its own (S14)
unfoldable pub by_major : Maps → Major → ℕ → Entry
by_major m major.Special w = get_or m.specials (funct w) entry.Reserved
by_major m major.Regimm w = get_or m.regimms (rt w) entry.Reserved
by_major m (major.Own e) w = e

-- the entry of a word in the maps
unfoldable pub entry_in : Maps → ℕ → Entry
entry_in m w = by_major m (get_or m.majors (opcode w) (major.Own entry.Reserved)) w

-- what a word is on a processor of those maps (S14)
unfoldable pub decode_by : Maps → ℕ → Result Instr Undecoded
decode_by m w = instruction (entry_in m w) w

-- what a word is on the MIPS III card (S14)
abbrev pub decode : ℕ → Result Instr Undecoded
decode w = decode_by mips3 w
