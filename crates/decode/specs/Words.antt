-- Some words and what they are, by computation: the two of document 01's image, and one for each corner of the rules.
use Rattle.std.specs.Prelude.{◌≡◌, refl, Ok, Err}
use Rattle.decode.specs.declared.Undecoded.TheVariants.{Coprocessor, ReservedCop0, Reserved}
use Rattle.decode.specs.declared.Instr.TheVariants.{Arithmetic, ArithmeticImmediate, Move, Eret, Special}
use Rattle.decode.specs.declared.ArithmeticOp.TheVariants.{ADDU}
use Rattle.decode.specs.declared.ArithmeticImmediateOp.TheVariants.{ADDIU}
use Rattle.decode.specs.declared.MoveOp.TheVariants.{MFC0}
use Rattle.decode.specs.declared.SpecialOp.TheVariants.{SYNC}
use Rattle.decode.specs.Maps.{majors, specials}
use Rattle.decode.specs.Decode.{decode, decode_by, entry_in, by_major, cop0, operation, move}

-- the image's two instructions, ADDIU r8, r0, 5 and ADDU r9, r8, r8 (I16)
image : (decode 0x24080005 ≡ Ok (ArithmeticImmediate ADDIU 0 8 5)) × (decode 0x01084821 ≡ Ok (Arithmetic ADDU 8 8 9))
unfolding decode_by entry_in by_major majors specials
image = (refl, refl)

-- MFC0 r8, Status; ERET whatever its bits 24..6; the R3000's RFE, which is none; SYNC (S16, S17, S18)
system : (decode 0x40086000 ≡ Ok (Move MFC0 8 12)) × (decode 0x43ffffd8 ≡ Ok Eret) × (decode 0x42000010 ≡ Err ReservedCop0) × (decode 0x0000000f ≡ Ok (Special SYNC))
unfolding decode_by entry_in by_major majors specials cop0 operation move
system = (refl, refl, refl, refl)

-- COP1 and SDC2 name their units; COP3, LWC3, SWC3, opcode 1c and MOVZ are reserved (S14, S15, S16)
none : (decode 0x44000000 ≡ Err (Coprocessor 1)) × (decode 0xf8000000 ≡ Err (Coprocessor 2)) × (decode 0x4c000000 ≡ Err Reserved) × (decode 0xcc000000 ≡ Err Reserved) × (decode 0xec000000 ≡ Err Reserved) × (decode 0x70000000 ≡ Err Reserved) × (decode 0x0000000a ≡ Err Reserved)
unfolding decode_by entry_in by_major majors specials
none = (refl, refl, refl, refl, refl, refl, refl)
