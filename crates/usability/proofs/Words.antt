-- The order of the checks on two words, by computation.
use Rattle.std.specs.Prelude.{◌≡◌, refl, true, false, Ok, Err}
use Rattle.decode.specs.declared.Instr.TheVariants.{Eret}
use Rattle.decode.specs.Maps.{majors}
use Rattle.decode.specs.Decode.{decode, decode_by, entry_in, by_major, cop0, operation, move}
use Rattle.usability.specs.declared.Unready.TheVariants.{Unusable, InSlot}
use Rattle.usability.specs.declared.Unready.TheVariants as Unready
use Rattle.usability.specs.Ready.{ready, usable, allowed, in_place}

-- ERET in a slot: unusable in User mode without CU0, else stop 17; DMFC0 in User mode: unusable without CU0, else reserved (S6, T21, D11, N19)
order : (ready true false true (decode 0x42000018) ≡ Err (Unusable 0)) × (ready true true true (decode 0x42000018) ≡ Err InSlot) × (ready true false false (decode 0x40206000) ≡ Err (Unusable 0)) × (ready true true false (decode 0x40206000) ≡ Err Unready.Reserved) × (ready false false false (decode 0x42000018) ≡ Ok Eret)
unfolding decode_by entry_in by_major majors cop0 operation move ready usable allowed in_place
order = (refl, refl, refl, refl, refl)
