-- The range of a slot, for refusal 4.
use Rattle.std.specs.Prelude.{ℕ, zero, suc, ◌+◌, ◌%◌, ◌^◌, Bool, true, List, Option, None, Some, ltb, eqb}
use Rattle.std.specs.Int.Bits.{bit_and}
use Rattle.promise.specs.Bits.{bits}
use Rattle.promise.specs.Pick.{both}
use Rattle.tlb.specs.declared.Slot.{Slot}
use Rattle.tlb.specs.declared.SlotWrite.{SlotWrite}
use Rattle.tlb.specs.PageMask.{run, legal_mask}
use Rattle.tlb.specs.Slot.{slot_at, page}

-- only page number 31..13, G 12 and ASID 7..0 are set, and the page number is clear under the mask (N24, N25)
unfoldable pub hi_in_range : ℕ → ℕ → Bool
hi_in_range mask hi = both (ltb hi (2 ^ 32)) (both (eqb (bits hi 8 4) 0) (eqb (bit_and (page hi) (run mask)) 0))

-- only frame, C, D and V are set, bits 29..1: a frame number of 24 bits, and G is kept beside the page (N25)
unfoldable pub lo_in_range : ℕ → Bool
lo_in_range lo = both (ltb lo (2 ^ 30)) (eqb (lo % 2) 0)

-- a slot is in range (N24, N25)
unfoldable pub slot_in_range : Slot → Bool
slot_in_range s = both (legal_mask s.mask) (both (hi_in_range s.mask s.hi) (both (lo_in_range s.lo0) (lo_in_range s.lo1)))

-- `left` slots from i on are in range
unfoldable pub slots_in_range : ℕ → ℕ → List ℕ → Bool
slots_in_range zero i tlb = true
slots_in_range (suc left) i tlb = both (slot_in_range (slot_at tlb i)) (slots_in_range left (i + 1) tlb)

-- all 48 slots are in range (N24, N25)
unfoldable pub tlb_in_range : List ℕ → Bool
tlb_in_range tlb = slots_in_range 48 0 tlb

-- the mask of a write is legal, where there is one: what T1 and I8 let through
unfoldable pub legal_write : Option SlotWrite → Bool
legal_write None = true
legal_write (Some w) = legal_mask w.moved.mask
