-- A slot of the TLB: where it stands, its fields, what a write stores and a read gives.
use Rattle.std.specs.Prelude.{ℕ, ◌+◌, ◌-◌, ◌*◌, ◌%◌, ◌^◌, Bool, List, Option, None, Some, ltb, eqb, get_or, set}
use Rattle.std.specs.Int.Bits.{bit_and}
use Rattle.promise.specs.Bits.{bit, bits, set?}
use Rattle.promise.specs.Pick.{pick, both}
use Rattle.tlb.specs.declared.Slot.{Slot}
use Rattle.tlb.specs.declared.SlotWrite.{SlotWrite}
use Rattle.tlb.specs.PageMask.{run}

-- a slot of four numbers
abbrev pub slot : ℕ → ℕ → ℕ → ℕ → Slot
slot mask hi lo0 lo1 = record { mask = mask; hi = hi; lo0 = lo0; lo1 = lo1 }

-- slot i of the flat TLB: the four numbers from 4 × i on
unfoldable pub slot_at : List ℕ → ℕ → Slot
slot_at tlb i = slot (get_or tlb (i * 4) 0) (get_or tlb (i * 4 + 1) 0) (get_or tlb (i * 4 + 2) 0) (get_or tlb (i * 4 + 3) 0)

-- the page number in EntryHi, bits 31..13 (T14)
abbrev pub page : ℕ → ℕ
page hi = bits hi 13 19

-- the ASID in EntryHi, bits 7..0 (T14)
abbrev pub asid_of : ℕ → ℕ
asid_of hi = hi % 2 ^ 8

-- the G of a kept slot, bit 12, between the two (T6)
abbrev pub global_of : ℕ → Bool
global_of hi = set? hi 12

-- the frame number in EntryLo, bits 29..6 (T3)
abbrev pub frame : ℕ → ℕ
frame lo = bits lo 6 24

-- C in EntryLo, bits 5..3 (T3)
abbrev pub cache_of : ℕ → ℕ
cache_of lo = bits lo 3 3

-- D in EntryLo, bit 2 (T3)
abbrev pub dirty_of : ℕ → Bool
dirty_of lo = set? lo 2

-- V in EntryLo, bit 1 (T3)
abbrev pub valid_of : ℕ → Bool
valid_of lo = set? lo 1

-- the page number with its bits under the mask cleared (T6)
unfoldable pub cleared : ℕ → ℕ → ℕ
cleared mask page = bit_and page (2 ^ 19 - 1 - run mask)

-- the G of a slot, at bit 12: set where both halves' G, their bit 0, is set (T6)
unfoldable pub both_global : ℕ → ℕ → ℕ
both_global lo0 lo1 = pick (both (eqb (lo0 % 2) 1) (eqb (lo1 % 2) 1)) (2 ^ 12) 0

-- frame, C, D and V of EntryLo, without its G (T3, T14)
abbrev pub without_g : ℕ → ℕ
without_g lo = bits lo 1 29 * 2

-- what a write stores of the values moved to PageMask, EntryHi, EntryLo0 and EntryLo1 (T6)
unfoldable pub stored : Slot → Slot
stored moved =
    slot moved.mask
    (cleared moved.mask (page moved.hi) * 2 ^ 13 + both_global moved.lo0 moved.lo1 + asid_of moved.hi)
    (without_g moved.lo0)
    (without_g moved.lo1)

-- slot i becomes s
unfoldable pub set_slot : List ℕ → ℕ → Slot → List ℕ
set_slot tlb i s = set (set (set (set tlb (i * 4) s.mask) (i * 4 + 1) s.hi) (i * 4 + 2) s.lo0) (i * 4 + 3) s.lo1

-- the write of `moved` to slot i
abbrev pub write : ℕ → Slot → SlotWrite
write i moved = record { index = i; moved = moved }

-- the TLB after a step's write, where there is one: slot 48 and above do not exist, and such a write does nothing (T8, T9, house)
unfoldable pub put_slot : List ℕ → Option SlotWrite → List ℕ
put_slot tlb None = tlb
put_slot tlb (Some w) = pick (ltb w.index 48) (set_slot tlb w.index (stored w.moved)) tlb

-- what TLBR gives of a slot to PageMask, EntryHi, EntryLo0 and EntryLo1: G goes to both halves (T7)
unfoldable pub shown : Slot → Slot
shown s =
    slot s.mask
    (page s.hi * 2 ^ 13 + asid_of s.hi)
    (without_g s.lo0 + bit s.hi 12)
    (without_g s.lo1 + bit s.hi 12)

-- TLBR of slot i: 48 and above do not exist, and their read does nothing (T8, T9, house)
unfoldable pub read_slot : List ℕ → ℕ → Option Slot
read_slot tlb i = pick (ltb i 48) (Some (shown (slot_at tlb i))) None
