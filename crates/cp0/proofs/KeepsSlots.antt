-- TLBR of a slot in range leaves the registers in range.
use Rattle.std.proofs.Common.{◌≡◌, ℕ, ◌+◌, ◌*◌, ◌^◌, true, arith, eq-eqb}
use Rattle.promise.specs.Pick.{both}
use Rattle.promise.specs.Bits.{bit}
use Rattle.tlb.specs.declared.Slot.{Slot}
use Rattle.tlb.specs.PageMask.{legal_mask}
use Rattle.tlb.specs.Slot.{page, asid_of, without_g, shown}
use Rattle.tlb.specs.Range.{hi_in_range, lo_in_range, slot_in_range}
use Rattle.cp0.specs.declared.Cp0.{Cp0}
use Rattle.cp0.specs.Registers.{PageMask, EntryHi, EntryLo0, EntryLo1, set, low, kept_entry_lo, kept_entry_hi, slot_read}
use Rattle.cp0.specs.Range.{cp0_in_range}
use Rattle.cp0.proofs.InRange.{range_read, range_made, may, set_in, split}

-- a legal mask is a word
mask_low : (m : ℕ) → legal_mask m ≡ true → low m ≡ m
unfolding legal_mask
mask_low m h = grind arith

mask_in : (m : ℕ) → legal_mask m ≡ true → legal_mask (low m) ≡ true
mask_in m h = rw (mask_low m h) h

hi_in : (hi : ℕ) → kept_entry_hi (page hi * 2 ^ 13 + asid_of hi) ≡ page hi * 2 ^ 13 + asid_of hi
hi_in hi = omega arith

lo_in : (lo hi : ℕ) → kept_entry_lo (low (without_g lo + bit hi 12)) ≡ low (without_g lo + bit hi 12)
lo_in lo hi = omega arith

pub slot_read_in_range : (c : Cp0) (s : Slot) → slot_in_range s ≡ true → cp0_in_range c ≡ true → cp0_in_range (slot_read c (shown s)) ≡ true
unfolding slot_read shown slot_in_range set may
slot_read_in_range c s i h =
    let r = range_read c h in
    let legal = (split (legal_mask s.mask) (both (hi_in_range s.mask s.hi) (both (lo_in_range s.lo0) (lo_in_range s.lo1))) i).0 in
    let t = shown s in
    let c1 = set c PageMask (low s.mask) in
    let c2 = set c1 EntryHi t.hi in
    let c3 = set c2 EntryLo0 (low t.lo0) in
    range_made (slot_read c t)
    (set_in c3 EntryLo1 (low t.lo1) (eq-eqb _ _ (lo_in s.lo1 s.hi)) r.random_in
    (set_in c2 EntryLo0 (low t.lo0) (eq-eqb _ _ (lo_in s.lo0 s.hi)) r.random_in
    (set_in c1 EntryHi t.hi (eq-eqb _ _ (hi_in s.hi)) r.random_in
    (set_in c PageMask (low s.mask) (mask_in s.mask legal) r.random_in r))))
