-- The test of refusal 4, taken apart and put together again, test by test.
use Prim.Native.Nat.{ℕ, ◌<◌}
use native.Mathlib.Omega.{arith}
use mathlib.Core.Path.{◌≡◌}
use mathlib.Core.Bool.{true}
use borrow.Author.Tests.{eqb-true, ltb-true}
use Rattle.tlb.specs.declared.Slot.{Slot}
use Rattle.tlb.specs.Slot.{slot_at}
use Rattle.tlb.specs.Range.{hi_in_range, lo_in_range, slot_in_range, tlb_in_range}
use Rattle.tlb.proofs.StaysInRange.{in_range_each, each_in_range}
use Rattle.cp0.specs.Range.{random_in_range, status_in_range, config_in_range, cp0_in_range}
use Rattle.cp0.proofs.InRange.{range_read, range_made, split}
use Rattle.card.specs.declared.Machine.{Machine}
use Rattle.card.specs.Machine.{cpu_in_range, in_range}
use Rattle.demands.specs.Fields.{HalfFields, SlotFields, Fields, RangeMeans}

-- ---- a slot

half_read : (lo : ℕ) → lo_in_range lo ≡ true → HalfFields lo
unfolding lo_in_range
half_read lo h = grind arith

slot_read_lem : (s : Slot) → slot_in_range s ≡ true → SlotFields s
unfolding slot_in_range hi_in_range
slot_read_lem s h =
    let a = split _ _ h in
    let b = split _ _ a.1 in
    let c = split _ _ b.0 in
    let d = split _ _ c.1 in
    let e = split _ _ b.1 in
    record {
      mask_legal = a.0;
      page_fits = ltb-true _ _ c.0;
      asid_fits = eqb-true _ _ d.0;
      page_clear = eqb-true _ _ d.1;
      low_half = half_read s.lo0 e.0;
      high_half = half_read s.lo1 e.1;
    }

slot_made : (s : Slot) → SlotFields s → slot_in_range s ≡ true
unfolding slot_in_range hi_in_range lo_in_range
slot_made s h = grind arith

-- ---- the machine

module _ (m : Machine) where
  read : in_range m ≡ true → Fields m
  unfolding in_range status_in_range config_in_range cpu_in_range random_in_range
  read h =
      let c : cp0_in_range m.cp0 ≡ true = grind arith in
      let t : tlb_in_range m.tlb ≡ true = grind arith in
      let r = range_read m.cp0 c in
      let s : (i : ℕ) → i < 48 → SlotFields (slot_at m.tlb i) = λ i l. slot_read_lem (slot_at m.tlb i) (in_range_each m.tlb t i l) in
      grind arith

  made : Fields m → in_range m ≡ true
  unfolding in_range status_in_range config_in_range cpu_in_range random_in_range
  made f = grind (arith, range_made, slot_made, each_in_range)

pub range_means : RangeMeans
range_means m = (read m, made m)
