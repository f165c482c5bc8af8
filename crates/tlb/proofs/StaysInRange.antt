-- What is stored is in range where its mask is legal, so a write keeps the TLB in range.
use Prim.Native.Nat.{ℕ, zero, suc, ◌+◌, ◌-◌, ◌*◌, ◌/◌, ◌%◌, ◌^◌, ◌<◌, ◌≤◌}
use mathlib.Core.Path.{◌≡◌, refl, ap, ◌∙◌}
use mathlib.Core.Bool.{Bool, true, false}
use mathlib.Core.List.{List}
use Rattle.std.specs.Prelude.{Option, None, Some}
use mathlib.Core.Logic.{◌⊎◌}
use native.Mathlib.Decide.{ℕ_discrete}
use native.Mathlib.Nat.{pow-suc}
use native.Mathlib.Omega.{arith}
use lib.Bits.{bit_and, and_zero_r, and_shr, and_mod}
use lib.ListN.{length}
use Rattle.promise.specs.Pick.{both}
use Rattle.tlb.specs.declared.Slot.{Slot}
use Rattle.tlb.specs.declared.SlotWrite.{SlotWrite}
use Rattle.tlb.specs.PageMask.{run, legal_mask}
use Rattle.tlb.specs.Slot.{slot_at, page, asid_of, without_g, cleared, both_global, stored, put_slot}
use Rattle.tlb.specs.Range.{hi_in_range, lo_in_range, slot_in_range, slots_in_range, tlb_in_range, legal_write}
use Rattle.tlb.proofs.Agree.{by_bit}
use Rattle.tlb.proofs.Kept.{cleared_le}
use Rattle.tlb.proofs.Written.{put_other, put_same}

-- a number without the bits of r has none of them: over any width
gone_bit : (a r : ℕ) → a < 2 → r < 2 → bit_and (bit_and a (1 - r)) r ≡ 0
gone_bit a r ha hr =
    by_bit (λ (x : ℕ). bit_and (bit_and x (1 - r)) r ≡ 0)
    (by_bit (λ (y : ℕ). bit_and (bit_and 0 (1 - y)) y ≡ 0) refl refl r hr)
    (by_bit (λ (y : ℕ). bit_and (bit_and 1 (1 - y)) y ≡ 0) refl refl r hr)
    a ha

gone : (w a r : ℕ) → r < 2 ^ w → bit_and (bit_and a (2 ^ w - 1 - r)) r ≡ 0
gone zero a r h = let e : r ≡ 0 = omega arith in rw e (and_zero_r (bit_and a (2 ^ 0 - 1 - 0)))
gone (suc w) a r h =
    let p : 2 ^ suc w ≡ 2 ^ w * 2 = pow-suc 2 w in
    let c : ℕ = 2 ^ suc w - 1 - r in
    let ch : c / 2 ≡ 2 ^ w - 1 - r / 2 = omega arith in
    let cl : c % 2 ≡ 1 - r % 2 = omega arith in
    let high : bit_and (bit_and a c) r / 2 ≡ 0 =
    and_shr (bit_and a c) r 1
    ∙ ap (λ (x : ℕ). bit_and x (r / 2)) (and_shr a c 1 ∙ ap (λ (x : ℕ). bit_and (a / 2) x) ch)
    ∙ gone w (a / 2) (r / 2) (omega arith)
    in
    let low : bit_and (bit_and a c) r % 2 ≡ 0 =
    and_mod (bit_and a c) r 1
    ∙ ap (λ (x : ℕ). bit_and x (r % 2)) (and_mod a c 1 ∙ ap (λ (x : ℕ). bit_and (a % 2) x) cl)
    ∙ gone_bit (a % 2) (r % 2) (omega arith) (omega arith)
    in
    omega arith

cleared_gone : (mask p : ℕ) → bit_and (cleared mask p) (run mask) ≡ 0
unfolding cleared
cleared_gone mask p = gone 19 p (run mask) (omega arith)

global_cases : (a b : ℕ) → (both_global a b ≡ 0) ⊎ (both_global a b ≡ 2 ^ 12)
unfolding both_global
global_cases a b = grind arith

-- page, G and ASID together
hi_in_range_lem : (mask c g a : ℕ) → c < 2 ^ 19 → (g ≡ 0) ⊎ (g ≡ 2 ^ 12) → a < 2 ^ 8 → bit_and c (run mask) ≡ 0 → hi_in_range mask (c * 2 ^ 13 + g + a) ≡ true
unfolding hi_in_range
hi_in_range_lem mask c g a hc hg ha e = grind arith

lo_in_range_lem : (lo : ℕ) → lo_in_range (without_g lo) ≡ true
unfolding lo_in_range
lo_in_range_lem lo = grind arith

-- what a write stores is in range where its mask is legal, whatever else was moved
pub stored_in_range : (moved : Slot) → legal_mask moved.mask ≡ true → slot_in_range (stored moved) ≡ true
unfolding slot_in_range stored
stored_in_range moved legal =
    let c : cleared moved.mask (page moved.hi) < 2 ^ 19 = let l = cleared_le moved.mask (page moved.hi) in omega arith in
    let h : hi_in_range moved.mask (cleared moved.mask (page moved.hi) * 2 ^ 13 + both_global moved.lo0 moved.lo1 + asid_of moved.hi) ≡ true =
    hi_in_range_lem moved.mask (cleared moved.mask (page moved.hi)) (both_global moved.lo0 moved.lo1) (asid_of moved.hi) c
    (global_cases moved.lo0 moved.lo1) (omega arith) (cleared_gone moved.mask (page moved.hi))
    in
    rw (legal, h, lo_in_range_lem moved.lo0, lo_in_range_lem moved.lo1)

pub both_true : (a b : Bool) → both a b ≡ true → (a ≡ true) × (b ≡ true)
both_true true b e = (refl, e)
both_true false b e = let z : ◌≡◌ {A = ℕ} 0 1 = cc in absurd (omega arith)

-- slots are in range together just where each is
slots_each : (left i : ℕ) (tlb : List ℕ) → slots_in_range left i tlb ≡ true → (j : ℕ) → i ≤ j → j < i + left → slot_in_range (slot_at tlb j) ≡ true
unfolding slots_in_range
slots_each zero i tlb e j l h = grind arith
slots_each (suc left) i tlb e j l h = grind (arith, slots_each left (i + 1) tlb)

each_slots : (left i : ℕ) (tlb : List ℕ) → ((j : ℕ) → i ≤ j → j < i + left → slot_in_range (slot_at tlb j) ≡ true) → slots_in_range left i tlb ≡ true
unfolding slots_in_range
each_slots zero i tlb all = refl
each_slots (suc left) i tlb all = grind (arith, each_slots left (i + 1) tlb)

pub in_range_each : (tlb : List ℕ) → tlb_in_range tlb ≡ true → (j : ℕ) → j < 48 → slot_in_range (slot_at tlb j) ≡ true
unfolding tlb_in_range
in_range_each tlb e j h = slots_each 48 0 tlb e j (omega arith) (omega arith)

pub each_in_range : (tlb : List ℕ) → ((j : ℕ) → j < 48 → slot_in_range (slot_at tlb j) ≡ true) → tlb_in_range tlb ≡ true
unfolding tlb_in_range
each_in_range tlb all = each_slots 48 0 tlb (λ j l h. all j (omega arith))

-- a write of a legal mask keeps a TLB in range
pub put_in_range : (tlb : List ℕ) (w : Option SlotWrite) → length tlb ≡ 192 → tlb_in_range tlb ≡ true → legal_write w ≡ true → tlb_in_range (put_slot tlb w) ≡ true
unfolding legal_write put_slot
put_in_range tlb None l e legal = keeps
  where
    keeps : tlb_in_range (put_slot tlb None) ≡ true
    keeps = e
put_in_range tlb (Some w) l e legal = each_in_range (put_slot tlb (Some w)) (λ j h. go j h (ℕ_discrete j w.index))
  where
    go : (j : ℕ) → j < 48 → Dec (j ≡ w.index) → slot_in_range (slot_at (put_slot tlb (Some w)) j) ≡ true
    go j h (yes d) = rw (d, put_same tlb w.index w.moved l (omega arith)) (stored_in_range w.moved legal)
    go j h (no n) = rw (put_other tlb w.index j w.moved n) (in_range_each tlb e j h)
