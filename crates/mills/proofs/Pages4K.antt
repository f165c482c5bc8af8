-- Slots with pages of 4096 bytes: what they match, and where they lead.
use Prim.Native.Nat.{ℕ, zero, suc, ◌+◌, ◌*◌, ◌/◌, ◌%◌, ◌^◌, ◌<◌}
use native.Mathlib.Omega.{arith}
use native.Mathlib.Nat.{pow-suc}
use mathlib.Core.Path.{◌≡◌, refl}
use mathlib.Core.Bool.{Bool, true, false}
use lib.Count.{count_trailing_zeros}
use lib.Dec.{eqb}
use borrow.Author.Tests.{eq-eqb, eqb-true}
use Rattle.promise.specs.Pick.{either}
use Rattle.tlb.specs.PageMask.{trailing_ones, page_bits}
use Rattle.tlb.specs.Slot.{asid_of, global_of}
use Rattle.tlb.specs.Match.{agree, same_space, hits}
use Rattle.tlb.specs.Translate.{odd_of, physical}
use Rattle.tlb.proofs.StaysInRange.{both_true}

-- page numbers that agree without a mask are the same
agree_eq : (w p q : ℕ) → p < 2 ^ w → q < 2 ^ w → agree w 0 p q ≡ true → p ≡ q
unfolding agree
agree_eq zero p q hp hq e = omega arith
agree_eq (suc w) p q hp hq e =
    let s : 2 ^ suc w ≡ 2 ^ w * 2 = pow-suc 2 w in
    let b = both_true (eqb (p % 2) (q % 2)) (agree w 0 (p / 2) (q / 2)) e in
    let low : p % 2 ≡ q % 2 = eqb-true _ _ b.0 in
    let high : p / 2 ≡ q / 2 = agree_eq w (p / 2) (q / 2) (omega arith) (omega arith) b.1 in
    omega arith

either_same : (b : Bool) → either b true ≡ true
either_same true = refl
either_same false = refl

-- a page number agrees with itself
agree_refl : (w m p : ℕ) → agree w m p p ≡ true
unfolding agree
agree_refl zero m p = refl
agree_refl (suc w) m p = rw (eq-eqb (p % 2) (p % 2) refl, either_same (eqb (m % 2) 1), agree_refl w (m / 2) (p / 2)) refl

-- EntryHi of a pair of pages and an ASID
abbrev pub hi_of : ℕ → ℕ → ℕ
hi_of pair a = pair * 8192 + a

-- it is not global
not_global : (pair a : ℕ) → a < 256 → global_of (hi_of pair a) ≡ false
not_global pair a h = let z : hi_of pair a / 2 ^ 12 % 2 ≡ 0 = omega arith in rw z refl

-- a slot without a mask that matches has the address's pair of pages, and its address space
hits_both : (hi asid v : ℕ) → hi < 2 ^ 32 → v < 2 ^ 31 → hits 19 0 hi asid v ≡ true → (hi / 8192 ≡ v / 8192) × (same_space hi asid ≡ true)
unfolding hits
hits_both hi asid v h hv e =
    let b = both_true (agree 19 0 (hi / 2 ^ 13) (v / 2 ^ 13)) (same_space hi asid) e in
    (agree_eq 19 (hi / 2 ^ 13) (v / 2 ^ 13) (omega arith) (omega arith) b.0, b.1)

-- such a slot matches the addresses of its pair under its ASID, and no others
pub hits_only : (pair a asid v : ℕ) → pair < 2 ^ 18 → a < 256 → v < 2 ^ 31 → hits 19 0 (hi_of pair a) asid v ≡ true → (pair ≡ v / 8192) × (a ≡ asid)
unfolding same_space
hits_only pair a asid v hp ha hv e =
    let b = hits_both (hi_of pair a) asid v (omega arith) hv e in
    let t : eqb (asid_of (hi_of pair a)) asid ≡ true = rw (not_global pair a ha) at b.1 in
    let q : asid_of (hi_of pair a) ≡ asid = eqb-true _ _ t in
    let r : hi_of pair a / 8192 ≡ v / 8192 = b.0 in
    (omega arith, omega arith)

pub hits_own : (pair a v : ℕ) → a < 256 → pair ≡ v / 8192 → hits 19 0 (hi_of pair a) a v ≡ true
unfolding hits same_space
hits_own pair a v ha e =
    let q : asid_of (hi_of pair a) ≡ a = omega arith in
    let r : hi_of pair a / 2 ^ 13 ≡ v / 2 ^ 13 = omega arith in
    rw (not_global pair a ha, eq-eqb (asid_of (hi_of pair a)) a q, r, agree_refl 19 0 (v / 2 ^ 13)) refl

-- a fresh slot matches no User address
pub fresh_hits : (i asid v : ℕ) → i < 48 → v < 2 ^ 31 → hits 19 0 (0x80000000 + i * 0x2000) asid v ≡ true → ⊥
fresh_hits i asid v hi hv e =
    let r : (0x80000000 + i * 0x2000) / 8192 ≡ v / 8192 = (hits_both (0x80000000 + i * 0x2000) asid v (omega arith) hv e).0 in
    omega arith

-- which half an address picks, and where EntryLo of frame g leads
pub odd_is : (v : ℕ) → odd_of 0 v ≡ v / 4096 % 2
unfolding page_bits trailing_ones count_trailing_zeros
odd_is v = refl

pub physical_is : (lo v : ℕ) → physical 0 lo v ≡ lo / 64 % 2 ^ 24 * 4096 + v % 4096
unfolding physical page_bits trailing_ones count_trailing_zeros
physical_is lo v = omega arith
