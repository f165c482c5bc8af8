-- Status stays in range where its low five bits change and KSU does not, and a moved value that is built is in range.
use Rattle.std.proofs.Common.{◌≡◌, ℕ, ◌+◌, ◌*◌, ◌/◌, ◌%◌, ◌^◌, ◌<◌, Bool, true, eqb, sym, ◌∙◌, arith, eq-eqb, eqb-true}
use Rattle.promise.specs.Pick.{both, either, not}
use Rattle.promise.specs.Bits.{bits}
use Rattle.cp0.specs.Registers.{replaced, cleared, kept_status}
use Rattle.cp0.specs.Status.{KSU}
use Rattle.cp0.specs.Moves.{built_status}
use Rattle.cp0.specs.Exceptions.{status_returned}
use Rattle.cp0.specs.Range.{status_in_range}
use Rattle.cp0.proofs.Fields.{status_of}
use Rattle.cp0.proofs.KeptBits.{status_kept, status_five}
use Rattle.cp0.proofs.InRange.{split, join}

-- whether a value is built is told by four of its fields
abbrev built_of : ℕ → ℕ → ℕ → ℕ → Bool
built_of cu re kx ksu = both (eqb cu 0) (both (eqb re 0) (both (eqb kx 0) (not (either (eqb ksu 1) (eqb ksu 3)))))

same_built : (p q r k p' q' r' k' : ℕ) → p' ≡ p → q' ≡ q → r' ≡ r → k' ≡ k → built_of p q r k ≡ true → built_of p' q' r' k' ≡ true
same_built p q r k p' q' r' k' hp hq hr hk h = rw (hp, hq, hr, hk) h

ksu_built : (p q r k : ℕ) → built_of p q r k ≡ true → built_of 0 0 0 k ≡ true
ksu_built p q r k h = grind arith

-- the fields that are not kept are 0 in what is kept
module _ (a b c d : ℕ) (h : a < 2) (i : b < 2) (j : c < 256) (k : d < 32) where
  cu_none : status_of a b c d / 2 ^ 29 % 8 ≡ 0
  cu_none = omega arith

  re_none : status_of a b c d / 2 ^ 25 % 2 ≡ 0
  re_none = omega arith

  kx_none : status_of a b c d / 2 ^ 5 % 8 ≡ 0
  kx_none = omega arith

  ksu_same : status_of a b c d / 2 ^ 3 % 4 ≡ d / 2 ^ 3 % 4
  ksu_same = omega arith

-- a built value that is moved
pub status_moved : (w : ℕ) → built_status w ≡ true → status_in_range (kept_status w) ≡ true
unfolding built_status status_in_range
status_moved w h =
    let same : KSU w ≡ w % 2 ^ 5 / 2 ^ 3 % 4 = omega arith in
    join _ _ (eq-eqb _ _ (status_kept w))
    (same_built 0 0 0 (KSU w) _ _ _ _
    (cu_none (w / 2 ^ 28 % 2) (w / 2 ^ 22 % 2) (w / 2 ^ 8 % 256) (w % 32) (omega arith) (omega arith) (omega arith) (omega arith))
    (re_none (w / 2 ^ 28 % 2) (w / 2 ^ 22 % 2) (w / 2 ^ 8 % 256) (w % 32) (omega arith) (omega arith) (omega arith) (omega arith))
    (kx_none (w / 2 ^ 28 % 2) (w / 2 ^ 22 % 2) (w / 2 ^ 8 % 256) (w % 32) (omega arith) (omega arith) (omega arith) (omega arith))
    (ksu_same (w / 2 ^ 28 % 2) (w / 2 ^ 22 % 2) (w / 2 ^ 8 % 256) (w % 32) (omega arith) (omega arith) (omega arith) (omega arith) ∙ sym same)
    (ksu_built (bits w 29 3) (bits w 25 1) (bits w 5 3) (KSU w) h))

-- fields above the low five bits do not see them
above_cu : (q t : ℕ) → t < 32 → (q * 2 ^ 5 + t) / 2 ^ 29 ≡ q / 2 ^ 24
above_cu q t k = omega arith

above_re : (q t : ℕ) → t < 32 → (q * 2 ^ 5 + t) / 2 ^ 25 ≡ q / 2 ^ 20
above_re q t k = omega arith

-- the low five bits become t, with the same KSU
module _ (s t : ℕ) (k : t < 32) (ksu : t / 2 ^ 3 ≡ s / 2 ^ 3 % 4) where
  whole : s / 2 ^ 5 * 2 ^ 5 + s % 2 ^ 5 ≡ s
  whole = omega arith

  cu_five : (s / 2 ^ 5 * 2 ^ 5 + t) / 2 ^ 29 % 8 ≡ s / 2 ^ 29 % 8
  cu_five = grind arith

  re_five : (s / 2 ^ 5 * 2 ^ 5 + t) / 2 ^ 25 % 2 ≡ s / 2 ^ 25 % 2
  re_five = grind arith

  kx_five : (s / 2 ^ 5 * 2 ^ 5 + t) / 2 ^ 5 % 8 ≡ s / 2 ^ 5 % 8
  kx_five = omega arith

  ksu_five : (s / 2 ^ 5 * 2 ^ 5 + t) / 2 ^ 3 % 4 ≡ s / 2 ^ 3 % 4
  ksu_five = omega arith

  five_in : status_in_range s ≡ true → status_in_range (s / 2 ^ 5 * 2 ^ 5 + t) ≡ true
  unfolding built_status status_in_range
  five_in h =
      let (p, q) = split _ _ h in
      join _ _ (eq-eqb _ _ (status_five s t k (eqb-true _ _ p)))
      (same_built (s / 2 ^ 29 % 8) (s / 2 ^ 25 % 2) (s / 2 ^ 5 % 8) (s / 2 ^ 3 % 4) _ _ _ _ cu_five re_five kx_five ksu_five q)

-- a change of the low two bits leaves KSU
quarter : (q y : ℕ) → y < 4 → (q * 2 ^ 2 + y) / 2 ^ 3 ≡ q / 2
quarter q y k = omega arith

ksu_kept : (s y : ℕ) → y < 4 → (s % 2 ^ 5 / 2 ^ 2 * 2 ^ 2 + y) / 2 ^ 3 ≡ s / 2 ^ 3 % 4
ksu_kept s y k = grind arith

-- and so does a change of the low three
ksu_left : (s y : ℕ) → y < 8 → (s % 2 ^ 5 / 2 ^ 3 * 2 ^ 3 + y) / 2 ^ 3 ≡ s / 2 ^ 3 % 4
ksu_left s y k = grind arith

-- EXL set, ERL cleared, EXL cleared
module _ (s : ℕ) (h : status_in_range s ≡ true) where
  exl_set : replaced s 1 1 1 ≡ s / 2 ^ 5 * 2 ^ 5 + (s % 2 ^ 5 / 2 ^ 2 * 2 ^ 2 + (2 + s % 2))
  exl_set = omega arith

  erl_clear : cleared s 2 1 ≡ s / 2 ^ 5 * 2 ^ 5 + (s % 2 ^ 5 / 2 ^ 3 * 2 ^ 3 + s % 2 ^ 2)
  erl_clear = omega arith

  exl_clear : cleared s 1 1 ≡ s / 2 ^ 5 * 2 ^ 5 + (s % 2 ^ 5 / 2 ^ 2 * 2 ^ 2 + s % 2)
  exl_clear = omega arith

  pub status_entered : status_in_range (replaced s 1 1 1) ≡ true
  status_entered = rw exl_set (five_in s (s % 2 ^ 5 / 2 ^ 2 * 2 ^ 2 + (2 + s % 2)) (omega arith) (ksu_kept s (2 + s % 2) (omega arith)) h)

  pub status_returned_lem : status_in_range (status_returned s) ≡ true
  unfolding status_returned
  status_returned_lem = grind (arith, erl_clear, exl_clear, five_in s (s % 2 ^ 5 / 2 ^ 3 * 2 ^ 3 + s % 2 ^ 2) (omega arith) (ksu_left s (s % 2 ^ 2) (omega arith)) h, five_in s (s % 2 ^ 5 / 2 ^ 2 * 2 ^ 2 + s % 2) (omega arith) (ksu_kept s (s % 2) (omega arith)) h)
