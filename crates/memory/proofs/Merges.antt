-- The merge by shifts of whole bytes: what a shift in two halves is, and what a shift there and back keeps.
use Prim.Native.Nat.{ℕ, ◌+◌, ◌-◌, ◌*◌, ◌/◌, ◌%◌, ◌^◌, ◌≤◌, ◌<◌}
use native.Mathlib.Nat.{mod-lt, mod-eq_of_lt, mul_assoc, add-mul, div-add-mod', mul-add-mod_self_right, div-mul-le_self, lt_of_le_of_lt, mul_right_comm}
use native.Mathlib.Omega.{arith}
use mathlib.Core.Path.{◌≡◌, sym, ◌∙◌, ap}
use lib.Pow as Pow
use lib.Pow.{pow-add, pow_pos, shl_exact, shl-shr, shr-shr}
use Rattle.memory.specs.Bytes.{with_bytes}
use Rattle.memory.specs.BytesLaws.{with_lt}

-- half of the way twice is all of it
halves : (n : ℕ) → 4 * n + 4 * n ≡ 8 * n
halves n = omega arith

module _ (x n : ℕ) where
  down_halves : x / 2 ^ (4 * n) / 2 ^ (4 * n) ≡ x / 2 ^ (8 * n)
  down_halves = shr-shr x (4 * n) (4 * n) ∙ ap (λ (k : ℕ). x / 2 ^ k) (halves n)

  up_halves : x * 2 ^ (4 * n) % 2 ^ 64 * 2 ^ (4 * n) % 2 ^ 64 ≡ x * 2 ^ (8 * n) % 2 ^ 64
  up_halves =
      let p = 2 ^ (4 * n) in
      let q = x * p in
      let e : q * p ≡ q / 2 ^ 64 * p * 2 ^ 64 + q % 2 ^ 64 * p =
      ap (λ (k : ℕ). k * p) (sym (div-add-mod' q (2 ^ 64)))
      ∙ add-mul (q / 2 ^ 64 * 2 ^ 64) (q % 2 ^ 64) p
      ∙ ap (λ (k : ℕ). k + q % 2 ^ 64 * p) (mul_right_comm (q / 2 ^ 64) (2 ^ 64) p) in
      let f : q * p ≡ x * 2 ^ (8 * n) = mul_assoc x p p ∙ ap (λ (k : ℕ). x * k) (sym (pow-add 2 (4 * n) (4 * n)) ∙ ap (λ (k : ℕ). 2 ^ k) (halves n)) in
      sym (mul-add-mod_self_right (q / 2 ^ 64 * p) (2 ^ 64) (q % 2 ^ 64 * p)) ∙ ap (λ (k : ℕ). k % 2 ^ 64) (sym e ∙ f)

module _ (x n : ℕ) where
  -- to the left and back: the low bytes
  pub low_kept : n ≤ 8 → let half = 4 * (8 - n) in x * 2 ^ half % 2 ^ 64 * 2 ^ half % 2 ^ 64 / 2 ^ half / 2 ^ half ≡ x % 2 ^ (8 * n)
  low_kept h =
      let spare = 8 * (8 - n) in
      let e : 64 ≡ 8 * n + spare = omega arith in
      down_halves _ (8 - n)
      ∙ ap (λ (k : ℕ). k / 2 ^ spare) (up_halves x (8 - n) ∙ ap (λ (k : ℕ). x * 2 ^ spare % 2 ^ k) e)
      ∙ Pow.field (x * 2 ^ spare) (8 * n) spare
      ∙ ap (λ (k : ℕ). k % 2 ^ (8 * n)) (shl-shr x spare)

  -- to the right and back: the others
  pub high_kept : x < 2 ^ 64 → let half = 4 * n in x / 2 ^ half / 2 ^ half * 2 ^ half % 2 ^ 64 * 2 ^ half % 2 ^ 64 ≡ x / 2 ^ (8 * n) * 2 ^ (8 * n)
  high_kept l =
      ap (λ (k : ℕ). k * 2 ^ (4 * n) % 2 ^ 64 * 2 ^ (4 * n) % 2 ^ 64) (down_halves x n)
      ∙ up_halves (x / 2 ^ (8 * n)) n
      ∙ mod-eq_of_lt (lt_of_le_of_lt (div-mul-le_self x (2 ^ (8 * n))) l)

-- the merge of what the code kept of each number: a above, k to be placed, b below
module _ (x low count y : ℕ) (h : low + count ≤ 8) where
  pub merged :
      (a k b : ℕ)
      → a ≡ x / 2 ^ (8 * (low + count)) * 2 ^ (8 * (low + count))
      → k ≡ y % 2 ^ (8 * count)
      → b ≡ x % 2 ^ (8 * low)
      → a + k * 2 ^ (4 * low) % 2 ^ 64 * 2 ^ (4 * low) % 2 ^ 64 + b ≡ with_bytes x low count y
  unfolding with_bytes
  merged a k b e f g =
      let place : k * 2 ^ (4 * low) % 2 ^ 64 * 2 ^ (4 * low) % 2 ^ 64 ≡ y % 2 ^ (8 * count) * 2 ^ (8 * low) =
      up_halves k low
      ∙ ap (λ (n : ℕ). n * 2 ^ (8 * low) % 2 ^ 64) f
      ∙ shl_exact (8 * count) (8 * low) 64 (mod-lt y (pow_pos (8 * count))) (omega arith) in
      (λ i. e i + place i + g i)

  pub merged_fits : (r : ℕ) → r ≡ with_bytes x low count y → x < 2 ^ 64 → r < 2 ^ 64
  merged_fits r e l = rw e (with_lt x low count y h l)
