-- The run of ones in a mask: how long it is, and the pages that it gives.
use Prim.Native.Nat.{ℕ, zero, suc, ◌+◌, ◌-◌, ◌*◌, ◌/◌, ◌%◌, ◌^◌, ◌<◌, ◌≤◌}
use mathlib.Core.Path.{◌≡◌, refl, sym, ap, ◌∙◌}
use mathlib.Core.Logic.{◌⊎◌, inl, inr}
use native.Mathlib.Nat.{pow-suc, mod-eq_of_lt, mod-lt, le_trans, mul-le-mul_right, sub-add_cancel}
use native.Mathlib.Omega.{arith}
use lib.Bits.{bit_and, and_mask}
use lib.Count.{ones, count_trailing_zeros, ones_step, ones-le, trailing_le}
use lib.Pow.{pow_pos, pow-add, pow-lt, shr_lt}
use Rattle.tlb.specs.PageMask.{trailing_ones, run, page_bits, page_bytes}
use Rattle.tlb.specs.Slot.{frame}
use Rattle.tlb.specs.Translate.{physical}
use Rattle.tlb.proofs.Agree.{by_bit}

-- the zeros at the right end of the complement of x at k bits
abbrev run_of : ℕ → ℕ → ℕ
run_of k x = count_trailing_zeros k (2 ^ k - 1 - x)

-- a low bit is 0 or 1
bit_cases : (x : ℕ) → (x % 2 ≡ 0) ⊎ (x % 2 ≡ 1)
bit_cases x = by_bit (λ (b : ℕ). (b ≡ 0) ⊎ (b ≡ 1)) (inl refl) (inr refl) (x % 2) (omega arith)

module _ (k x : ℕ) (h : x < 2 ^ suc k) where
  run_even : x % 2 ≡ 0 → run_of (suc k) x ≡ 0
  unfolding count_trailing_zeros
  run_even e = grind (arith, pow-suc 2 k)

  run_odd : x % 2 ≡ 1 → run_of (suc k) x ≡ suc (run_of k (x / 2))
  unfolding count_trailing_zeros
  run_odd e = grind (arith, pow-suc 2 k)

  half_below : x / 2 < 2 ^ k
  half_below = let p : 2 ^ suc k ≡ 2 ^ k * 2 = pow-suc 2 k in omega arith

-- the run is no longer than the ones are many
run_le_ones : (k x : ℕ) → x < 2 ^ k → run_of k x ≤ ones x
run_le_ones zero x h = let e = trailing_le 0 (2 ^ 0 - 1 - x) in omega arith
run_le_ones (suc k) x h = grind (arith, run_le_ones k (x / 2) (half_below k x h), run_even k x h, run_odd k x h, ones_step x)

-- a number without ones is zero
no_ones : (k x : ℕ) → x < 2 ^ k → ones x ≡ 0 → x ≡ 0
no_ones zero x h e = omega arith
no_ones (suc k) x h e = grind (arith, ones_step x, no_ones k (x / 2) (half_below k x h))

-- where all ones stand in the run, the number is that run
pub all_in_run : (k x : ℕ) → x < 2 ^ k → ones x ≡ run_of k x → x + 1 ≡ 2 ^ ones x
all_in_run zero x h e =
    let n : x ≡ 0 = omega arith in
    let o : ones x ≤ 0 = ones-le 0 x h in
    let z : ones x ≡ 0 = omega arith in
    rw (z, n)
all_in_run (suc k) x h e = go (all_in_run k (x / 2) (half_below k x h)) (bit_cases x)
  where
    go : (ones (x / 2) ≡ run_of k (x / 2) → x / 2 + 1 ≡ 2 ^ ones (x / 2)) → (x % 2 ≡ 0) ⊎ (x % 2 ≡ 1) → x + 1 ≡ 2 ^ ones x
    go rest (inl b) =
        let r = run_even k x h b in
        let z : ones x ≡ 0 = omega arith in
        let n = no_ones (suc k) x h z in
        rw (z, n)
    go rest (inr b) =
        let r = run_odd k x h b in
        let s : ones x ≡ x % 2 + ones (x / 2) = ones_step x in
        let t : ones x ≡ suc (ones (x / 2)) = omega arith in
        let i = rest (omega arith) in
        let p : 2 ^ suc (ones (x / 2)) ≡ 2 ^ ones (x / 2) * 2 = pow-suc 2 (ones (x / 2)) in
        rw t (omega arith)

-- a mask's run has at most 12 ones
pub run_le : (mask : ℕ) → trailing_ones (run mask) ≤ 12
unfolding trailing_ones
run_le mask =
    let b : run mask < 2 ^ 12 = omega arith in
    let c : run mask < 2 ^ 64 = omega arith in
    le_trans (run_le_ones 64 (run mask) c) (ones-le 12 (run mask) b)

pub bits_le : (mask : ℕ) → page_bits mask ≤ 24
unfolding page_bits
bits_le mask = let h = run_le mask in omega arith

-- the bytes of a page, as the code shifts them
pub shifted : (b : ℕ) → b ≤ 24 → (1 * 2 ^ b) % 2 ^ 64 ≡ 2 ^ b
shifted b h =
    let e : 1 * 2 ^ b ≡ 2 ^ b = omega arith in
    let l : 2 ^ b < 2 ^ 64 = pow-lt {i = b} {j = 64} (omega arith) in
    rw e (mod-eq_of_lt l)

-- a frame without its low t bits, in bytes, and an offset make 36 bits
pub frame_fits : (f t o : ℕ) → f < 2 ^ 24 → t ≤ 12 → o < 2 ^ (12 + t) → f / 2 ^ t * 2 ^ (12 + t) + o < 2 ^ 36
frame_fits f t o hf ht ho =
    let s : (24 - t) + t ≡ 24 = sub-add_cancel (omega arith) in
    let g : f / 2 ^ t < 2 ^ (24 - t) = shr_lt (24 - t) t (rw s hf) in
    let m : suc (f / 2 ^ t) * 2 ^ (12 + t) ≤ 2 ^ (24 - t) * 2 ^ (12 + t) = mul-le-mul_right (2 ^ (12 + t)) g in
    let u : (24 - t) + (12 + t) ≡ 36 = omega arith in
    let p : 2 ^ (24 - t) * 2 ^ (12 + t) ≡ 2 ^ 36 = sym (pow-add 2 (24 - t) (12 + t)) ∙ ap (λ (n : ℕ). 2 ^ n) u in
    omega arith

-- what the code computes with a mask's count of ones and page bits is the physical address, of 36 bits
pub physical_fits : (mask lo v : ℕ) → physical mask lo v < 2 ^ 36
unfolding physical page_bits
physical_fits mask lo v = frame_fits (frame lo) (trailing_ones (run mask)) (v % page_bytes mask) (omega arith) (run_le mask) (mod-lt v (pow_pos (page_bits mask)))

module _ (mask lo v count bits : ℕ) (e : count ≡ trailing_ones (run mask)) (d : bits ≡ page_bits mask) where
  abbrev bytes : ℕ
  bytes = (1 * 2 ^ bits) % 2 ^ 64

  bytes_are : bytes ≡ page_bytes mask
  bytes_are = let h = bits_le mask in shifted bits (omega arith) ∙ ap (λ (n : ℕ). 2 ^ n) d

  pub bytes_some : 1 ≤ bytes
  bytes_some = rw bytes_are (pow_pos (page_bits mask))

  pub physical_code : frame lo / 2 ^ count * bytes + bit_and v (bytes - 1) ≡ physical mask lo v
  unfolding physical
  physical_code = rw (bytes_are, e, and_mask v (page_bits mask))

  pub sum_fits : frame lo / 2 ^ count * bytes + bit_and v (bytes - 1) < 2 ^ 64
  sum_fits = let h = physical_fits mask lo v in let s = physical_code in omega arith

  pub product_fits : frame lo / 2 ^ count * bytes < 2 ^ 64
  product_fits = let h = sum_fits in omega arith
