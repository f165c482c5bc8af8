-- The seven legal masks, and the size of their pages: a run of 2k ones, and pages of 4096 × 4^k bytes.
use Prim.Native.Nat.{ℕ, zero, suc, ◌+◌, ◌-◌, ◌*◌, ◌/◌, ◌%◌, ◌^◌, ◌≤◌}
use mathlib.Core.Path.{◌≡◌, refl, sym, ap, ◌∙◌}
use mathlib.Core.Bool.{true}
use native.Mathlib.Nat.{pow-suc}
use native.Mathlib.Omega.{arith}
use lib.Count.{ones, ones_in, count_trailing_zeros, ones-le}
use lib.Dec.{eqb}
use lib.Pow.{pow-add}
use borrow.Author.Tests.{eqb-true}
use Rattle.promise.specs.Pick.{both}
use Rattle.tlb.specs.PageMask.{run, trailing_ones, legal_mask, page_bits, Size}
use Rattle.tlb.proofs.Pages.{all_in_run}
use Rattle.tlb.proofs.StaysInRange.{both_true}

four : (k : ℕ) → 2 ^ (2 * k) ≡ 4 ^ k
four zero = refl
four (suc k) = grind (arith, four k, pow-suc 4 k, pow-add 2 (2 * k) 2)

pub legal_size : (mask : ℕ) → legal_mask mask ≡ true → Size mask
unfolding legal_mask trailing_ones page_bits
legal_size mask legal =
    let t = both_true (eqb mask (run mask * 2 ^ 13)) (both (eqb (ones (run mask)) (trailing_ones (run mask))) (eqb (ones (run mask) % 2) 0)) legal in
    let u = both_true (eqb (ones (run mask)) (trailing_ones (run mask))) (eqb (ones (run mask) % 2) 0) t.1 in
    let r : mask ≡ run mask * 2 ^ 13 = eqb-true _ _ t.0 in
    let e : ones (run mask) ≡ count_trailing_zeros 64 (2 ^ 64 - 1 - run mask) = eqb-true _ _ u.0 in
    let v : ones (run mask) % 2 ≡ 0 = eqb-true _ _ u.1 in
    let l : ones (run mask) ≤ 12 = ones-le 12 (run mask) (omega arith) in
    let c : ones (run mask) ≡ 2 * (ones (run mask) / 2) = omega arith in
    let a : run mask + 1 ≡ 2 ^ ones (run mask) = all_in_run 64 (run mask) (omega arith) e in
    let f : run mask + 1 ≡ 4 ^ (ones (run mask) / 2) = a ∙ ap (λ (n : ℕ). 2 ^ n) c ∙ four (ones (run mask) / 2) in
    let b : page_bits mask ≡ 12 + 2 * (ones (run mask) / 2) = ap (λ (n : ℕ). 12 + n) (sym e ∙ c) in
    record {
      k = ones (run mask) / 2;
      small = omega arith;
      count = c;
      mask_is = let g : run mask ≡ 4 ^ (ones (run mask) / 2) - 1 = omega arith in rw (← g) r;
      bit_is = b;
      bytes_are = ap (λ (n : ℕ). 2 ^ n) b ∙ pow-add 2 12 (2 * (ones (run mask) / 2)) ∙ ap (λ (n : ℕ). 4096 * n) (four (ones (run mask) / 2));
    }

-- and each of the seven is legal
pub seven_legal : (k : ℕ) → k ≤ 6 → legal_mask ((4 ^ k - 1) * 2 ^ 13) ≡ true
unfolding legal_mask trailing_ones ones ones_in count_trailing_zeros
seven_legal zero h = refl
seven_legal (suc zero) h = refl
seven_legal (suc (suc zero)) h = refl
seven_legal (suc (suc (suc zero))) h = refl
seven_legal (suc (suc (suc (suc zero)))) h = refl
seven_legal (suc (suc (suc (suc (suc zero))))) h = refl
seven_legal (suc (suc (suc (suc (suc (suc zero)))))) h = refl
seven_legal (suc (suc (suc (suc (suc (suc (suc k))))))) h = let z : ⊥ = omega arith in absurd z
