-- Shifts over the width: which register the code's shift of a register, or of a signed number, is.
use Rattle.std.proofs.Common.{◌≡◌, ℕ, ◌+◌, ◌*◌, ◌/◌, ◌%◌, ◌^◌, ℤ, pos, sym, refl, ap, mod-lt, lit<, div-le_self, ◌∙◌, mul_assoc, mul_comm, add-mul, div-add-mod', arith, w64, Fits, SFits, to_z, of_z}
use lib.Pow.{mod-mod-pow}
use lib.Signed.{shr_z, mag_shr}
use mir.Syntax.{Width}
use mir.Val.{bits}
use mir.ValLaws.{sfits_le, to_z-of_z}
use Rattle.word.specs.Extend.{low, unsigned, signed, extend}
use Rattle.word.specs.Shift.{left, right, right_signed}
use Rattle.word.proofs.Cut as Cut
use Rattle.word.proofs.Registers.{low_whole, whole, holds, signed_fits, register_fits}
use Rattle.word.proofs.CompareLaws.{seen}

-- a factor may be cut first
cut_factor : (m x k : ℕ) → x * k % m ≡ x % m * k % m
cut_factor m x k =
    let e : x * k ≡ x / m * m * k + x % m * k = ap (λ (n : ℕ). n * k) (sym (div-add-mod' x m)) ∙ add-mul (x / m * m) (x % m) k in
    let d : x / m * m * k ≡ x / m * k * m = mul_assoc (x / m) m k ∙ ap (λ (n : ℕ). x / m * n) (mul_comm m k) ∙ sym (mul_assoc (x / m) k m) in
    Cut.same m (x * k) (x % m * k) (x / m * k) 0 (omega arith)

module _ (w : Width) (x n : ℕ) where
  -- to the left: the register's shift, of which the low bits count
  pub left_is : (j r : ℕ) → r ≡ x * 2 ^ n % 2 ^ (j + bits w) → extend w r ≡ left w n x
  unfolding left
  left_is j r e =
      holds w (pos (low w x * 2 ^ n)) r
      (ap (λ (k : ℕ). k % 2 ^ bits w) e ∙ mod-mod-pow (x * 2 ^ n) j (bits w) ∙ cut_factor (2 ^ bits w) x (2 ^ n))

  -- to the right: the shift of the low bits
  pub right_is : (r : ℕ) → r ≡ low w x / 2 ^ n → extend w r ≡ right w n x
  unfolding right
  right_is r e = holds w (shr_z (unsigned w x) (2 ^ n)) r (ap (λ (k : ℕ). k % 2 ^ bits w) e)

  -- arithmetic: the shift of the signed number, which keeps within the width
  shifted : SFits w (shr_z (signed w x) (2 ^ n))
  shifted = sfits_le (mag_shr (signed w x) (2 ^ n)) (signed_fits w x)

  pub shift_seen : (z : ℤ) → z ≡ signed w x → to_z w (of_z w (shr_z (to_z w (of_z w z)) (2 ^ n))) ≡ shr_z (signed w x) (2 ^ n)
  shift_seen z e = ap (λ (y : ℤ). to_z w (of_z w (shr_z y (2 ^ n)))) (seen w x z e) ∙ to_z-of_z w _ shifted

  pub right_signed_is : (z : ℤ) → z ≡ shr_z (signed w x) (2 ^ n) → of_z w64 z ≡ right_signed w n x
  unfolding right_signed
  right_signed_is z e = ap (of_z w64) e ∙ sym (register_fits w (shr_z (signed w x) (2 ^ n)) shifted)

-- doublewords are their own extensions and their own low bits
pub left_whole : (x n : ℕ) → x * 2 ^ n % 2 ^ 64 ≡ left w64 n x
left_whole x n = whole _ (mod-lt (x * 2 ^ n) (lit< tt)) ∙ left_is w64 x n 0 _ refl

pub right_whole : (x n : ℕ) → Fits w64 x → x / 2 ^ n ≡ right w64 n x
right_whole x n f = whole _ (omega (arith, f.fits, div-le_self x (2 ^ n))) ∙ right_is w64 x n _ (ap (λ (k : ℕ). k / 2 ^ n) (sym (low_whole x f)))
