-- Registers and numbers, over the width: which register holds a number, and what is read of one.
use Rattle.std.proofs.Common.{◌≡◌, ℕ, suc, ◌-◌, ◌%◌, ◌^◌, ◌<◌, ◌≤◌, ℤ, pos, negsuc, sym, ap, ◌∙◌, mod-eq_of_lt, w64, Fits, SFits, to_z, of_z, le-ltb}
use lib.Signed.{mag}
use mir.Syntax.{Width}
use mir.Val.{bits, hbits}
use mir.ValLaws.{Fits-wrap, half_full, to_z-Fits, to_z-of_z, of_z-to_z}
use Rattle.word.specs.Extend.{low, signed, cut, register, extend}

-- the upper half are the numbers below 0
pub to_z_high : (w : Width) (x : ℕ) → 2 ^ hbits w ≤ x → to_z w x ≡ negsuc (2 ^ bits w - suc x)
to_z_high w x h = rw (le-ltb x (2 ^ hbits w) h)

-- a number of the width's magnitude is cut to its own pattern, and its register is that pattern's number
pub cut_within : (w : Width) (z : ℤ) → mag z < 2 ^ bits w → cut (2 ^ bits w) z ≡ of_z w z
cut_within w (pos n) h = mod-eq_of_lt h
cut_within w (negsuc n) h = ap (λ (k : ℕ). 2 ^ bits w - suc k) (mod-eq_of_lt h)

pub register_within : (w : Width) (z : ℤ) → mag z < 2 ^ bits w → register w z ≡ of_z w64 (to_z w (of_z w z))
unfolding register
register_within w z h = ap (λ (n : ℕ). of_z w64 (to_z w n)) (cut_within w z h)

-- so a number that fits has its pattern of 64 bits for its register
pub register_fits : (w : Width) (z : ℤ) → SFits w z → register w z ≡ of_z w64 z
register_fits w z f = register_within w z (half_full w f.sfits) ∙ ap (of_z w64) (to_z-of_z w z f)

-- a register holds a number where its low bits are the number's
pub holds : (w : Width) (z : ℤ) (n : ℕ) → n % 2 ^ bits w ≡ cut (2 ^ bits w) z → extend w n ≡ register w z
unfolding register extend
holds w z n e = ap (λ (k : ℕ). of_z w64 (to_z w k)) e

-- a doubleword is its own low bits and its own extension
pub low_whole : (n : ℕ) → Fits w64 n → low w64 n ≡ n
low_whole n f = mod-eq_of_lt f.fits

pub whole : (n : ℕ) → n < 2 ^ 64 → n ≡ extend w64 n
unfolding extend
whole n h = sym (ap (λ (k : ℕ). of_z w64 (to_z w64 k)) (mod-eq_of_lt h) ∙ of_z-to_z w64 n (record { fits = h }))

-- what is read as signed fits, and is the low bits again
pub signed_fits : (w : Width) (x : ℕ) → SFits w (signed w x)
signed_fits w x = to_z-Fits w (low w x) (Fits-wrap w x)

pub signed_back : (w : Width) (x : ℕ) → of_z w (signed w x) ≡ low w x
signed_back w x = of_z-to_z w (low w x) (Fits-wrap w x)

pub signed_mag : (w : Width) (x : ℕ) → mag (signed w x) < 2 ^ bits w
signed_mag w x = half_full w (signed_fits w x).sfits

-- what the signed type makes of a whole register
pub as_signed : (x : ℕ) → Fits w64 x → {z : ℤ} → z ≡ to_z w64 x → z ≡ signed w64 x
as_signed x f e = e ∙ ap (to_z w64) (sym (low_whole x f))
