-- Products over the width: HI and LO are the halves of the number that the product is, cut to twice the width.
use Rattle.std.proofs.Common.{◌≡◌, ℕ, suc, ◌+◌, ◌-◌, ◌*◌, ◌/◌, ◌%◌, ◌^◌, ◌<◌, ◌≤◌, ℤ, pos, negsuc, ◌*ℤ◌, nat_abs, sym, ap, ◌∙◌, mod-lt, mod-eq_of_lt, add-mul, mul-pos, div-add-mod', arith, lit<, pow_pos, w64, of_z, to_z, mul-le-mul}
use native.Mathlib.Nat.{mod-mod}
use lib.Arith.{digits_div, digits_mod, mod-mul}
use lib.Signed.{mag, shr_z, nat_abs-le}
use mir.Syntax.{Width}
use mir.Val.{bits, hbits}
use mir.ValLaws.{pow-bits, of_z-to_z}
use Rattle.std.proofs.lemmas.Int.{unsigned_abs-mul}
use Rattle.word.specs.declared.HiLo.{HiLo}
use Rattle.word.specs.Extend.{signed, cut, extend}
use Rattle.word.specs.Product.{halves, product}
use Rattle.word.proofs.Registers.{holds, signed_fits, cut_within, whole}

-- a number of two digits to the base m, and what is left of m * m without it
rest : (m h l : ℕ) → h < m → l < m → m * m - suc (h * m + l) ≡ (m - suc h) * m + (m - suc l)
rest m h l f g =
    let e : (m - suc h) * m + h * m + 1 * m ≡ m * m = simp (← add-mul) (ap (λ (n : ℕ). n * m) (omega arith)) in
    omega arith

-- the digits of a number that is cut to m * m
module _ (m : ℕ) (pm : 0 < m) where
  high : (z : ℤ) → cut (m * m) z / m % m ≡ cut m (shr_z z m)
  high (pos n) =
      ap (λ (k : ℕ). k / m % m) (mod-mul n pm pm) ∙ ap (λ (k : ℕ). k % m) (digits_div (n / m % m) (mod-lt n pm)) ∙ mod-mod (n / m) m
  high (negsuc n) =
      ap (λ (k : ℕ). k / m % m) (ap (λ (k : ℕ). m * m - suc k) (mod-mul n pm pm) ∙ rest m (n / m % m) (n % m) (mod-lt (n / m) pm) (mod-lt n pm))
      ∙ ap (λ (k : ℕ). k % m) (digits_div (m - suc (n / m % m)) (omega arith))
      ∙ mod-eq_of_lt (omega arith)

  lowest : (z : ℤ) → cut (m * m) z % m ≡ cut m z
  lowest (pos n) = ap (λ (k : ℕ). k % m) (mod-mul n pm pm) ∙ digits_mod (n / m % m) (mod-lt n pm)
  lowest (negsuc n) =
      ap (λ (k : ℕ). k % m) (ap (λ (k : ℕ). m * m - suc k) (mod-mul n pm pm) ∙ rest m (n / m % m) (n % m) (mod-lt (n / m) pm) (mod-lt n pm))
      ∙ digits_mod (m - suc (n / m % m)) (omega arith)

-- THE product's fact, signed or not: the two halves of the number cut to twice the width.
pub halves_are : (w : Width) (z : ℤ) (p : ℕ) → p ≡ cut (2 ^ bits w * 2 ^ bits w) z → record { hi = extend w (p / 2 ^ bits w); lo = extend w p } ≡ halves w z
unfolding halves
halves_are w z p e =
    (λ i. record {
      hi = holds w (shr_z z (2 ^ bits w)) (p / 2 ^ bits w) (ap (λ (k : ℕ). k / 2 ^ bits w % 2 ^ bits w) e ∙ high (2 ^ bits w) (pow_pos (bits w)) z) i;
      lo = holds w z p (ap (λ (k : ℕ). k % 2 ^ bits w) e ∙ lowest (2 ^ bits w) (pow_pos (bits w)) z) i;
    })

-- of two digits h and l, from 0 up
pub halves_of_digits : (w : Width) (h l n : ℕ) → l < 2 ^ bits w → h * 2 ^ bits w + l ≡ n → record { hi = extend w h; lo = extend w l } ≡ halves w (pos n)
unfolding halves
halves_of_digits w h l n f e =
    (λ i. record {
      hi = holds w (pos (n / 2 ^ bits w)) h (ap (λ (k : ℕ). k % 2 ^ bits w) (sym (digits_div h f) ∙ ap (λ (k : ℕ). k / 2 ^ bits w) e)) i;
      lo = holds w (pos n) l (mod-eq_of_lt f ∙ sym (digits_mod h f) ∙ ap (λ (k : ℕ). k % 2 ^ bits w) e) i;
    })

-- what is cut is below m, so it is cut already
cut_again : (m : ℕ) → 0 < m → (z : ℤ) → cut m z % m ≡ cut m z
cut_again m p (pos n) = mod-mod n m
cut_again m p (negsuc n) = mod-eq_of_lt (omega arith)

-- HI and LO go by the number cut to twice the width
pub halves_cut : (w : Width) (z : ℤ) (p : ℕ) → p ≡ cut (2 ^ bits w * 2 ^ bits w) z → halves w (pos p) ≡ halves w z
halves_cut w z p e =
    sym (halves_are w (pos p) p (e ∙ sym (cut_again (2 ^ bits w * 2 ^ bits w) (mul-pos (pow_pos (bits w)) (pow_pos (bits w))) z) ∙ ap (λ (k : ℕ). k % (2 ^ bits w * 2 ^ bits w)) (sym e)))
    ∙ halves_are w z p e

-- doublewords are their own extensions
pub wholes : (h l : ℕ) → h < 2 ^ 64 → l < 2 ^ 64 → ◌≡◌ {A = HiLo} (record { hi = h; lo = l }) (record { hi = extend w64 h; lo = extend w64 l })
wholes h l f g = (λ i. record { hi = whole h f i; lo = whole l g i })

-- the halves of a number of two doublewords are its digits
pub double_digits : (p : ℕ) → p < 2 ^ 128 → record { hi = p / 2 ^ 64; lo = p % 2 ^ 64 } ≡ halves w64 (pos p)
double_digits p f =
    wholes (p / 2 ^ 64) (p % 2 ^ 64) (omega arith) (mod-lt p (lit< tt)) ∙ halves_of_digits w64 (p / 2 ^ 64) (p % 2 ^ 64) p (mod-lt p (lit< tt)) (div-add-mod' p (2 ^ 64))

-- the product of two signed numbers, in a type w of twice the width v
module _ (v w : Width) (d : 2 ^ bits v * 2 ^ bits v ≡ 2 ^ bits w) (a b : ℕ) where
  mag_abs : (z : ℤ) → mag z ≤ nat_abs z
  mag_abs (pos n) = omega arith
  mag_abs (negsuc n) = omega arith

  pattern : (z : ℤ) → mag z < 2 ^ bits w → of_z w z < 2 ^ bits w
  pattern (pos n) h = h
  pattern (negsuc n) h = omega arith

  within : mag (signed v a *ℤ signed v b) < 2 ^ bits w
  within =
      let H = 2 ^ hbits v in
      let B = 2 ^ bits v in
      let f : nat_abs (signed v b) ≤ B = omega (arith, nat_abs-le (signed v b) (signed_fits v b).sfits, pow-bits v) in
      let m : nat_abs (signed v a) * nat_abs (signed v b) ≤ H * B = mul-le-mul (nat_abs-le (signed v a) (signed_fits v a).sfits) f in
      let t : B ≡ H + H = omega (arith, pow-bits v) in
      let s : B * B ≡ H * B + H * B = ap (λ (n : ℕ). n * B) t ∙ add-mul H H B in
      omega (arith, mag_abs (signed v a *ℤ signed v b), unsigned_abs-mul (signed v a) (signed v b), m, s, mul-pos (pow_pos (hbits v)) (pow_pos (bits v)), d)

  pub product_is : {x y : ℤ} {p : ℕ} → x ≡ signed v a → y ≡ signed v b → p ≡ of_z w (to_z w (of_z w (x *ℤ y))) → halves v (pos p) ≡ product v a b
  unfolding product
  product_is {x} {y} {p} ex ey e =
      let z = signed v a *ℤ signed v b in
      let c : of_z w z ≡ cut (2 ^ bits v * 2 ^ bits v) z = sym (cut_within w z within) ∙ ap (λ (n : ℕ). cut n z) (sym d) in
      halves_cut v z p (e ∙ (λ i. of_z w (to_z w (of_z w (ex i *ℤ ey i)))) ∙ of_z-to_z w (of_z w z) (record { fits = pattern z within }) ∙ c)
