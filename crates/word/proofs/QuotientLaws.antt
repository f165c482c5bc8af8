-- Quotients over the width: a signed quotient fits its width, but for the least number by -1; and what the code's division gives.
use Rattle.std.proofs.Common.{◌≡◌, ℕ, zero, suc, ◌/◌, ◌%◌, ◌^◌, ◌<◌, ◌≤◌, Bool, false, leb, ℤ, pos, negsuc, neg_ℤ, nat_abs, sym, refl, ap, ◌∙◌, div-le_self, arith, pow_pos, w64, to_z, of_z, eq-eqb, ne_eqb, le-leb, le-ltb}
use native.Mathlib.Nat.{mod-mod}
use native.Mathlib.Decide.{dec_lt}
use borrow.Author.Tests.{lt-leb}
use lib.Signed.{mag, mag_rem, quot_z, rem_z, lt_z}
use mir.Syntax.{Width}
use mir.Val.{bits, hbits}
use mir.ValLaws.{pow-bits, to_z_pos, to_z-of_z}
use Rattle.word.specs.declared.HiLo.{HiLo}
use Rattle.word.specs.Extend.{low, unsigned, signed, register, extend}
use Rattle.word.specs.Quotient.{toward_zero, remainder, by_zero, divided, quotient, quotient_unsigned, below_zero, leaves}
use Rattle.word.proofs.Registers.{holds, signed_fits, signed_back, register_fits, register_within, to_z_high}
use Rattle.word.proofs.CompareLaws.{seen, seen_both}

mag_neg : (r : ℕ) → mag (neg_ℤ (pos r)) ≤ r
mag_neg zero = omega arith
mag_neg (suc r) = omega arith

-- a quotient's magnitude
mag_quot : (x y : ℤ) → mag (quot_z x y) ≤ suc (mag x)
mag_quot (pos a) (pos b) = omega (arith, div-le_self a b)
mag_quot (pos a) (negsuc b) = omega (arith, mag_neg (a / suc b), div-le_self a (suc b))
mag_quot (negsuc a) (pos b) = omega (arith, mag_neg (suc a / b), div-le_self (suc a) b)
mag_quot (negsuc a) (negsuc b) = div-le_self (suc a) (suc b)

-- a number is 0 only where its pattern is
zero_pattern : (w : Width) (z : ℤ) → nat_abs z ≡ 0 → of_z w z ≡ 0
zero_pattern w (pos n) e = e
zero_pattern w (negsuc n) e = absurd (omega arith)

-- a zero divisor
pub zero_divisor : (w : Width) (x y : ℤ) → nat_abs y ≡ 0 → divided w x y ≡ by_zero w x
unfolding divided
zero_divisor w x y e = rw (eq-eqb (nat_abs y) 0 e)

-- the signed types divide as the rule says
same_quotient : (x y : ℤ) → toward_zero x y ≡ quot_z x y
same_quotient (pos a) (pos b) = refl
same_quotient (pos a) (negsuc b) = refl
same_quotient (negsuc a) (pos b) = refl
same_quotient (negsuc a) (negsuc b) = refl

same_remainder : (x y : ℤ) → remainder x y ≡ rem_z x y
same_remainder (pos a) y = refl
same_remainder (negsuc a) y = refl

-- any other
pub other_divisor : (w : Width) (x y : ℤ) → (nat_abs y ≡ 0 → ⊥) → divided w x y ≡ record { hi = register w (rem_z x y); lo = register w (quot_z x y) }
unfolding divided
other_divisor w x y e =
    rw (ne_eqb (nat_abs y) 0 e) (λ i. record { hi = register w (same_remainder x y i); lo = register w (same_quotient x y i) })

-- the code's signed division of the numbers x and y that the low bits of a and b are; the least by -1 wraps, in the code as in the rule
module _ (w : Width) (a b : ℕ) {x y : ℤ} (ex : x ≡ signed w a) (ey : y ≡ signed w b) where
  pub zero_low : of_z w y ≡ 0 → low w b ≡ 0
  zero_low e = sym (ap (of_z w) ey ∙ signed_back w b) ∙ e

  within : (n : ℕ) → n ≤ suc (mag (signed w a)) → n < 2 ^ bits w
  within n h = omega (arith, (signed_fits w a).sfits, pow-bits w, pow_pos (hbits w))

  pub gives : (of_z w y ≡ 0 → ⊥)
      → {u v : ℤ} {r q : ℕ}
      → u ≡ rem_z (to_z w (of_z w x)) (to_z w (of_z w y))
      → v ≡ to_z w (of_z w (quot_z (to_z w (of_z w x)) (to_z w (of_z w y))))
      → mag v < 2 ^ hbits w
      → r ≡ of_z w64 (to_z w (of_z w u))
      → q ≡ of_z w64 (to_z w (of_z w v))
      → record { hi = r; lo = q } ≡ quotient w a b
  unfolding quotient
  gives nz eu ev fv er eq =
      let R = rem_z (signed w a) (signed w b) in
      let Q = quot_z (signed w a) (signed w b) in
      (λ i. record {
        hi = (er ∙ ap (λ (z : ℤ). of_z w64 (to_z w (of_z w z))) (eu ∙ seen_both w a b rem_z ex ey)
            ∙ sym (register_within w R (within (mag R) (omega (arith, mag_rem (signed w a) (signed w b)))))) i;
        lo = (eq ∙ ap (of_z w64) (to_z-of_z w _ (record { sfits = fv }) ∙ ev) ∙ ap (λ (z : ℤ). of_z w64 (to_z w (of_z w z))) (seen_both w a b quot_z ex ey)
            ∙ sym (register_within w Q (within (mag Q) (mag_quot (signed w a) (signed w b))))) i;
      })
      ∙ sym (other_divisor w (signed w a) (signed w b) (λ e. nz (ap (of_z w) ey ∙ zero_pattern w (signed w b) e)))

-- the sign of the low bits is their top bit
sign_of : (w : Width) (a : ℕ) → leb (2 ^ hbits w) (low w a) ≡ below_zero (signed w a)
sign_of w a = go (dec_lt (low w a) (2 ^ hbits w))
  where
    go : Dec (low w a < 2 ^ hbits w) → leb (2 ^ hbits w) (low w a) ≡ below_zero (signed w a)
    go (yes h) = lt-leb _ _ h ∙ ap below_zero (sym (to_z_pos w (low w a) h))
    go (no h) = let g : 2 ^ hbits w ≤ low w a = omega arith in le-leb _ _ g ∙ ap below_zero (sym (to_z_high w (low w a) g))

-- it is what the code asks of the signed number
pub sign_asked : (w : Width) (a : ℕ) {x : ℤ} → x ≡ signed w a → lt_z (to_z w (of_z w x)) (pos 0) ≡ leb (2 ^ hbits w) (low w a)
sign_asked w a {x} e = ap (λ (z : ℤ). lt_z z (pos 0)) (seen w a x e) ∙ negative (signed w a) ∙ sym (sign_of w a)
  where
    negative : (z : ℤ) → lt_z z (pos 0) ≡ below_zero z
    negative (pos n) = le-ltb n 0 (omega arith)
    negative (negsuc n) = refl

-- a zero divisor: one fact at each width and however the registers are read, of a dividend d for HI and its sign n
shared : (w : Width) (x y : ℤ) (d : ℕ) (n : Bool) → nat_abs y ≡ 0 → d ≡ register w x → n ≡ below_zero x → leaves d n ≡ divided w x y
unfolding by_zero
shared w x y d n e h s = (λ i. leaves (h i) (s i)) ∙ sym (zero_divisor w x y e)

-- what the code answers, r, has the dividend sign-extended and its sign: read as signed the top bit, as unsigned none
module _ (w : Width) (a b : ℕ) (r : HiLo) (d : ℕ) (n : Bool) (g : r ≡ leaves d n) (e : low w b ≡ 0) (h : d ≡ extend w a) where
  pub by_zero_lem : n ≡ leb (2 ^ hbits w) (low w a) → r ≡ quotient w a b
  unfolding quotient extend
  by_zero_lem s =
      g
      ∙ shared w (signed w a) (signed w b) d n (ap (λ (m : ℕ). nat_abs (to_z w m)) e ∙ ap nat_abs (to_z_pos w 0 (pow_pos (hbits w))))
      (h ∙ sym (register_fits w (signed w a) (signed_fits w a))) (s ∙ sign_of w a)

  pub by_zero_unsigned : n ≡ false → r ≡ quotient_unsigned w a b
  unfolding quotient_unsigned
  by_zero_unsigned s = g ∙ shared w (unsigned w a) (unsigned w b) d n e (h ∙ holds w (unsigned w a) a (sym (mod-mod a (2 ^ bits w)))) s

-- the code's division of the low bits
pub gives_unsigned : (w : Width) (a b r q : ℕ) → (low w b ≡ 0 → ⊥) → r ≡ extend w (low w a % low w b) → q ≡ extend w (low w a / low w b)
    → ◌≡◌ {A = HiLo} (record { hi = r; lo = q }) (quotient_unsigned w a b)
unfolding quotient_unsigned
gives_unsigned w a b r q nz er eq =
    (λ i. record {
      hi = (er ∙ holds w (pos (low w a % low w b)) _ refl) i;
      lo = (eq ∙ holds w (pos (low w a / low w b)) _ refl) i;
    })
    ∙ sym (other_divisor w (unsigned w a) (unsigned w b) nz)
