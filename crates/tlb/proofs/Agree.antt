-- Page numbers agree in their unmasked bits just where no bit is left of their difference without the mask: over any width.
use Prim.Native.Nat.{ℕ, zero, suc, ◌+◌, ◌-◌, ◌*◌, ◌/◌, ◌%◌, ◌^◌, ◌<◌}
use mathlib.Core.Path.{◌≡◌, refl, sym, ap, ap₂, ◌∙◌}
use mathlib.Core.Bool.{Bool}
use native.Mathlib.Nat.{mod-one, pow-suc}
use native.Mathlib.Omega.{arith}
use native.Mathlib.Numerals.{add-one}
use lib.Bits.{bit_and, bit_xor, and_shr, xor_shr, and_mod, xor_mod}
use lib.Dec.{eqb}
use lib.Pow.{pow_pos, mod-pow-add}
use borrow.Author.Tests.{eq-eqb}
use Rattle.promise.specs.Pick.{both, either}
use Rattle.tlb.specs.Match.{agree}

-- what holds of 0 and of 1 holds of a bit
pub by_bit : (P : ℕ → Type 0) → P 0 → P 1 → (x : ℕ) → x < 2 → P x
by_bit P p q zero h = p
by_bit P p q (suc zero) h = q
by_bit P p q (suc (suc x)) h = let z : ⊥ = omega arith in absurd z

-- at one bit
AtBit : ℕ → ℕ → ℕ → Type 0
AtBit a b m = either (eqb m 1) (eqb a b) ≡ eqb (bit_and (bit_xor a b) (bit_xor m 1)) 0

at_bit : (a b m : ℕ) → a < 2 → b < 2 → m < 2 → AtBit a b m
unfolding AtBit
at_bit a b m ha hb hm =
    by_bit (λ (x : ℕ). AtBit x b m)
    (by_bit (λ (y : ℕ). AtBit 0 y m) (by_bit (AtBit 0 0) refl refl m hm) (by_bit (AtBit 0 1) refl refl m hm) b hb)
    (by_bit (λ (y : ℕ). AtBit 1 y m) (by_bit (AtBit 1 0) refl refl m hm) (by_bit (AtBit 1 1) refl refl m hm) b hb)
    a ha

-- a number is zero where its low bit and the rest are
in_two : (y d : ℕ) → eqb (y * 2 + d) 0 ≡ both (eqb d 0) (eqb y 0)
in_two y d = grind arith

-- what the code computes: the difference without the masked bits, cut to the width
abbrev left : ℕ → ℕ → ℕ → ℕ → ℕ
left width m p q = bit_and (bit_xor p q) (bit_xor m (2 ^ width - 1))

half_ones : (w : ℕ) → (2 ^ suc w - 1) / 2 ≡ 2 ^ w - 1
half_ones w = let e : 2 ^ suc w ≡ 2 ^ w * 2 = pow-suc 2 w in let h : 0 < 2 ^ w = pow_pos w in omega arith

odd_ones : (w : ℕ) → (2 ^ suc w - 1) % 2 ≡ 1
odd_ones w = let e : 2 ^ suc w ≡ 2 ^ w * 2 = pow-suc 2 w in let h : 0 < 2 ^ w = pow_pos w in omega arith

left_half : (w m p q : ℕ) → left (suc w) m p q / 2 ≡ left w (m / 2) (p / 2) (q / 2)
left_half w m p q =
    and_shr (bit_xor p q) (bit_xor m (2 ^ suc w - 1)) 1
    ∙ ap₂ (λ (x y : ℕ). bit_and x y) (xor_shr p q 1) (xor_shr m (2 ^ suc w - 1) 1 ∙ ap (λ (x : ℕ). bit_xor (m / 2) x) (half_ones w))

left_low : (w m p q : ℕ) → left (suc w) m p q % 2 ≡ bit_and (bit_xor (p % 2) (q % 2)) (bit_xor (m % 2) 1)
left_low w m p q =
    and_mod (bit_xor p q) (bit_xor m (2 ^ suc w - 1)) 1
    ∙ ap₂ (λ (x y : ℕ). bit_and x y) (xor_mod p q 1) (xor_mod m (2 ^ suc w - 1) 1 ∙ ap (λ (x : ℕ). bit_xor (m % 2) x) (odd_ones w))

cut : (w x : ℕ) → x % 2 ^ suc w ≡ (x / 2 % 2 ^ w) * 2 + x % 2
cut w x = ap (λ (n : ℕ). x % 2 ^ n) (sym (add-one w)) ∙ mod-pow-add x w 1

pub agree_code : (w m p q : ℕ) → agree w m p q ≡ eqb (left w m p q % 2 ^ w) 0
unfolding agree AtBit
agree_code zero m p q = sym (eq-eqb _ _ (mod-one (left 0 m p q)))
agree_code (suc w) m p q =
    ap₂ (λ (x y : Bool). both x y) (at_bit (p % 2) (q % 2) (m % 2) (omega arith) (omega arith) (omega arith)) (agree_code w (m / 2) (p / 2) (q / 2))
    ∙ sym (rw (cut w (left (suc w) m p q), left_half w m p q, left_low w m p q) (in_two (left w (m / 2) (p / 2) (q / 2) % 2 ^ w) (bit_and (bit_xor (p % 2) (q % 2)) (bit_xor (m % 2) 1))))
