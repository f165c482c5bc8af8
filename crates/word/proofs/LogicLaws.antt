-- Logic bit by bit: bit n of AND is the lesser of the two bits n, of OR the greater, of XOR whether they differ; NOR takes OR from all ones.
use Rattle.std.proofs.Common.{◌≡◌, ℕ, zero, suc, ◌+◌, ◌*◌, ◌/◌, ◌%◌, ◌^◌, ◌<◌, min, max, ap, ◌∙◌, mod-lt, arith, lit<}
use lib.Bits.{differ, and_shr, or_shr, xor_shr, and_step, or_step, xor_step}
use Rattle.promise.specs.Bits.{bit}
use Rattle.word.specs.Word.{and, or, xor}

-- a function of two bits is a bit where it is at the four pairs
is_bit : (f : ℕ → ℕ → ℕ) → f 0 0 < 2 → f 0 1 < 2 → f 1 0 < 2 → f 1 1 < 2 → (x y : ℕ) → x < 2 → y < 2 → f x y < 2
is_bit f a b c d zero zero g h = a
is_bit f a b c d zero (suc zero) g h = b
is_bit f a b c d (suc zero) zero g h = c
is_bit f a b c d (suc zero) (suc zero) g h = d
is_bit f a b c d zero (suc (suc y)) g h = let z : ⊥ = omega arith in absurd z
is_bit f a b c d (suc zero) (suc (suc y)) g h = let z : ⊥ = omega arith in absurd z
is_bit f a b c d (suc (suc x)) y g h = let z : ⊥ = omega arith in absurd z

lowest : (f : ℕ → ℕ → ℕ) → f 0 0 < 2 → f 0 1 < 2 → f 1 0 < 2 → f 1 1 < 2 → (q n a b : ℕ) → n ≡ q * 2 + f (a % 2) (b % 2) → n % 2 ≡ f (a % 2) (b % 2)
lowest f p q r s k n a b e =
    let h : f (a % 2) (b % 2) < 2 = is_bit f p q r s (a % 2) (b % 2) (mod-lt a (lit< tt)) (mod-lt b (lit< tt)) in
    omega arith

module _ (a b n : ℕ) where
  pub bit_and : bit (and a b) n ≡ min (bit a n) (bit b n)
  bit_and = ap (λ (k : ℕ). k % 2) (and_shr a b n) ∙ lowest min (lit< tt) (lit< tt) (lit< tt) (lit< tt) _ _ (a / 2 ^ n) (b / 2 ^ n) (and_step (a / 2 ^ n) (b / 2 ^ n))

  pub bit_or : bit (or a b) n ≡ max (bit a n) (bit b n)
  bit_or = ap (λ (k : ℕ). k % 2) (or_shr a b n) ∙ lowest max (lit< tt) (lit< tt) (lit< tt) (lit< tt) _ _ (a / 2 ^ n) (b / 2 ^ n) (or_step (a / 2 ^ n) (b / 2 ^ n))

  pub bit_xor : bit (xor a b) n ≡ differ (bit a n) (bit b n)
  bit_xor = ap (λ (k : ℕ). k % 2) (xor_shr a b n) ∙ lowest differ (lit< tt) (lit< tt) (lit< tt) (lit< tt) _ _ (a / 2 ^ n) (b / 2 ^ n) (xor_step (a / 2 ^ n) (b / 2 ^ n))
