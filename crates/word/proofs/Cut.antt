-- A number cut to m is known by any number that differs from it by whole multiples of m; so cutting goes with sums and differences.
use Rattle.std.proofs.Common.{◌≡◌, ℕ, zero, suc, ◌+◌, ◌-◌, ◌*◌, ◌/◌, ◌%◌, ◌^◌, ◌<◌, Bool, true, false, ltb, ℤ, pos, negsuc, ◌+ℤ◌, ◌-ℤ◌, neg_ℤ, sym, refl, ap, ◌∙◌, mod-lt, mod-eq_of_lt, add-mul, div-add-mod', arith, of_z, ltb-false, ltb-true}
use native.Mathlib.Nat.{add-mul-mod_self_right}
use lib.IntN.{sub_ℕ}
use lib.Signed.{mag}
use mir.Syntax.{Width}
use mir.Val.{bits}
use Rattle.word.specs.Extend.{cut}

-- two numbers that differ by whole multiples of m leave the same
pub same : (m r s p q : ℕ) → r + q * m ≡ s + p * m → r % m ≡ s % m
same m r s p q e = sym (add-mul-mod_self_right r q m) ∙ ap (λ (n : ℕ). n % m) e ∙ add-mul-mod_self_right s p m

-- at a number from 0 up, and at one below 0
pub from_zero : (m n r p q : ℕ) → n + p * m ≡ r + q * m → r % m ≡ cut m (pos n)
from_zero m n r p q e = same m r n p q (sym e)

pub below_zero_lem : (m n r p q : ℕ) → 0 < m → p * m ≡ r + q * m + suc n → r % m ≡ cut m (negsuc n)
below_zero_lem m n r p q h e =
    let l = mod-lt n h in
    let d = div-add-mod' n m in
    let s : r + (q + suc (n / m)) * m ≡ (m - suc (n % m)) + p * m = simp add-mul (omega arith) in
    same m r (m - suc (n % m)) p (q + suc (n / m)) s ∙ mod-eq_of_lt (omega arith)

-- at a difference of two numbers, and at a number with its sign turned
pub of_difference : (m a b r p q : ℕ) → 0 < m → a + p * m ≡ r + q * m + b → r % m ≡ cut m (sub_ℕ a b)
of_difference m a b r p q h e = go (ltb a b) refl
  where
    go : (t : Bool) → ltb a b ≡ t → r % m ≡ cut m (sub_ℕ a b)
    go true t = rw t (below_zero_lem m (b - suc a) r p q h (omega (arith, ltb-true a b t)))
    go false t = rw t (from_zero m (a - b) r p q (omega (arith, ltb-false a b t)))

pub of_negated : (m n r p q : ℕ) → 0 < m → p * m ≡ r + q * m + n → r % m ≡ cut m (neg_ℤ (pos n))
of_negated m zero r p q h e = from_zero m 0 r p q (omega arith)
of_negated m (suc n) r p q h e = below_zero_lem m n r p q h e

-- sums and differences of patterns are those of the numbers that they are
module _ (w : Width) (h : 0 < 2 ^ bits w) where
  pub sums : (x y : ℤ) → mag x < 2 ^ bits w → mag y < 2 ^ bits w → (of_z w x + of_z w y) % 2 ^ bits w ≡ cut (2 ^ bits w) (x +ℤ y)
  sums (pos a) (pos b) f g = refl
  sums (pos a) (negsuc b) f g = of_difference _ a (suc b) _ 1 0 h (omega arith)
  sums (negsuc a) (pos b) f g = of_difference _ b (suc a) _ 1 0 h (omega arith)
  sums (negsuc a) (negsuc b) f g = below_zero_lem _ (suc (a + b)) _ 2 0 h (omega arith)

  pub differences : (x y : ℤ) → mag x < 2 ^ bits w → mag y < 2 ^ bits w → (of_z w x + (2 ^ bits w - of_z w y)) % 2 ^ bits w ≡ cut (2 ^ bits w) (x -ℤ y)
  differences (pos a) (pos zero) f g = from_zero _ (a + 0) _ 1 0 (omega arith)
  differences (pos a) (pos (suc b)) f g = of_difference _ a (suc b) _ 1 0 h (omega arith)
  differences (pos a) (negsuc b) f g = from_zero _ (a + suc b) _ 0 0 (omega arith)
  differences (negsuc a) (pos zero) f g = of_difference _ 0 (suc a) _ 2 0 h (omega arith)
  differences (negsuc a) (pos (suc b)) f g = below_zero_lem _ (suc (a + b)) _ 2 0 h (omega arith)
  differences (negsuc a) (negsuc b) f g = of_difference _ (suc b) (suc a) _ 1 0 h (omega arith)
