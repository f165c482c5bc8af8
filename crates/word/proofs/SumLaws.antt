-- Sums and differences over the width: the register that holds one has the low bits of the wrapped sum or difference of registers.
use Rattle.std.proofs.Common.{◌≡◌, ℕ, ◌+◌, ◌-◌, ◌*◌, ◌/◌, ◌%◌, ◌^◌, ◌<◌, ◌≤◌, ◌+ℤ◌, ◌-ℤ◌, sym, ap, ◌∙◌, mod-lt, div-add-mod', arith, pow_pos}
use native.Mathlib.Nat.{mod-mod, add-mod}
use lib.Pow.{mod-mod-pow}
use mir.Syntax.{Width}
use mir.Val.{bits}
use Rattle.word.specs.Extend.{low, signed, extend}
use Rattle.word.specs.Sum.{sum, difference}
use Rattle.word.proofs.Cut as Cut
use Rattle.word.proofs.Registers.{holds, signed_back, signed_mag}

-- the register that holds a sum
pub sum_low : (w : Width) (a b r : ℕ) → r % 2 ^ bits w ≡ (low w a + low w b) % 2 ^ bits w → extend w r ≡ sum w a b
unfolding sum
sum_low w a b r e =
    holds w (signed w a +ℤ signed w b) r
    (e ∙ (λ i. (sym (signed_back w a) i + sym (signed_back w b) i) % 2 ^ bits w)
    ∙ Cut.sums w (pow_pos (bits w)) (signed w a) (signed w b) (signed_mag w a) (signed_mag w b))

-- it is the wrapped sum of the registers, or of their low bits
pub sum_is : (j : ℕ) (w : Width) (a b r : ℕ) → r ≡ (a + b) % 2 ^ (j + bits w) → extend w r ≡ sum w a b
sum_is j w a b r e = sum_low w a b r (ap (λ (n : ℕ). n % 2 ^ bits w) e ∙ mod-mod-pow (a + b) j (bits w) ∙ add-mod a b (2 ^ bits w))

-- a difference, from the sum that leads back
less : (m a b r : ℕ) → 0 < m → (r % m + b % m) % m ≡ a % m → r % m ≡ (a % m + (m - b % m)) % m
less m a b r h e =
    let d = div-add-mod' (r % m + b % m) m in
    let s : r % m + 1 * m ≡ (a % m + (m - b % m)) + (r % m + b % m) / m * m = omega (arith, mod-lt b h) in
    sym (mod-mod r m) ∙ Cut.same m (r % m) (a % m + (m - b % m)) _ 1 s

-- the register that holds a difference
pub difference_low : (w : Width) (a b r : ℕ) → r % 2 ^ bits w ≡ (low w a + (2 ^ bits w - low w b)) % 2 ^ bits w → extend w r ≡ difference w a b
unfolding difference
difference_low w a b r e =
    holds w (signed w a -ℤ signed w b) r
    (e ∙ (λ i. (sym (signed_back w a) i + (2 ^ bits w - sym (signed_back w b) i)) % 2 ^ bits w)
    ∙ Cut.differences w (pow_pos (bits w)) (signed w a) (signed w b) (signed_mag w a) (signed_mag w b))

-- it is the wrapped difference of the registers, or of their low bits
pub difference_is : (j : ℕ) (w : Width) (a b r : ℕ) → b ≤ 2 ^ (j + bits w) → r ≡ (a + (2 ^ (j + bits w) - b)) % 2 ^ (j + bits w) → extend w r ≡ difference w a b
difference_is j w a b r h e =
    let m = 2 ^ (j + bits w) in
    let d = div-add-mod' (a + (m - b)) m in
    let back : (r + b) % m ≡ a % m = Cut.same m (r + b) a 1 ((a + (m - b)) / m) (omega arith) in
    difference_low w a b r
    (less (2 ^ bits w) a b r (pow_pos (bits w))
    (sym (add-mod r b (2 ^ bits w)) ∙ sym (mod-mod-pow (r + b) j (bits w)) ∙ ap (λ (n : ℕ). n % 2 ^ bits w) back ∙ mod-mod-pow a j (bits w)))
