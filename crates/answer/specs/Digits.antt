-- Numbers as they are printed: lowercase hexadecimal, a fixed number of digits.
use Rattle.std.specs.Prelude.{ℕ, zero, suc, ◌+◌, ◌*◌, ◌/◌, ◌%◌, ◌^◌, List, [], ◌∷◌, ltb}
use Rattle.promise.specs.Pick.{pick}

-- the character of a digit: 0 to 9, then a to f (I1, I15)
abbrev pub character : ℕ → ℕ
character d = pick (ltb d 10) (48 + d) (87 + d)

-- digit k of x, counted from 0 at the right (I15)
abbrev pub digit : ℕ → ℕ → ℕ
digit x k = x / 2 ^ (4 * k) % 16

-- the low n digits of x, the top one first (I15)
unfoldable pub hex_of : ℕ → ℕ → List ℕ
hex_of zero x = []
hex_of (suc n) x = character (digit x n) ∷ hex_of n x
