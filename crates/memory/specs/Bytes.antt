-- The bytes of a number, counted from 0 at the right.
use Rattle.std.specs.Prelude.{ℕ, zero, suc, ◌+◌, ◌*◌, ◌/◌, ◌%◌, ◌^◌, List, [], ◌∷◌, get_or}

-- byte k of x
unfoldable pub byte : ℕ → ℕ → ℕ
byte x k = x / 2 ^ (8 * k) % 2 ^ 8

-- the low n bytes of x, the top one first (C3)
unfoldable pub bytes_of : ℕ → ℕ → List ℕ
bytes_of zero x = []
bytes_of (suc n) x = byte x n ∷ bytes_of n x

-- eight bytes, each at its weight, the first on top (C3)
abbrev pub eight_sum : List ℕ → ℕ
eight_sum l =
    get_or l 0 0 * 2 ^ 56
    + get_or l 1 0 * 2 ^ 48
    + get_or l 2 0 * 2 ^ 40
    + get_or l 3 0 * 2 ^ 32
    + get_or l 4 0 * 2 ^ 24
    + get_or l 5 0 * 2 ^ 16
    + get_or l 6 0 * 2 ^ 8
    + get_or l 7 0

-- the number that eight bytes are (C3)
unfoldable pub eight_of : List ℕ → ℕ
eight_of l = eight_sum l

-- x with `count` of its bytes, those above the `low` lowest, replaced by the low `count` bytes of y
unfoldable pub with_bytes : ℕ → ℕ → ℕ → ℕ → ℕ
with_bytes x low count y =
    x / 2 ^ (8 * (low + count)) * 2 ^ (8 * (low + count)) + y % 2 ^ (8 * count) * 2 ^ (8 * low) + x % 2 ^ (8 * low)
