-- Lowercase hexadecimal digits in an argument (house).
use Rattle.std.specs.Prelude.{ℕ, ◌+◌, ◌-◌, ◌*◌, Option, Some, None, leb}
use Rattle.promise.specs.Pick.{pick, both}

-- the value of a digit, from 0 to 9 or from a to f; no other character has one
abbrev pub hex_digit : ℕ → Option ℕ
hex_digit b = pick (both (leb 48 b) (leb b 57)) (Some (b - 48)) (pick (both (leb 97 b) (leb b 102)) (Some (b - 87)) None)

-- the number of two digits, if both are digits
abbrev pub joined : Option ℕ → Option ℕ → Option ℕ
joined (Some x) (Some y) = Some (x * 16 + y)
joined (Some x) None = None
joined None y = None

-- what two characters make
abbrev pub two_hex_digits : ℕ → ℕ → Option ℕ
two_hex_digits a b = joined (hex_digit a) (hex_digit b)
