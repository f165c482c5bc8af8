-- The argument that names the interrupt lines (house).
use Rattle.std.specs.Prelude.{ℕ, List, [], ◌∷◌, Option, None}
use Rattle.program.specs.Digits.{hex_digit, two_hex_digits}

-- one or two lowercase hexadecimal digits, and nothing else
unfoldable pub lines_of : List ℕ → Option ℕ
lines_of (a ∷ []) = hex_digit a
lines_of (a ∷ b ∷ []) = two_hex_digits a b
lines_of _ = None
