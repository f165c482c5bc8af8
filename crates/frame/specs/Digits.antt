-- Lowercase hexadecimal digits, and the numbers that they make.
use Rattle.std.specs.Prelude.{ℕ, zero, suc, ◌+◌, ◌-◌, ◌*◌, Bool, List, Option, Some, None, is_some, unwrap_or, leb, get_or}
use Rattle.std.specs.List.{list_all}
use Rattle.promise.specs.Pick.{pick, both}

-- a character from 0 to 9, and one from a to f
abbrev pub decimal : ℕ → Bool
decimal x = both (leb 48 x) (leb x 57)

abbrev pub letter : ℕ → Bool
letter x = both (leb 97 x) (leb x 102)

-- the value of a lowercase hexadecimal digit; another character has none (I1)
abbrev pub digit : ℕ → Option ℕ
digit x = pick (decimal x) (Some (x - 48)) (pick (letter x) (Some (x - 97 + 10)) None)

-- a character is a lowercase hexadecimal digit (I1)
abbrev pub hex? : ℕ → Bool
hex? x = is_some (digit x)

-- all characters of a line are digits (I1)
abbrev pub all_hex : List ℕ → Bool
all_hex line = list_all hex? line

-- so many digits of a line from a place on, after digits that made the number v; a character that is none counts 0 and is refused elsewhere
unfoldable pub number_from : List ℕ → ℕ → ℕ → ℕ → ℕ
number_from line at zero v = v
number_from line at (suc many) v = number_from line (at + 1) many (v * 16 + unwrap_or (digit (get_or line at 0)) 0)

-- the number that so many digits of a line from a place on are (I15)
unfoldable pub number : List ℕ → ℕ → ℕ → ℕ
number line at many = number_from line at many 0
