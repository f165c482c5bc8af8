-- The arguments: how many steps are run, and of which program (house).
use Rattle.std.specs.Prelude.{ℕ, ◌+◌, ◌*◌, List, [], ◌∷◌, length, Option, Some, None, codes, bytes_eq, nat_le}
use Rattle.std.specs.Char.{is_digit, digit_value}
use Rattle.promise.specs.Pick.{pick, both}
use Rattle.benchcard.specs.declared.arguments.Program.{Program}
use Rattle.benchcard.specs.declared.arguments.Program.TheVariants.{Sweep, Unaligned}

-- the number that x becomes with these decimal digits at its right; a character that is no digit leaves none
unfoldable pub number : ℕ → List ℕ → Option ℕ
number x [] = Some x
number x (b ∷ rest) = pick (is_digit b 10) (number (x * 10 + digit_value b) rest) None

-- 1 to 16 digits, and nothing else
abbrev pub steps_of : List ℕ → Option ℕ
steps_of word = pick (both (nat_le 1 (length word)) (nat_le (length word) 16)) (number 0 word) None

-- one of the two names, and nothing else
abbrev pub program_of : List ℕ → Option Program
program_of word =
    pick (bytes_eq word (codes "sweep")) (Some Sweep) (pick (bytes_eq word (codes "unaligned")) (Some Unaligned) None)
