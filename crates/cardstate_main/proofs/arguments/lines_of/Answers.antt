-- The cases of the code are the cases of the definition.
use Rattle.std.proofs.Common.{◌≡◌, ℕ, ◌<◌, ◌≤◌, List, [], ◌∷◌, length, get_or, refl, ◌∙◌, None, arith}
use Rattle.program.specs.Digits.{hex_digit, two_hex_digits}
use Rattle.cardstate_main.specs.Arguments.{lines_of}
use Rattle.cardstate_main.proofs.arguments.lines_of.Goals as goal

one : (word : List ℕ) → 1 ≤ length word → length word < 2 → hex_digit (get_or word 0 0) ≡ lines_of word
unfolding lines_of
one [] h k = absurd (omega arith)
one (a ∷ []) h k = refl
one (a ∷ b ∷ rest) h k = absurd (omega arith)

two : (word : List ℕ) → 2 ≤ length word → length word < 3 → two_hex_digits (get_or word 0 0) (get_or word 1 0) ≡ lines_of word
unfolding lines_of
two [] h k = absurd (omega arith)
two (a ∷ []) h k = absurd (omega arith)
two (a ∷ b ∷ []) h k = refl
two (a ∷ b ∷ c ∷ rest) h k = absurd (omega arith)

none : (word : List ℕ) → length word < 1 → None ≡ lines_of word
unfolding lines_of
none [] h = refl
none (a ∷ rest) h = absurd (omega arith)

more : (word : List ℕ) → 3 ≤ length word → None ≡ lines_of word
unfolding lines_of
more [] h = absurd (omega arith)
more (a ∷ []) h = absurd (omega arith)
more (a ∷ b ∷ []) h = absurd (omega arith)
more (a ∷ b ∷ c ∷ rest) h = refl

pub returns-in-len1 : goal.returns-in-len1
returns-in-len1 c = c.hex_digit.ensures.value ∙ one _ c.in-len1.len_at_least c.in-len1.len_below

pub returns-in-len2 : goal.returns-in-len2
returns-in-len2 c = c.two_hex_digits.ensures ∙ two _ c.in-len2.len_at_least c.in-len2.len_below

pub returns-in_default : goal.returns-in_default
returns-in_default c = none _ c.in_default.len_below

pub returns-in_default-2 : goal.returns-in_default-2
returns-in_default-2 c = more _ c.in_default.len_at_least
