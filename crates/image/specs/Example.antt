-- Document 01's worked image: by computation nothing in it is refused (I16). What it prints is proved in cardrun, Worked.worked.
use Rattle.std.specs.Prelude.{ℕ, false, None, ◌≡◌, refl, List, [], ◌∷◌}
use Rattle.frame.specs.Line.{line_of, before, lines_of}
use Rattle.frame.specs.Digits.{number_from, number}
use Rattle.frame.specs.Frame.{framed, frame_of}
use Rattle.image.specs.Refusals.{first_of}

-- 02000000002408000501084821, 0122ffffffff80000000 and 0300000002, each with its LF
abbrev pub text : List ℕ
text =
    48 ∷ 50 ∷ 48 ∷ 48 ∷ 48 ∷ 48 ∷ 48 ∷ 48 ∷ 48 ∷ 48 ∷ 50 ∷ 52 ∷ 48 ∷ 56 ∷ 48 ∷ 48 ∷ 48 ∷ 53 ∷ 48 ∷ 49 ∷ 48 ∷ 56 ∷ 52 ∷ 56 ∷ 50 ∷ 49 ∷ 10
    ∷ 48 ∷ 49 ∷ 50 ∷ 50 ∷ 102 ∷ 102 ∷ 102 ∷ 102 ∷ 102 ∷ 102 ∷ 102 ∷ 102 ∷ 56 ∷ 48 ∷ 48 ∷ 48 ∷ 48 ∷ 48 ∷ 48 ∷ 48 ∷ 10
    ∷ 48 ∷ 51 ∷ 48 ∷ 48 ∷ 48 ∷ 48 ∷ 48 ∷ 48 ∷ 48 ∷ 50 ∷ 10 ∷ []

-- nothing in it is refused
pub example_passes : first_of (lines_of text) 1 false ≡ None
unfolding line_of before lines_of number_from number framed frame_of first_of
example_passes = refl
