-- A refusal as it is printed, by computation: 0e07 and line 3.
use mathlib.Core.Path.{◌≡◌, refl}
use mathlib.Core.List.{[], ◌∷◌}
use Rattle.answer.specs.Digits.{hex_of}
use Rattle.answer.specs.Frames.{refusal_frame}

pub refusal_example : refusal_frame 7 3 ≡ 48 ∷ 101 ∷ 48 ∷ 55 ∷ 48 ∷ 48 ∷ 48 ∷ 48 ∷ 48 ∷ 48 ∷ 48 ∷ 51 ∷ 10 ∷ []
unfolding hex_of
refusal_example = refl
