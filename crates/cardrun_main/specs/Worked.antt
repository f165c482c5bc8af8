-- Document 01's worked image and the answer that it gives (I16).
use Rattle.std.specs.Prelude.{ℕ, List, [], ◌∷◌, ◌≡◌, length}
use Rattle.image.specs.Example.{text}
use Rattle.cardrun_main.specs.Printed.{printed}

-- 0f0000000002, 01080000000000000005, 0109000000000000000a and 0122ffffffff80000008, each with its LF
abbrev pub answer : List ℕ
answer =
    48 ∷ 102 ∷ 48 ∷ 48 ∷ 48 ∷ 48 ∷ 48 ∷ 48 ∷ 48 ∷ 48 ∷ 48 ∷ 50 ∷ 10
    ∷ 48 ∷ 49 ∷ 48 ∷ 56 ∷ 48 ∷ 48 ∷ 48 ∷ 48 ∷ 48 ∷ 48 ∷ 48 ∷ 48 ∷ 48 ∷ 48 ∷ 48 ∷ 48 ∷ 48 ∷ 48 ∷ 48 ∷ 53 ∷ 10
    ∷ 48 ∷ 49 ∷ 48 ∷ 57 ∷ 48 ∷ 48 ∷ 48 ∷ 48 ∷ 48 ∷ 48 ∷ 48 ∷ 48 ∷ 48 ∷ 48 ∷ 48 ∷ 48 ∷ 48 ∷ 48 ∷ 48 ∷ 97 ∷ 10
    ∷ 48 ∷ 49 ∷ 50 ∷ 50 ∷ 102 ∷ 102 ∷ 102 ∷ 102 ∷ 102 ∷ 102 ∷ 102 ∷ 102 ∷ 56 ∷ 48 ∷ 48 ∷ 48 ∷ 48 ∷ 48 ∷ 48 ∷ 56 ∷ 10 ∷ []

-- the image, read into 65,536 bytes of RAM whatever they held, run and printed, is the answer (I12, I13, I16)
abbrev pub Worked : Type 0
Worked = (ram : List ℕ) → length ram ≡ 65536 → printed text ram ≡ answer
