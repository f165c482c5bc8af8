-- Lines of a text: each is ended by LF.
use Rattle.std.specs.Prelude.{ℕ, zero, suc, Bool, List, [], ◌∷◌, eqb, ltb, length, drop}
use Rattle.promise.specs.Pick.{pick}

-- the character that ends a line
abbrev pub LF : ℕ
LF = 10

-- a text up to its first LF, without it; all of the text where it has none (I1, I2)
unfoldable pub line_of : List ℕ → List ℕ
line_of [] = []
line_of (x ∷ xs) = pick (eqb x LF) [] (x ∷ line_of xs)

-- a text as its lines: no more of them; a last one that no LF ends; or one that is ended, and those after it
pub data Lines : Type 0 where
  done : Lines
  unended : List ℕ → Lines
  line : List ℕ → Lines → Lines

-- a character before the first line
unfoldable pub before : ℕ → Lines → Lines
before x done = unended (x ∷ [])
before x (unended l) = unended (x ∷ l)
before x (line l ls) = line (x ∷ l) ls

-- the lines of a text (I1)
unfoldable pub lines_of : List ℕ → Lines
lines_of [] = done
lines_of (x ∷ xs) = pick (eqb x LF) (line [] (lines_of xs)) (before x (lines_of xs))

-- the first line of a text is ended by LF: the text goes on after the line's characters (I1)
unfoldable pub ended_line : List ℕ → Bool
ended_line text = ltb (length (line_of text)) (length text)

-- a text from its line n on, lines being counted from 1; there is no line 0 (I1)
unfoldable pub from_line : List ℕ → ℕ → List ℕ
from_line text zero = []
from_line text (suc zero) = text
from_line text (suc (suc n)) = drop (suc (length (line_of (from_line text (suc n))))) (from_line text (suc n))
