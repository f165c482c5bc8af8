-- The lines of a text, as they are taken off one by one.
use Rattle.std.specs.Prelude.{ℕ, ◌<◌, ◌≡◌, Bool, true, false, List, [], Option, Some, None, length}
use Rattle.frame.specs.Line.{done, unended, line, lines_of}
use Rattle.image.specs.declared.lines.Line.{Line}

-- a text begins with these characters, and this comes after their LF; nothing does where no LF ends them (I1)
abbrev pub Begins : List ℕ → List ℕ → Bool → List ℕ → Type 0
Begins text chars true after = lines_of text ≡ line chars (lines_of after)
Begins text chars false after = (lines_of text ≡ unended chars) × (after ≡ [])

-- what is taken off is the first line, and this is left; none is where nothing of the text is left
abbrev pub Takes : List ℕ → Option Line → List ℕ → Type 0
Takes text None after = lines_of text ≡ done
Takes text (Some l) after = Begins text l.chars.now l.ended after × (length after < length text)
