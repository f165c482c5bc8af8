-- What it is to have written a text.
use Rattle.std.specs.Prelude.{List, ℕ, ◌≡◌}
use Rattle.answer.specs.declared.Text.{Text}
use Rattle.answer.specs.Wrote.{Wrote}

-- the text was written where the one before it ended, into the same buffer
pub record Put (was is : Text) (text : List ℕ) : Type 0 where
  pub same : is.out.ghost_name ≡ was.out.ghost_name
  pub wrote : Wrote was.out.now was.at text is.at is.out.now
