-- The sign extension of the field is that of `word`.
use mathlib.Core.Path.{◌∙◌, ap}
use Rattle.word.specs.Word.{extend_byte}
use Rattle.memory.specs.Loads.{lb, lbu}
use Rattle.memory.proofs.loads.lb.Goals as goal

pub returns : goal.returns
unfolding lb lbu
returns c = c.extend_byte.ensures ∙ ap extend_byte c.lbu.ensures
