-- The sign extension of the field is that of `word`.
use mathlib.Core.Path.{◌∙◌, ap}
use Rattle.word.specs.Word.{extend}
use Rattle.memory.specs.Loads.{lw, lwu}
use Rattle.memory.proofs.loads.lw.Goals as goal

pub returns : goal.returns
unfolding lw lwu
returns c = c.extend.ensures ∙ ap extend c.lwu.ensures
