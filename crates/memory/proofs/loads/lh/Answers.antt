-- The sign extension of the field is that of `word`.
use mathlib.Core.Path.{◌∙◌, ap}
use Rattle.word.specs.Word.{extend_half}
use Rattle.memory.specs.Loads.{lh, lhu}
use Rattle.memory.proofs.loads.lh.Goals as goal

pub returns : goal.returns
unfolding lh lhu
returns c = c.extend_half.ensures ∙ ap extend_half c.lhu.ensures
