-- The merge of the aligned word, then the sign extension of `word`.
use Rattle.std.proofs.Common.{ap, ◌∙◌}
use Rattle.word.specs.Word.{extend}
use Rattle.memory.specs.Unaligned.{lwl}
use Rattle.memory.proofs.unaligned.lwl.Goals as goal

pub returns : goal.returns
unfolding lwl
returns c = c.extend.ensures ∙ ap extend c.left.ensures
