-- The merge of the aligned word, and the two cases of the definition.
use Rattle.std.proofs.Common.{ap, ◌∙◌, eq-eqb, ne_eqb}
use Rattle.word.specs.Word.{extend}
use Rattle.memory.specs.Unaligned.{lwr}
use Rattle.memory.proofs.unaligned.lwr.Goals as goal

pub returns-then-p-eq3 : goal.returns-then-p-eq3
unfolding lwr
returns-then-p-eq3 c = rw (eq-eqb _ _ c.if-p-eq3.true) (c.extend.ensures ∙ ap extend c.right-merged.ensures)

pub returns-else-p-eq3 : goal.returns-else-p-eq3
unfolding lwr
returns-else-p-eq3 c = rw (ne_eqb _ _ c.if-p-eq3.false) c.right-merged.ensures
