-- The field is the whole.
use borrow.Author.Rules.{rules}
use Rattle.memory.specs.Loads.{ld}
use Rattle.memory.proofs.Spans.{span_whole}
use Rattle.memory.proofs.loads.ld.Goals as goal

pub returns : goal.returns
unfolding ld
returns c = span_whole _ _ (search rules)
