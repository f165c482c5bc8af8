-- The word is the immediate with sixteen zeros below it.
use Rattle.word.specs.Logic.{upper}
use Rattle.word.proofs.logic.lui.Goals as goal

pub returns : goal.returns
unfolding upper
returns c = c.extend.ensures
