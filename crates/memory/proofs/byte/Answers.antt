-- A shift and a remainder are the quotient and remainder of the definition.
use Rattle.memory.specs.Bytes.{byte}
use borrow.Author.Rules.{rules}
use Rattle.memory.proofs.byte.Goals as goal

pub returns : goal.returns
unfolding byte
returns c = search rules
