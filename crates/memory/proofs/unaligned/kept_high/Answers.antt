-- To the right and back in two halves: the bytes above.
use Rattle.memory.proofs.Merges.{high_kept}
use borrow.Author.Rules.{rules}
use Rattle.memory.proofs.unaligned.kept_high.Goals as goal

pub returns : goal.returns
returns c = high_kept c.args.x c.args.n (search rules)
