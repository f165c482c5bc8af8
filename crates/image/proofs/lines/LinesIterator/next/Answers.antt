use Rattle.std.proofs.Common.{rules, refl}
use Rattle.image.proofs.Turns.{takes, nothing_left}
use Rattle.image.proofs.lines.LinesIterator.next.Goals as goal

pub returns-then-is_empty-clause-steps : goal.returns-then-is_empty-clause-steps
returns-then-is_empty-clause-steps c = nothing_left _ (search rules)

pub returns-clause-steps : goal.returns-clause-steps
returns-clause-steps c =
    rw c.is_some.ensures (takes _ _ _ _ _ c.next_line-chars.ensures.0 (search rules) c.get-after.ensures.lookup.0 c.unwrap_or-self.ensures refl)
