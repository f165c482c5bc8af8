-- The invariant: the bytes so far as one number.
use Rattle.std.proofs.Common.{◌≡◌}
use Rattle.memory.proofs.Runs.{run}
use Rattle.memory.proofs.eight_of.Given as goal

abbrev pub invariant-loop-x : goal.invariant-loop-x
invariant-loop-x l = l.n ≡ run l.l l.x-index
