-- The invariant: what is left to put, put, gives what the whole would.
use Prim.Native.Nat.{◌+◌, ◌*◌, ◌≤◌}
use lib.ListN.{drop}
use Rattle.answer.specs.Frames.{fields_text}
use Rattle.answer.proofs.Writes.{Still}
use Rattle.answer.proofs.Text.line.Given as goal

abbrev pub invariant-loop-many : goal.invariant-loop-many
invariant-loop-many l = record {
  at : l.self.at ≤ l.initial.self.at + 16 * l.many-index;
  left : Still l.initial.self l.self (fields_text l.fields) (fields_text (drop l.many-index l.fields));
}
