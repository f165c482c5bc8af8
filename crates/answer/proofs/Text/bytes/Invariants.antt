-- The invariant: what is left of the text, put, gives what the whole would.
use Prim.Native.Nat.{◌+◌}
use mathlib.Core.Path.{◌≡◌}
use lib.ListN.{drop}
use Rattle.answer.proofs.Writes.{Still}
use Rattle.answer.proofs.Text.bytes.Given as goal

abbrev pub invariant-loop-b : goal.invariant-loop-b
invariant-loop-b l = record {
  at : l.self.at ≡ l.initial.self.at + l.b-index;
  left : Still l.initial.self l.self l.text (drop l.b-index l.text);
}
