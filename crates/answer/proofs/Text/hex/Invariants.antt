-- The invariant: what is left to put, put, gives what the whole would.
use Prim.Native.Nat.{◌+◌}
use mathlib.Core.Path.{◌≡◌}
use Rattle.answer.specs.Digits.{hex_of}
use Rattle.answer.proofs.Writes.{Still}
use Rattle.answer.proofs.Text.hex.Given as goal

abbrev pub invariant-loop-k : goal.invariant-loop-k
invariant-loop-k l = record {
  at : l.self.at + l.k ≡ l.initial.self.at + l.many;
  left : Still l.initial.self l.self (hex_of l.many l.x) (hex_of l.k l.x);
}
