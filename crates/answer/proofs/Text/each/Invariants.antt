-- The invariant: whatever the lines that are left, those before them are written.
use Prim.Native.Nat.{◌+◌, ◌-◌, ◌*◌, ◌≤◌}
use Rattle.answer.proofs.Writes.{Going}
use Rattle.answer.proofs.Text.each.Given as goal

abbrev pub invariant-loop-i : goal.invariant-loop-i
invariant-loop-i g l = record {
  at : l.self.at + 97 * (l.i-end - l.i) ≤ l.initial.self.at + 97 * l.count;
  going : Going (λ i f. goal.L-post g l.line i f) l.count l.from l.initial.self (l.i-end - l.i) l.i l.self;
}
