-- The invariant: the first refusal of what is left, at its line number, is that of the whole text.
use Prim.Native.Nat.{◌≤◌, ◌+◌}
use mathlib.Core.Path.{◌≡◌}
use mathlib.Core.Bool.{false}
use lib.ListN.{length}
use Rattle.frame.specs.Line.{lines_of}
use Rattle.image.specs.Refusals.{first_of}
use Rattle.image.proofs.refusals.all_pass.Given as goal

abbrev pub invariant-loop-line : goal.invariant-loop-line
invariant-loop-line l = record {
  counted : l.n + length l.line-iterator.0.now ≤ 1 + length l.fn.text;
  is : first_of (lines_of l.fn.text) 1 false ≡ first_of (lines_of l.line-iterator.0.now) l.n l.after;
}
