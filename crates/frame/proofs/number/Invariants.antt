-- The invariant: the digits that are left, after the number so far, make the whole number.
use Prim.Native.Nat.{◌<◌, ◌+◌, ◌-◌, ◌^◌}
use mathlib.Core.Path.{◌≡◌}
use Rattle.frame.specs.Digits.{number, number_from}
use Rattle.frame.proofs.number.Given as goal

abbrev pub invariant-loop-b : goal.invariant-loop-b
invariant-loop-b l = record {
  in_range : l.v < 16 ^ l.b-index;
  is : number l.line l.at l.many ≡ number_from l.line (l.at + l.b-index) (l.many - l.b-index) l.v;
}
