-- The invariant: the number so far, with the digits that are left, is the number of all; it is below the power of ten, so no sum wraps.
use Rattle.std.proofs.Common.{◌≡◌, ◌^◌, ◌<◌, drop}
use Rattle.benchcard.specs.Arguments.{number}
use Rattle.benchcard.proofs.arguments.number.Given as goal

abbrev pub invariant-loop-b : goal.invariant-loop-b
invariant-loop-b l = (number 0 l.digits ≡ number l.x (drop l.b-index l.digits)) × (l.x < 10 ^ l.b-index)
