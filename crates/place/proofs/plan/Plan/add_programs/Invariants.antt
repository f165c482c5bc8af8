-- The invariant: what is left to add gives what all gives.
use mathlib.Core.Path.{◌≡◌}
use Prim.Native.Nat.{◌-◌}
use Rattle.place.specs.Files.{file_of}
use Rattle.place.specs.Plan.{add_programs}
use Rattle.place.proofs.plan.Plan.add_programs.Given as goal

abbrev pub invariant-loop-k : goal.invariant-loop-k
invariant-loop-k l = add_programs l.initial.self (file_of l.files) l.n 1 ≡ add_programs l.self (file_of l.files) (l.k-end - l.k) l.k
