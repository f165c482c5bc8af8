-- The invariant: the first fault of the programs left is that of all.
use mathlib.Core.Path.{◌≡◌}
use Prim.Native.Nat.{◌-◌}
use Rattle.place.specs.Files.{file_of}
use Rattle.place.specs.Made.{programs_refusal}
use Rattle.place.proofs.refusals.programs_refusal.Given as goal

abbrev pub invariant-loop-k : goal.invariant-loop-k
invariant-loop-k l = programs_refusal (file_of l.files) l.n 1 ≡ programs_refusal (file_of l.files) (l.k-end - l.k) l.k
