-- The invariant: what is left to add gives what all gives.
use mathlib.Core.Path.{◌≡◌}
use Prim.Native.Nat.{◌-◌}
use Rattle.elf.specs.Header.{count}
use Rattle.place.specs.Plan.{add_segments}
use Rattle.place.proofs.plan.Plan.add_segments.Given as goal

abbrev pub invariant-loop-i : goal.invariant-loop-i
invariant-loop-i l = add_segments l.initial.self l.asid l.file (count l.file) 0 ≡ add_segments l.self l.asid l.file (l.i-end - l.i) l.i
