-- The invariant: the first fault of the headers that are left is that of all headers.
use Prim.Native.Nat.{◌-◌}
use mathlib.Core.Path.{◌≡◌}
use Rattle.elf.specs.Header.{count}
use Rattle.elf.specs.Faults.{segments_fault}
use Rattle.elf.proofs.faults.segments_fault.Given as goal

abbrev pub invariant-loop-i : goal.invariant-loop-i
invariant-loop-i l = segments_fault l.space l.file (count l.file) 0 ≡ segments_fault l.space l.file (l.i-end - l.i) l.i
