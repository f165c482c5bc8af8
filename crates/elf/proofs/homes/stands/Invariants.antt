-- The invariant: what stands there by the headers that are left is what stands there by all.
use Prim.Native.Nat.{◌-◌}
use mathlib.Core.Path.{◌≡◌}
use Rattle.elf.specs.Header.{count}
use Rattle.elf.specs.Home.{stands_from}
use Rattle.elf.proofs.homes.stands.Given as goal

abbrev pub invariant-loop-i : goal.invariant-loop-i
invariant-loop-i l = stands_from l.space l.file l.a (count l.file) 0 ≡ stands_from l.space l.file l.a (l.i-end - l.i) l.i
