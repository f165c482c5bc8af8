-- The invariant: what is filled, and then what is left to fill, is all.
use mathlib.Core.Path.{◌≡◌}
use Prim.Native.Nat.{◌-◌}
use mathlib.Core.List.{◌++◌}
use lib.ListN.{length, take}
use Rattle.place.specs.Files.{file_of}
use Rattle.place.specs.Ram.{bytes_from}
use Rattle.place.proofs.ram.fill.Given as goal

abbrev pub invariant-loop-p : goal.invariant-loop-p
invariant-loop-p l = take l.p l.ram ++ bytes_from (file_of l.files) l.kernel l.pages (length l.initial.ram - l.p) l.p ≡ bytes_from (file_of l.files) l.kernel l.pages (length l.initial.ram) 0
