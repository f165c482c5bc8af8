-- An address of 64 bits is the sign extension of its low 32 where it lies in the lowest or the highest 2^31.
use Prim.Native.Nat.{◌^◌, ◌<◌, ◌≤◌}
use mathlib.Core.Path.{◌≡◌}
use mathlib.Core.Bool.{true}
use native.Mathlib.Omega.{arith}
use lib.Dec.{leb}
use Rattle.tlb.specs.declared.VAddr.{VAddr}
use Rattle.word.specs.Extend as Extend
use Rattle.tlb.specs.Segments.{extended}

pub extended_low : (v : VAddr) → v.0 < 0x80000000 → true ≡ extended v
unfolding extended Extend.extend
extended_low v h = grind arith

pub extended_high : (v : VAddr) → v.0 < 2 ^ 64 → 0x80000000 ≤ v.0 → leb 0xffffffff80000000 v.0 ≡ extended v
unfolding extended Extend.extend
extended_high v b h = grind arith
