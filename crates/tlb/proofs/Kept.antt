-- Bounds of what a slot keeps.
use Prim.Native.Nat.{ℕ, ◌-◌, ◌^◌, ◌≤◌}
use native.Mathlib.Omega.{arith}
use lib.Bits.{and_le_l}
use Rattle.tlb.specs.PageMask.{run}
use Rattle.tlb.specs.Slot.{cleared, both_global}

pub cleared_le : (mask p : ℕ) → cleared mask p ≤ p
unfolding cleared
cleared_le mask p = and_le_l p (2 ^ 19 - 1 - run mask)

pub global_le : (a b : ℕ) → both_global a b ≤ 2 ^ 12
unfolding both_global
global_le a b = grind arith
