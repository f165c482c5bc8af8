-- A write changes its slot alone.
use Prim.Native.Nat.{ℕ, ◌+◌, ◌*◌, ◌<◌}
use mathlib.Core.Path.{◌≡◌, refl}
use mathlib.Core.List.{List}
use Rattle.std.specs.Prelude.{Option, None, Some}
use native.Mathlib.Omega.{arith}
use lib.ListN.{length, length-set}
use lib.Seq.{get_or-set_same, get_or-set_other}
use Rattle.tlb.specs.declared.Slot.{Slot}
use Rattle.tlb.specs.declared.SlotWrite.{SlotWrite}
use Rattle.tlb.specs.Slot.{slot_at, set_slot, write, put_slot, stored}

module _ (tlb : List ℕ) (i : ℕ) (s : Slot) where
  pub length_set_slot : length (set_slot tlb i s) ≡ length tlb
  unfolding set_slot
  length_set_slot = simp length-set

  -- every other slot keeps its numbers
  pub set_slot_other : (j : ℕ) → (j ≡ i → ⊥) → slot_at (set_slot tlb i s) j ≡ slot_at tlb j
  unfolding slot_at set_slot
  set_slot_other j n = grind (arith, get_or-set_other)

  -- the slot itself becomes what was set
  module _ (h : i * 4 + 3 < length tlb) where
    pub set_slot_same : slot_at (set_slot tlb i s) i ≡ s
    unfolding slot_at set_slot
    set_slot_same = grind (arith, get_or-set_same, get_or-set_other, length-set)

-- a write keeps the length
pub put_length : (tlb : List ℕ) (w : Option SlotWrite) → length (put_slot tlb w) ≡ length tlb
unfolding put_slot
put_length tlb None = refl
put_length tlb (Some w) = grind (arith, length_set_slot)

-- a slot that is not written keeps its numbers
pub put_other : (tlb : List ℕ) (i j : ℕ) (moved : Slot) → (j ≡ i → ⊥) → slot_at (put_slot tlb (Some (write i moved))) j ≡ slot_at tlb j
unfolding put_slot
put_other tlb i j moved n = grind (arith, set_slot_other)

-- the slot that is written holds what is stored
pub put_same : (tlb : List ℕ) (i : ℕ) (moved : Slot) → length tlb ≡ 192 → i < 48 → slot_at (put_slot tlb (Some (write i moved))) i ≡ stored moved
unfolding put_slot
put_same tlb i moved l h = grind (arith, set_slot_same)
