-- The invariant: the turns that are left lead from the slots so far to the definition's 48; from zeros they do by computation.
use Rattle.std.proofs.Common.{ℕ, zero, suc, ◌+◌, ◌*◌, ◌-◌, ◌≡◌, List, slice_set}
use Rattle.card.specs.Machine.{fresh_slots}
use Rattle.card.proofs.start.fresh_slots.Given as goal

-- n turns of the loop from slot i on
unfoldable pub turns : ℕ → ℕ → List ℕ → List ℕ
turns zero i slots = slots
turns (suc n) i slots = turns n (i + 1) (slice_set slots (i * 4 + 1) (0x80000000 + i * 0x2000))

abbrev pub invariant-loop-i : goal.invariant-loop-i
invariant-loop-i l = turns (48 - l.i) l.i l.slots ≡ fresh_slots 48 0
