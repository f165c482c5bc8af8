-- The invariant: each slot so far is in range.
use Rattle.std.proofs.Common.{◌≡◌, ℕ, ◌<◌, true}
use Rattle.tlb.specs.Slot.{slot_at}
use Rattle.tlb.specs.Range.{slot_in_range}
use Rattle.tlb.proofs.range.tlb_in_range.Given as goal

abbrev pub invariant-loop-i : goal.invariant-loop-i
invariant-loop-i l = (k : ℕ) → k < l.i → slot_in_range (slot_at l.tlb k) ≡ true
