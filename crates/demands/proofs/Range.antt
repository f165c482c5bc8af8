-- What a step comes to keeps a machine in its range: what it does to CP0 and the TLB is of the kinds that keep these in range.
use Prim.Native.Nat.{ℕ}
use native.Mathlib.Omega.{arith}
use mathlib.Core.Path.{◌≡◌}
use mathlib.Core.Bool.{Bool, true}
use mathlib.Core.List.{List}
use Rattle.std.specs.Prelude.{Option, Some, Ok}
use Rattle.memory.specs.declared.PAddr.{PAddr}
use Rattle.memory.specs.declared.Eight.{Eight}
use Rattle.tlb.specs.declared.Found.TheVariants.{One}
use Rattle.tlb.specs.declared.Slot.{Slot}
use Rattle.tlb.specs.PageMask.{legal_mask}
use Rattle.tlb.specs.Slot.{asid_of, slot_at, read_slot}
use Rattle.tlb.specs.Match.{lookup}
use Rattle.tlb.specs.Probe.{probed, probe}
use Rattle.tlb.specs.Translate.{vaddr}
use Rattle.tlb.specs.Range.{tlb_in_range, legal_write}
use Rattle.tlb.proofs.Tells.{one_only}
use Rattle.tlb.proofs.StaysInRange.{in_range_each}
use Rattle.cp0.specs.declared.Cp0.{Cp0}
use Rattle.cp0.specs.Registers.{kept_index, slot_read}
use Rattle.cp0.specs.Range.{cp0_in_range}
use Rattle.cp0.proofs.InRange.{range_read}
use Rattle.cp0.proofs.KeepsRange.{linked_in_range, probed_in_range, returned_in_range, entered_in_range}
use Rattle.cp0.proofs.KeepsRandom.{ended_in_range}
use Rattle.cp0.proofs.KeepsMoves.{moved_in_range}
use Rattle.cp0.proofs.KeepsSlots.{slot_read_in_range}
use Rattle.effect.specs.declared.Cpu.{Cpu}
use Rattle.access.specs.declared.Effect.{Effect}
use Rattle.access.specs.Effect.{turned, wrote, raised, stopped}
use Rattle.access.specs.Access.{linking, got, loaded, sending, sent, saved}
use Rattle.effect.specs.Step as step
use Rattle.effect.specs.Step.{from_slot, from_probe, tlb_done, moved_to, asked, commanded, executed, readied, begun, effect_of}
use Rattle.effect.specs.After.{cp0_after}

-- an effect that keeps a machine in range
pub record Keeps (cp0 : Cp0) (e : Effect) : Type 0 where
  pub turn : (pc : ℕ) (slot : Bool) → cp0_in_range (cp0_after pc slot cp0 e.turn) ≡ true
  pub slot : legal_write e.slot ≡ true

module _ (cpu : Cpu) (cp0 : Cp0) (regs tlb : List ℕ) (look : PAddr → Option Eight) (r : cp0_in_range cp0 ≡ true) (t : tlb_in_range tlb ≡ true) where
  -- TLBR takes a slot that is in range, TLBP an index that is, and a write a mask that is legal
  read_kept : (i : ℕ) (s : Slot) → read_slot tlb i ≡ Some s → cp0_in_range (slot_read cp0 s) ≡ true
  unfolding read_slot
  read_kept i s e = grind (arith, slot_read_in_range cp0 (slot_at tlb i), in_range_each tlb t, r)

  probed_kept : (i : ℕ) → probe tlb cp0.entryhi ≡ Ok i → kept_index i ≡ i
  unfolding probe probed
  probed_kept i e =
      let f = λ (j : ℕ) (q : lookup tlb (asid_of cp0.entryhi) (vaddr cp0.entryhi) ≡ One j). (one_only tlb (asid_of cp0.entryhi) (vaddr cp0.entryhi) j q).below in
      grind arith

  mask_legal : legal_mask cp0.pagemask ≡ true
  mask_legal = (range_read cp0 r).pagemask_in

  pub effect_keeps : (lines : ℕ) → Keeps cp0 (effect_of cpu cp0 regs tlb look lines)
  unfolding effect_of begun step.decoded readied executed commanded moved_to tlb_done from_slot from_probe asked wrote loaded linking got saved sent sending raised turned stopped legal_write cp0_after
  effect_keeps lines =
      grind (arith, r, mask_legal, read_kept, probed_kept, ended_in_range, linked_in_range, entered_in_range, moved_in_range, probed_in_range, returned_in_range)
