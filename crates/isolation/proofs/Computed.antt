-- What the programs of the examples meet, by computation.
use Prim.Native.Nat.{ℕ}
use mathlib.Core.Path.{refl}
use lib.Count.{ones, ones_in, count_trailing_zeros}
use Rattle.word.specs.Extend.{extend, register}
use Rattle.memory.specs.Bytes.{eight_of}
use Rattle.memory.specs.Loads.{lw, lwu, span}
use Rattle.memory.specs.Memory.{read, part, place}
use Rattle.memory.specs.Stores.{put_bytes}
use Rattle.tlb.specs.Match.{lookup, seek, matches_at, hits, agree, same_space, more}
use Rattle.tlb.specs.PageMask.{legal_mask, trailing_ones, page_bits}
use Rattle.tlb.specs.Range.{tlb_in_range, slots_in_range, slot_in_range, hi_in_range, lo_in_range}
use Rattle.tlb.specs.Segments.{translate, aligned, extended, segment}
use Rattle.tlb.specs.Slot.{slot_at, put_slot}
use Rattle.tlb.specs.Translate.{mapped, through_found, through_slot, through, lo_of, physical}
use Rattle.cp0.specs.Exceptions.{vector, offset, entered, told, epc_after, bd_after, cause_after, addressed}
use Rattle.cp0.specs.Moves.{built_status}
use Rattle.cp0.specs.Range.{cp0_in_range, entries_in_range, control_in_range, config_in_range, status_in_range, random_in_range}
use Rattle.cp0.specs.Status.{user, interrupted, cause_read, mode_of}
use Rattle.cp0.specs.Tick.{ended, counted, timed, drawn}
use Rattle.decode.specs.Decode.{decode_by, entry_in, by_major}
use Rattle.decode.specs.Maps.{majors}
use Rattle.usability.specs.Ready.{ready, usable, allowed, in_place}
use Rattle.execute.specs.Execute.{execute}
use Rattle.execute.specs.LoadStore.{load, effective, load_align, finish}
use Rattle.access.specs.Access.{loaded, got, linking}
use Rattle.effect.specs.After.{cpu_after, onward, arrived, cp0_after}
use Rattle.access.specs.Effect.{raised, stopped, turned, wrote}
use Rattle.access.specs.Fetch.{word_at, word_found}
use Rattle.effect.specs.Step.{effect_of, begun, decoded, readied, executed, asked}
use Rattle.card.specs.Machine.{in_range, cpu_in_range}
use Rattle.card.specs.Run.{refusal_by, run_of, steps}
use Rattle.card.specs.Step.{step_of, apply, put_reg}
use Rattle.cp0.specs.Registers as cp0
use Rattle.isolation.specs.Isolation.{run}
use Rattle.isolation.specs.Example.{user_cp0, one_slot, mill, page, with_entry, world, Caught}
use Rattle.isolation.specs.Shared.{slots, frames, sharing, Computed}

-- an attempt at another's entry raises, and nothing of the entry is learnt
pub caught : (secret : ℕ) → Caught (run (world secret) 1)
unfolding world mill user_cp0 cp0.set cp0.fresh one_slot page with_entry ones ones_in count_trailing_zeros user built_status refusal_by in_range cpu_in_range cp0_in_range entries_in_range control_in_range config_in_range status_in_range random_in_range tlb_in_range slots_in_range slot_in_range hi_in_range lo_in_range slot_at legal_mask trailing_ones run_of steps step_of apply put_reg put_slot put_bytes effect_of interrupted cause_read word_at word_found translate aligned extended extend register segment mode_of mapped lookup seek matches_at hits agree same_space more through_found through_slot through lo_of physical page_bits begun decoded readied ready usable allowed in_place decode_by entry_in by_major majors executed execute load effective load_align asked loaded raised turned lwu span read part place eight_of cpu_after arrived vector offset cp0_after entered told epc_after bd_after cause_after addressed ended counted timed drawn
caught secret = record { stop = refl; counted = refl; vector = refl; code = refl; address = refl; nothing_learnt = refl }

-- what mill A meets beside mill B's slot
pub computed : Computed
unfolding sharing slots frames user_cp0 cp0.set cp0.fresh ones ones_in count_trailing_zeros user built_status refusal_by in_range cpu_in_range cp0_in_range entries_in_range control_in_range config_in_range status_in_range random_in_range tlb_in_range slots_in_range slot_in_range hi_in_range lo_in_range slot_at legal_mask trailing_ones run_of steps step_of apply put_reg put_slot put_bytes effect_of interrupted cause_read word_at word_found translate aligned extended extend register segment mode_of mapped lookup seek matches_at hits agree same_space more through_found through_slot through lo_of physical page_bits begun decoded readied ready usable allowed in_place decode_by entry_in by_major majors executed execute load effective load_align asked loaded got linking finish raised stopped turned wrote lw lwu span read part place eight_of cpu_after onward arrived vector offset cp0_after entered told epc_after bd_after cause_after addressed ended counted timed drawn
computed =
    record {
      theirs_valid = record { world = record { accepted = refl; user = refl; locked = refl }; ends = refl };
      theirs_invalid = record { world = record { accepted = refl; user = refl; locked = refl }; ends = refl };
      same_page = record { world = record { accepted = refl; user = refl; locked = refl }; ends = refl };
      other_page = record { world = record { accepted = refl; user = refl; locked = refl }; ends = refl };
      both_own = record { world = record { accepted = refl; user = refl; locked = refl }; ends = refl };
      global_valid = record { world = record { accepted = refl; user = refl; locked = refl }; ends = refl };
      global_invalid = record { world = record { accepted = refl; user = refl; locked = refl }; ends = refl };
      own_valid = record { world = record { accepted = refl; user = refl; locked = refl }; ends = refl };
      own_invalid = record { world = record { accepted = refl; user = refl; locked = refl }; ends = refl };
    }
