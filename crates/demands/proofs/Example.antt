-- Programs from 80000000, run by computation: document 01's ADDIU r8, r0, 5 and ADDU r9, r8, r8 (I16), two with a branch in a slot, one that divides by zero (W2) and one whose destinations are r0 (W9.1, W9.2).
use Prim.Native.Nat.{ℕ, ◌^◌, ◌<◌}
use native.Mathlib.Omega.{arith}
use mathlib.Core.Path.{◌≡◌, refl}
use mathlib.Core.Bool.{true, false}
use mathlib.Core.List.{List, [], ◌∷◌}
use lib.Count.{ones, ones_in, count_trailing_zeros}
use lib.ListN.{get_or, replicate}
use Rattle.word.specs.Extend.{extend, register}
use Rattle.word.specs.Sum.{sum}
use Rattle.word.specs.Quotient.{by_zero, divided, quotient}
use Rattle.memory.specs.Bytes.{eight_of, byte, bytes_of}
use Rattle.memory.specs.Memory.{part, read}
use Rattle.memory.specs.Loads.{span, lw, lwu}
use Rattle.memory.specs.Stores.{put_bytes}
use Rattle.tlb.specs.PageMask.{trailing_ones, legal_mask}
use Rattle.tlb.specs.Slot.{slot_at, put_slot}
use Rattle.tlb.specs.Range.{hi_in_range, lo_in_range, slot_in_range, slots_in_range, tlb_in_range}
use Rattle.tlb.specs.Segments.{aligned, extended, upper, segment, translate}
use Rattle.cp0.specs.Registers as cp0
use Rattle.cp0.specs.Status.{user, mode_of, cause_read, interrupted}
use Rattle.cp0.specs.Moves.{built_status}
use Rattle.cp0.specs.Range.{random_in_range, status_in_range, config_in_range, entries_in_range, control_in_range, cp0_in_range}
use Rattle.cp0.specs.Tick.{counted, timed, drawn, ended}
use Rattle.decode.specs.Maps.{majors, specials, regimms}
use Rattle.decode.specs.Decode.{by_major, entry_in, decode_by}
use Rattle.usability.specs.Ready.{in_place, allowed, usable, ready}
use Rattle.execute.specs.Arithmetic.{arithmetic, arithmetic_immediate}
use Rattle.execute.specs.Multiply.{to_hi_lo, multiply, move_hi_lo}
use Rattle.flow.specs.Branches.{equal, branch_target, plain, branch}
use Rattle.flow.specs.Jumps.{jump_register}
use Rattle.execute.specs.LoadStore.{effective, load, store, load_align, store_align, finish, goes_out}
use Rattle.execute.specs.Execute.{execute}
use Rattle.access.specs.Effect.{turned, wrote, stopped}
use Rattle.access.specs.Fetch.{word_found, word_at}
use Rattle.access.specs.Access.{linking, got, loaded, sending, sent, saved}
use Rattle.effect.specs.Step.{asked, executed, readied, decoded, begun, effect_of}
use Rattle.effect.specs.After.{cpu_of, onward, pending, cpu_after, cp0_after}
use Rattle.card.specs.declared.Machine.{Machine}
use Rattle.card.specs.Machine.{machine, fresh_slots, cpu_in_range, in_range}
use Rattle.card.specs.Step.{put_reg, apply, step_of}
use Rattle.card.specs.Run.{Whole, whole, refusal_by, steps, run_of}
use Rattle.demands.specs.Call.{Call, run}
use Rattle.demands.specs.Range.{r0}
use Rattle.demands.specs.Given.{all_below, GivenCp0, Given}

-- the fresh machine with PC 80000000 (sign-extended) and these registers, as frames 01 set them
unfoldable pub start_with : List ℕ → Machine
start_with regs = machine (cpu_of 0xffffffff80000000 false 0 0 0 false) cp0.fresh regs (fresh_slots 48 0)

-- and none but PC
abbrev pub at_start : Machine
at_start = start_with (replicate 32 0)

fresh_given : GivenCp0 cp0.fresh
unfolding cp0.fresh
fresh_given = search arith

-- a program in RAM and these registers, no ROM, lines 0
abbrev called_with : List ℕ → List ℕ → ℕ → Call
called_with regs ram budget = record { rom = []; lines = 0; budget = budget; machine = start_with regs; ram = ram }

-- and none but PC
abbrev called : List ℕ → ℕ → Call
called ram budget = called_with (replicate 32 0) ram budget

-- document 01's program in eight bytes
abbrev pub program : ℕ → Call
program budget = called (0x24 ∷ 0x08 ∷ 0x00 ∷ 0x05 ∷ 0x01 ∷ 0x08 ∷ 0x48 ∷ 0x21 ∷ []) budget

-- BEQ r0, r0 with BEQ r0, r0 in its slot: stop 17 after one step
abbrev pub branches : Call
branches = called (0x10 ∷ 0x00 ∷ 0x00 ∷ 0x00 ∷ 0x10 ∷ 0x00 ∷ 0x00 ∷ 0x00 ∷ []) 3

-- the same after ADDIU r8, r0, 5: stop 17 after two
abbrev pub branches_later : Call
branches_later = called (0x24 ∷ 0x08 ∷ 0x00 ∷ 0x05 ∷ 0x10 ∷ 0x00 ∷ 0x00 ∷ 0x00 ∷ 0x10 ∷ 0x00 ∷ 0x00 ∷ 0x00 ∷ 0x00 ∷ 0x00 ∷ 0x00 ∷ 0x00 ∷ []) 3

-- these in r0 and r8
abbrev with_r8 : ℕ → ℕ → List ℕ
with_r8 zeroth eighth = zeroth ∷ 0 ∷ 0 ∷ 0 ∷ 0 ∷ 0 ∷ 0 ∷ 0 ∷ eighth ∷ replicate 23 0

-- ADDIU r0, r0, 5; LL r0, 16(r8); SC r0, 16(r8); JALR r0, r8; and eight bytes, of which LL brings 00000007
abbrev words : List ℕ
words = 0x24 ∷ 0x00 ∷ 0x00 ∷ 0x05 ∷ 0xc1 ∷ 0x00 ∷ 0x00 ∷ 0x10 ∷ 0xe1 ∷ 0x00 ∷ 0x00 ∷ 0x10 ∷ 0x01 ∷ 0x00 ∷ 0x00 ∷ 0x09 ∷ 0x00 ∷ 0x00 ∷ 0x00 ∷ 0x07 ∷ 0x00 ∷ 0x00 ∷ 0x00 ∷ 0x09 ∷ []

-- run with this in r0 and 80000000 in r8
abbrev pub named : ℕ → ℕ → Call
named zeroth budget = called_with (with_r8 zeroth 0xffffffff80000000) words budget

-- DIV r8, r0; MFLO r9; MFHI r10: a mill's program asks the card what a zero divisor leaves, of this in r8
abbrev pub probe : ℕ → Call
probe dividend = called_with (with_r8 0 dividend) (0x01 ∷ 0x00 ∷ 0x00 ∷ 0x1a ∷ 0x00 ∷ 0x00 ∷ 0x48 ∷ 0x12 ∷ 0x00 ∷ 0x00 ∷ 0x50 ∷ 0x10 ∷ replicate 4 0) 3

-- a run that ended with the number n after k steps and left PC so
pub record Ran (w : Whole) (n k pc : ℕ) : Type 0 where
  pub stop : w.stop ≡ n
  pub steps : w.steps ≡ k
  pub pc_left : w.machine.cpu.pc ≡ pc

-- each step goes on and leaves r0 as it was; LL set the link bit, SC stored r0, and JALR leads to r8 after its slot; with 1 in r0 the call is refused
pub record Named : Type 0 where
  pub addiu : Ran (run (named 0 1)) 0 1 0xffffffff80000004
  pub addiu_r0 : r0 (run (named 0 1)).machine ≡ 0
  pub ll : Ran (run (named 0 2)) 0 2 0xffffffff80000008
  pub ll_r0 : r0 (run (named 0 2)).machine ≡ 0
  pub ll_link : (run (named 0 2)).machine.cpu.link ≡ true
  pub sc : Ran (run (named 0 3)) 0 3 0xffffffff8000000c
  pub sc_r0 : r0 (run (named 0 3)).machine ≡ 0
  pub sc_stored : get_or (run (named 0 3)).ram 19 9 ≡ 0
  pub jalr : Ran (run (named 0 4)) 0 4 0xffffffff80000010
  pub jalr_r0 : r0 (run (named 0 4)).machine ≡ 0
  pub jalr_target : (run (named 0 4)).machine.cpu.target ≡ 0xffffffff80000000
  pub refused : run (named 1 4) ≡ whole (named 1 4).machine words 0 4

-- three steps, and what MFLO and MFHI brought
pub record Probed (w : Whole) (lo hi : ℕ) : Type 0 where
  pub ran : Ran w 0 3 0xffffffff8000000c
  pub mflo : get_or w.machine.regs 9 0 ≡ lo
  pub mfhi : get_or w.machine.regs 10 0 ≡ hi

-- document 01's program after one step, and after both: r8 is 5 and r9 is 10; the branches in a slot; 7, -7 and 0 by zero; and r0 as destination
pub record Worked : Type 0 where
  pub one : Ran (run (program 1)) 0 1 0xffffffff80000004
  pub two : Ran (run (program 2)) 0 2 0xffffffff80000008
  pub r8 : get_or (run (program 2)).machine.regs 8 0 ≡ 5
  pub r9 : get_or (run (program 2)).machine.regs 9 0 ≡ 10
  pub early : Ran (run branches) 17 1 0xffffffff80000004
  pub late : Ran (run branches_later) 17 2 0xffffffff80000008
  pub seven_by_zero : Probed (run (probe 7)) 0xffffffffffffffff 7
  pub minus_seven_by_zero : Probed (run (probe 0xfffffffffffffff9)) 1 0xfffffffffffffff9
  pub zero_by_zero : Probed (run (probe 0)) 0xffffffffffffffff 0
  pub to_r0 : Named

pub worked : Worked
unfolding run_of refusal_by in_range cpu_in_range cp0_in_range entries_in_range control_in_range random_in_range status_in_range config_in_range built_status legal_mask trailing_ones ones ones_in count_trailing_zeros tlb_in_range slots_in_range slot_in_range slot_at hi_in_range lo_in_range steps step_of apply put_reg put_slot put_bytes byte bytes_of start_with cp0.fresh cp0.linked fresh_slots effect_of interrupted cause_read word_at word_found translate aligned extended extend register segment upper mode_of user begun read part eight_of decoded readied ready usable allowed in_place lw lwu span decode_by entry_in by_major majors specials regimms executed execute multiply to_hi_lo move_hi_lo quotient divided by_zero arithmetic_immediate arithmetic sum branch plain equal branch_target jump_register load store effective load_align store_align finish goes_out linking got loaded sending sent saved asked turned wrote stopped cpu_after onward pending cp0_after ended counted timed drawn cp0.set
worked =
    record {
      one = record { stop = refl; steps = refl; pc_left = refl };
      two = record { stop = refl; steps = refl; pc_left = refl };
      r8 = refl;
      r9 = refl;
      early = record { stop = refl; steps = refl; pc_left = refl };
      late = record { stop = refl; steps = refl; pc_left = refl };
      seven_by_zero = record { ran = record { stop = refl; steps = refl; pc_left = refl }; mflo = refl; mfhi = refl };
      minus_seven_by_zero = record { ran = record { stop = refl; steps = refl; pc_left = refl }; mflo = refl; mfhi = refl };
      zero_by_zero = record { ran = record { stop = refl; steps = refl; pc_left = refl }; mflo = refl; mfhi = refl };
      to_r0 =
          record {
            addiu = record { stop = refl; steps = refl; pc_left = refl };
            addiu_r0 = refl;
            ll = record { stop = refl; steps = refl; pc_left = refl };
            ll_r0 = refl;
            ll_link = refl;
            sc = record { stop = refl; steps = refl; pc_left = refl };
            sc_r0 = refl;
            sc_stored = refl;
            jalr = record { stop = refl; steps = refl; pc_left = refl };
            jalr_r0 = refl;
            jalr_target = refl;
            refused = refl;
          };
    }

-- such a call can be given, whatever its program
pub given : (ram : List ℕ) (budget : ℕ) → budget < 2 ^ 64 → all_below 256 ram ≡ true → Given (called ram budget)
unfolding start_with cp0.fresh fresh_slots all_below
given ram budget b r =
    record {
      lines = omega arith;
      budget = b;
      ram = r;
      rom = refl;
      machine =
          record {
            cpu = search arith;
            cp0 = fresh_given;
            registers = refl;
            registers_fit = refl;
            slots = refl;
            slots_fit = refl;
          };
    }
