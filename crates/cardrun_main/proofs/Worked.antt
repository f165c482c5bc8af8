-- The worked image is read, run and printed by computation; RAM counts by its length only.
use Prim.Native.Nat.{ℕ}
use mathlib.Core.Bool.{false}
use mathlib.Core.List.{List, [], ◌∷◌}
use Rattle.std.specs.Prelude.{None}
use mathlib.Core.Path.{◌≡◌, refl}
use lib.Count.{ones, ones_in, count_trailing_zeros}
use lib.ListN.{length, replicate}
use Rattle.word.specs.Extend.{extend, register}
use Rattle.word.specs.Sum.{sum}
use Rattle.memory.specs.Bytes.{byte, eight_of, bytes_of}
use Rattle.memory.specs.Memory.{part, read}
use Rattle.memory.specs.Loads.{span, lwu}
use Rattle.memory.specs.Stores.{put_bytes}
use Rattle.tlb.specs.PageMask.{trailing_ones, legal_mask}
use Rattle.tlb.specs.Slot.{slot_at, put_slot}
use Rattle.tlb.specs.Range.{hi_in_range, lo_in_range, slot_in_range, slots_in_range, tlb_in_range}
use Rattle.tlb.specs.Segments.{aligned, extended, upper, segment, translate}
use Rattle.cp0.specs.Registers as cp0
use Rattle.cp0.specs.Status.{user, mode_of, cause_read, interrupted}
use Rattle.cp0.specs.Moves.{built_status}
use Rattle.cp0.specs.Range.{random_in_range, status_in_range, config_in_range, entries_in_range, control_in_range, cp0_in_range}
use Rattle.cp0.specs.Tick.{counted, timed, drawn, ended}
use Rattle.decode.specs.Maps.{majors, specials, regimms}
use Rattle.decode.specs.Decode.{by_major, entry_in, decode_by}
use Rattle.usability.specs.Ready.{in_place, allowed, usable, ready}
use Rattle.execute.specs.Arithmetic.{arithmetic, arithmetic_immediate}
use Rattle.execute.specs.Execute.{execute}
use Rattle.access.specs.Effect.{wrote}
use Rattle.access.specs.Fetch.{word_found, word_at}
use Rattle.effect.specs.Step.{asked, executed, readied, decoded, begun, effect_of}
use Rattle.effect.specs.After.{cpu_of, onward, cpu_after, cp0_after}
use Rattle.card.specs.declared.Machine.{Machine}
use Rattle.card.specs.Machine.{machine, fresh, fresh_slots, cpu_in_range, in_range}
use Rattle.card.specs.Step.{put_reg, apply, step_of}
use Rattle.card.specs.Run.{refusal_by, steps, run_of, ran}
use Rattle.frame.specs.Line.{line_of, before, lines_of}
use Rattle.frame.specs.Digits as digits
use Rattle.frame.specs.Frame as frames
use Rattle.image.specs.Refusals.{first_of, image_refusal}
use Rattle.image.specs.Acts.{act, acts}
use Rattle.image.specs.Image.{image, loaded_by, image_of, ram_after}
use Rattle.image.specs.Example.{text}
use Rattle.answer.specs.Digits.{hex_of}
use Rattle.answer.specs.Frames as printing
use Rattle.answer.specs.Texts.{cardrun_text}
use Rattle.cardrun_main.specs.Printed.{printed}
use Rattle.cardrun_main.specs.Worked.{answer, Worked}

-- the fresh machine with PC 80000000 (sign-extended), as frame 01 sets it
abbrev start : Machine
start = machine (cpu_of 0xffffffff80000000 false 0 0 0 false) cp0.fresh (replicate 32 0) (fresh_slots 48 0)

-- RAM with the two instructions
abbrev loaded : List ℕ
loaded = 0x24 ∷ 0x08 ∷ 0x00 ∷ 0x05 ∷ 0x01 ∷ 0x08 ∷ 0x48 ∷ 0x21 ∷ replicate 65528 0

is_read : (ram : List ℕ) → length ram ≡ 65536 → (image_of text ram ≡ image start 2 None) × (ram_after text ram ≡ loaded)
unfolding image_of ram_after image_refusal loaded_by line_of before lines_of digits.number_from digits.number frames.framed frames.frame_of first_of acts act fresh put_bytes bytes_of byte
is_read ram h = (rw h, rw h)

is_run : cardrun_text (ran (run_of [] 0 2 start loaded)) ≡ answer
unfolding run_of refusal_by in_range cpu_in_range cp0_in_range entries_in_range control_in_range random_in_range status_in_range config_in_range built_status legal_mask trailing_ones ones ones_in count_trailing_zeros tlb_in_range slots_in_range slot_in_range slot_at hi_in_range lo_in_range steps step_of apply put_reg put_slot put_bytes cp0.fresh fresh_slots effect_of interrupted cause_read word_at word_found translate aligned extended extend register segment upper mode_of user begun read part eight_of decoded readied ready usable allowed in_place lwu span decode_by entry_in by_major majors specials regimms executed execute arithmetic_immediate arithmetic sum asked wrote cpu_after onward cp0_after ended counted timed drawn cp0.set cardrun_text printing.each hex_of
is_run = refl

pub worked : Worked
unfolding printed
worked ram h = rw ((is_read ram h).0, (is_read ram h).1) is_run
