-- Texts are bounded: each line of a part has a most, and the lines of a part have their sum.
use Prim.Native.Nat.{ℕ, zero, suc, ◌+◌, ◌*◌, ◌≤◌}
use mathlib.Core.Bool.{Bool, true, false}
use mathlib.Core.List.{List, []}
use mathlib.Core.Path.{◌≡◌, refl}
use native.Mathlib.Omega.{arith}
use lib.Dec.{eqb}
use lib.ListN.{length, length-append}
use Rattle.promise.specs.Pick.{pick}
use Rattle.tlb.specs.declared.Slot.{Slot}
use Rattle.tlb.specs.Slot.{read_slot}
use Rattle.cp0.specs.Registers.{kept?}
use Rattle.cp0.specs.Moves.{move_out}
use Rattle.card.specs.declared.Machine.{Machine}
use Rattle.card.specs.declared.Ran.{Ran}
use Rattle.std.specs.Prelude.{Option, Some, None, option_map}
use Rattle.frame.specs.declared.Frame.TheVariants as entry
use Rattle.memory.specs.Memory.{read}
use Rattle.frame.specs.declared.Frame.{Frame}
use Rattle.cp0.specs.declared.Cp0 as cp0
use Rattle.answer.specs.Frames.{frame, refusal_frame, slot_frame, register, printed, non_zero_line, register_line, kept_line, slot_line, memory_line, of_ram, each}
use Rattle.answer.specs.Texts.{refused, answered, cardrun_text, state_text, cardstate_text}
use Rattle.answer.specs.Lengths.{Lengths}
use Rattle.answer.proofs.Laws.{length_hex}

-- ---- one line

frame_length : (tag n x k y : ℕ) → length (frame tag n x k y) ≡ n + k + 3
frame_length tag n x k y = simp (length-append, length_hex) (omega arith)

slot_length : (i : ℕ) (s : Slot) → length (slot_frame i s) ≡ 37
slot_length i s = simp (length-append, length_hex)

pub either_most : (b : Bool) (s t : List ℕ) (m : ℕ) → length s ≤ m → length t ≤ m → length (pick b s t) ≤ m
either_most true s t m p q = p
either_most false s t m p q = q

-- a line of at most so many bytes, which may be left out
pick_most : (b : Bool) (f : Option Frame) (m : ℕ) → length (printed f) ≤ m → length (printed (pick b None f)) ≤ m
pick_most true f m h = omega arith
pick_most false f m h = h

non_zero_most : (m : Machine) (i : ℕ) → length (printed (non_zero_line m i)) ≤ 21
non_zero_most m i = pick_most (eqb (register m.cpu m.regs i) 0) _ 21 (omega (arith, frame_length 1 2 i 16 (register m.cpu m.regs i)))

register_most : (m : Machine) (i : ℕ) → length (printed (register_line m i)) ≤ 21
register_most m i = omega (arith, frame_length 1 2 i 16 (register m.cpu m.regs i))

kept_most : (c : cp0.Cp0) (i : ℕ) → length (printed (kept_line c i)) ≤ pick (kept? i) 21 0
kept_most c i = go (kept? i) refl
  where
    go : (b : Bool) → kept? i ≡ b → length (printed (kept_line c i)) ≤ pick (kept? i) 21 0
    go true e = simp e (omega (arith, frame_length 4 2 i 16 (move_out c 0 i)))
    go false e = simp e (omega arith)

slot_most : (tlb : List ℕ) (i : ℕ) → length (printed (slot_line tlb i)) ≤ 37
slot_most tlb i = go (read_slot tlb i)
  where
    go : (s : Option Slot) → length (printed (option_map (λ (x : Slot). entry.Slot i x.mask x.hi x.lo0 x.lo1) s)) ≤ 37
    go None = omega arith
    go (Some s) = omega (arith, slot_length i s)

memory_most : (ram : List ℕ) (i : ℕ) → length (printed (memory_line ram i)) ≤ 27
memory_most ram i =
    let value : ℕ = of_ram (read ram [] (record { 0 = i * 8 })) in
    pick_most (eqb value 0) _ 27 (omega (arith, frame_length 2 8 (i * 8) 16 value))

-- ---- the lines of a part

total : (ℕ → ℕ) → ℕ → ℕ → ℕ
total b zero i = 0
total b (suc n) i = b i + total b n (i + 1)

-- lines that have the same most
same_total : (m n i : ℕ) → total (λ k. m) n i ≡ n * m
unfolding total
same_total m zero i = omega arith
same_total m (suc n) i = rw (same_total m n (i + 1)) (omega arith)

each_most : (f : ℕ → Option Frame) (b : ℕ → ℕ) → ((i : ℕ) → length (printed (f i)) ≤ b i) → (n i : ℕ) → length (each f n i) ≤ total b n i
unfolding each total
each_most f b h zero i = omega arith
each_most f b h (suc n) i = simp length-append (omega (arith, h i, each_most f b h n (i + 1)))

same_most : (f : ℕ → Option Frame) (m : ℕ) → ((i : ℕ) → length (printed (f i)) ≤ m) → (n i : ℕ) → length (each f n i) ≤ n * m
same_most f m h n i = omega (arith, each_most f (λ k. m) h n i, same_total m n i)

kept_lines : (c : cp0.Cp0) → length (each (kept_line c) 32 0) ≤ 420
unfolding total kept?
kept_lines c = each_most (kept_line c) (λ i. pick (kept? i) 21 0) (kept_most c) 32 0

-- ---- the texts

refusal_length : (number line : ℕ) → length (refusal_frame number line) ≡ 13
refusal_length number line = frame_length 0x0e 2 number 8 line

answered_most : (r : Ran) (text : List ℕ) (most : ℕ) → 13 ≤ most → length text ≤ most → length (answered r text) ≤ most
answered_most r text most l h =
    either_most (refused r.stop) (refusal_frame r.stop 0) text most (omega (arith, refusal_length r.stop 0)) h

pub lengths : Lengths
unfolding cardrun_text cardstate_text state_text
lengths =
    record {
      refusal = refusal_length;
      cardrun =
          λ r. answered_most r _ 727 (omega arith)
          (simp (length-append, length_hex) (omega (arith, same_most (non_zero_line r.machine) 21 (non_zero_most r.machine) 33 1)));
      cardstate =
          λ r ram. answered_most r _ 224151 (omega arith)
          (simp (length-append, length_hex)
          (omega (arith, same_most (register_line r.machine) 21 (register_most r.machine) 35 0, kept_lines r.machine.cp0, same_most (slot_line r.machine.tlb) 37 (slot_most r.machine.tlb) 48 0, same_most (memory_line ram) 27 (memory_most ram) 8192 0)));
    }
