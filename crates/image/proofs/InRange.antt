-- A machine from an image is always in range, so that a run of it never refuses it with 4.
use Prim.Native.Nat.{ℕ, ◌+◌}
use mathlib.Core.Bool.{Bool, true, false}
use mathlib.Core.Path.{◌≡◌, refl, sym, ◌∙◌}
use mathlib.Core.List.{List, [], ◌∷◌}
use native.Mathlib.Omega.{arith}
use borrow.Author.Tests.{eq-eqb, eqb-true, eqb-false}
use lib.Count.{ones, count_trailing_zeros}
use lib.Dec.{eqb, ltb, leb}
use lib.ListN.{length, get_or, set, length-set}
use lib.Seq.{get_or-set_other}
use Rattle.std.specs.Prelude.{Result, Ok, Err, Option, Some, None}
use Rattle.std.specs.Result.{is_ok}
use Rattle.promise.specs.Pick.{both, either}
use Rattle.frame.specs.Line.{Lines, done, unended, line, lines_of}
use Rattle.frame.specs.Frame.{HI, LO, PC, frame_of}
use Rattle.frame.specs.declared.Frame.{Frame}
use Rattle.frame.specs.declared.Frame.TheVariants.{Register, Memory, Budget, Cp0, Slot}
use Rattle.tlb.specs.declared.Slot as entry
use Rattle.tlb.specs.PageMask.{trailing_ones, legal_mask}
use Rattle.tlb.specs.Range.{hi_in_range, lo_in_range, slot_in_range, slots_in_range, tlb_in_range, legal_write}
use Rattle.tlb.specs.Slot.{slot_at, write, put_slot, set_slot}
use Rattle.tlb.proofs.StaysInRange.{both_true, put_in_range}
use Rattle.cp0.specs.declared.NotBuilt.{NotBuilt}
use Rattle.cp0.specs.Registers.{kept?}
use Rattle.cp0.specs.Moves.{check_move}
use Rattle.cp0.specs.Range.{cp0_in_range}
use Rattle.cp0.proofs.KeepsMoves.{moved_in_range}
use Rattle.cp0.proofs.KeepsRange.{fresh_in_range}
use Rattle.effect.specs.declared.Cpu.{Cpu}
use Rattle.card.specs.declared.Machine.{Machine}
use Rattle.card.specs.Machine.{fresh, fresh_slots, in_range, cpu_in_range}
use Rattle.image.specs.Allowed.{register_allowed, allowed}
use Rattle.image.specs.declared.Refusal.{Refusal}
use Rattle.image.specs.Refusals.{refusal, is_budget, refusal_of, first_of, image_refusal, size}
use Rattle.image.specs.Acts.{regs_set, cpu_set, moved, Loaded, act, line_act, acts}
use Rattle.image.specs.Image.{image_by, loaded_by, image_of}
use Rattle.image.proofs.Cases.{Good, passed}

pub false_not_true : false ≡ true → ⊥
false_not_true e = let z : ◌≡◌ {A = ℕ} 0 1 = cc in omega arith

-- the range fact by fact, with the length of the TLB
pub record Sound (m : Machine) : Type 0 where
  pub r0 : get_or m.regs 0 0 ≡ 0
  pub cpu : cpu_in_range m.cpu ≡ true
  pub cp0 : cp0_in_range m.cp0 ≡ true
  pub tlb : tlb_in_range m.tlb ≡ true
  pub slots : length m.tlb ≡ 192

sound_in : (m : Machine) → Sound m → in_range m ≡ true
unfolding in_range
sound_in m s = simp (eq-eqb _ _ s.r0, s.cpu, s.cp0, s.tlb)

fresh_sound : Sound fresh
unfolding fresh fresh_slots cpu_in_range tlb_in_range slots_in_range slot_in_range slot_at hi_in_range lo_in_range legal_mask trailing_ones ones count_trailing_zeros
fresh_sound = record { r0 = refl; cpu = refl; cp0 = fresh_in_range; tlb = refl; slots = refl }

zero_set : (regs : List ℕ) → get_or (set regs 0 0) 0 0 ≡ 0
zero_set [] = refl
zero_set (x ∷ xs) = refl

-- r0 is set to 0 only
module _ (regs : List ℕ) (number value : ℕ) (a : register_allowed number value ≡ true) (h : get_or regs 0 0 ≡ 0) where
  zero_value : (z : Bool) → eqb value 0 ≡ z → eqb number 0 ≡ true → value ≡ 0
  zero_value true e p = eqb-true value 0 e
  zero_value false e p = let w : both (leb number PC) false ≡ true = simp (p, e) at a in let z : false ≡ true = (both_true (leb number PC) false w).1 in absurd (false_not_true z)

  r0_by : (t z : Bool) → ltb number HI ≡ t → eqb number 0 ≡ z → get_or (regs_set regs number value) 0 0 ≡ 0
  r0_by false z p q = simp p h
  r0_by true false p q = simp p (get_or-set_other regs number 0 value 0 (λ e. eqb-false number 0 q (sym e)) ∙ h)
  r0_by true true p q = simp (eqb-true number 0 q, zero_value (eqb value 0) refl q) (zero_set regs)

  r0_set : get_or (regs_set regs number value) 0 0 ≡ 0
  r0_set = r0_by (ltb number HI) (eqb number 0) refl refl

module _ (cpu : Cpu) (number value : ℕ) (h : cpu_in_range cpu ≡ true) where
  cpu_by : (x y z : Bool) → eqb number HI ≡ x → eqb number LO ≡ y → eqb number PC ≡ z → cpu_in_range (cpu_set cpu number value) ≡ true
  unfolding cpu_in_range
  cpu_by true y z p q r = simp p h
  cpu_by false true z p q r = simp (p, q) h
  cpu_by false false true p q r = simp (p, q, r) h
  cpu_by false false false p q r = simp (p, q, r) h

  cpu_set_in : cpu_in_range (cpu_set cpu number value) ≡ true
  cpu_set_in = cpu_by (eqb number HI) (eqb number LO) (eqb number PC) refl refl refl

slots_by : (tlb : List ℕ) (i : ℕ) (s : entry.Slot) (t : Bool) → ltb i 48 ≡ t → length (put_slot tlb (Some (write i s))) ≡ length tlb
unfolding put_slot set_slot
slots_by tlb i s true e = simp (e, length-set)
slots_by tlb i s false e = simp e

is_built : (m : Result Unit NotBuilt) → is_ok m ≡ true → m ≡ Ok tt
is_built (Ok u) h = refl
is_built (Err e) h = absurd (false_not_true h)

-- a frame that is allowed keeps a machine sound
act_sound : (f : Frame) (s : Loaded) → allowed f ≡ true → Sound s.machine → Sound (act s f).machine
unfolding act legal_write
act_sound (Register number value) s a h =
    record {
      r0 = r0_set s.machine.regs number value a h.r0;
      cpu = cpu_set_in s.machine.cpu number value h.cpu;
      cp0 = h.cp0;
      tlb = h.tlb;
      slots = h.slots;
    }
act_sound (Memory address value) s a h = h
act_sound (Budget n) s a h = h
act_sound (Cp0 number value) s a h =
    record {
      r0 = h.r0;
      cpu = h.cpu;
      cp0 = moved_in_range s.machine.cp0 number value (is_built _ (both_true (kept? number) (is_ok (check_move number value)) a).1) h.cp0;
      tlb = h.tlb;
      slots = h.slots;
    }
act_sound (Slot index mask hi lo0 lo1) s a h =
    record {
      r0 = h.r0;
      cpu = h.cpu;
      cp0 = h.cp0;
      tlb = put_in_range s.machine.tlb (Some (write index (moved mask hi lo0 lo1))) h.slots h.tlb (both_true (leb index 0x2f) (legal_mask mask) a).1;
      slots = slots_by s.machine.tlb index (moved mask hi lo0 lo1) (ltb index 48) refl ∙ h.slots;
    }

-- a line that passes keeps it sound
line_sound : (f : Option Frame) (s : Loaded) → Good f → Sound s.machine → Sound (line_act s f).machine
line_sound None s a h = elim a [ ]
line_sound (Some f) s a h = act_sound f s a h

Keeps : Lines → Type 0
Keeps ls = (n : ℕ) (after : Bool) (s : Loaded) → first_of ls n after ≡ None → Sound s.machine → Sound (acts ls s).machine

keeps_line : (l : List ℕ) (ls : Lines) → Keeps ls → (n : ℕ) (after : Bool) (r : Option ℕ) → refusal_of after (frame_of l) ≡ r → (s : Loaded) → first_of (line l ls) n after ≡ None → Sound s.machine → Sound (acts (line l ls) s).machine
unfolding Keeps first_of acts
keeps_line l ls later n after None e s z h =
    later (n + 1) (either after (is_budget (frame_of l))) (line_act s (frame_of l)) (simp e at z)
    (line_sound (frame_of l) s (passed after (frame_of l) e).0 h)
keeps_line l ls later n after (Some k) e s z h = let w : Some (refusal k n) ≡ None = simp e at z in absurd (cc)

keeps : (ls : Lines) → Keeps ls
unfolding Keeps first_of acts
keeps done = λ n after s z h. h
keeps (unended l) = λ n after s z h. absurd (let w : Some (refusal 6 n) ≡ None = z in cc)
keeps (line l ls) = λ n after s z h. keeps_line l ls (keeps ls) n after (refusal_of after (frame_of l)) refl s z h

-- whatever the refusal, an image is in range where what its frames leave is
by_sound : (r : Option Refusal) (l : Loaded) → (r ≡ None → Sound l.machine) → in_range (image_by r l).machine ≡ true
by_sound None l h = sound_in l.machine (h refl)
by_sound (Some r) l h = sound_in fresh fresh_sound

module _ (text ram : List ℕ) where
  lines_pass : (x y : Bool) → eqb (length ram) size ≡ x → leb (length text) size ≡ y → image_refusal text ram ≡ None → first_of (lines_of text) 1 false ≡ None
  unfolding image_refusal
  lines_pass true true p q h = simp (p, q) at h
  lines_pass true false p q h = let z : Some (refusal 5 0) ≡ None = simp (p, q) at h in absurd (cc)
  lines_pass false y p q h = let z : Some (refusal 1 0) ≡ None = simp p at h in absurd (cc)

  -- whatever the text and RAM, the machine is in range (N21 to N25)
  pub image_in_range : in_range (image_of text ram).machine ≡ true
  unfolding image_of loaded_by Keeps
  image_in_range =
      by_sound (image_refusal text ram) (loaded_by text ram)
      (λ e. keeps (lines_of text) 1 false _ (lines_pass (eqb (length ram) size) (leb (length text) size) refl refl e) fresh_sound)
