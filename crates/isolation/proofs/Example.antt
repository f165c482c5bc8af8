-- The concrete worlds meet every hypothesis of isolation, whatever the other mill's entry is.
use Prim.Native.Nat.{ℕ, zero, suc, ◌+◌, ◌-◌, ◌<◌, ◌≤◌}
use native.Mathlib.Omega.{arith}
use mathlib.Core.Path.{◌≡◌, refl, sym, ◌∙◌}
use mathlib.Core.List.{◌∷◌}
use mathlib.Core.Logic.{inl}
use lib.Count.{ones, ones_in, count_trailing_zeros}
use lib.ListN.{length, get_or, replicate, get_or-append, get_or-eq_default}
use Rattle.std.proofs.lemmas.List.{get_or-replicate, length-replicate}
use Rattle.memory.specs.declared.PAddr.{PAddr}
use Rattle.tlb.specs.declared.VAddr.{VAddr}
use Rattle.tlb.specs.declared.Half.{Half}
use Rattle.tlb.specs.declared.Found.{Found}
use Rattle.tlb.specs.declared.Found.TheVariants.{Absent, One, Many}
use Rattle.tlb.specs.declared.Where.TheVariants.{Mapped}
use Rattle.tlb.specs.PageMask.{legal_mask, trailing_ones, page_bits}
use Rattle.tlb.specs.Slot.{slot_at}
use Rattle.tlb.specs.Range.{hi_in_range, lo_in_range, slot_in_range, slots_in_range, tlb_in_range}
use Rattle.tlb.specs.Translate.{paddr, lo_of, physical, through, through_slot, through_found, mapped}
use Rattle.cp0.specs.Registers as cp0
use Rattle.cp0.specs.Moves.{built_status}
use Rattle.cp0.specs.Status.{user}
use Rattle.cp0.specs.Range.{random_in_range, status_in_range, config_in_range, entries_in_range, control_in_range, cp0_in_range}
use Rattle.card.specs.Machine.{cpu_in_range, in_range}
use Rattle.card.specs.Run.{refusal_by}
use Rattle.isolation.specs.Isolation.{UserWorld, Alike, SameRun}
use Rattle.isolation.specs.Example.{user_cp0, one_slot, mill, page, with_entry, world}
use Rattle.isolation.proofs.Isolation.{begins, isolation}

-- ---- what the mill reaches is its page

-- all numbers after the first slot's are 0
zeros : (n j : ℕ) → ◌≡◌ {A = ℕ} (get_or (replicate n 0) j 0) 0
zeros n j = grind (arith, get_or-replicate {A = ℕ}, get_or-eq_default {A = ℕ}, length-replicate {A = ℕ})

rest : (j : ℕ) → 4 ≤ j → get_or one_slot j 0 ≡ 0
unfolding one_slot
rest j h = let e : j ≡ suc (suc (suc (suc (j - 4)))) = omega arith in rw e (zeros 188 (j - 4))

-- through the first slot only its page is reached
first_slot : (v : VAddr) (p : PAddr) (h : Half) → through_slot (slot_at one_slot 0) 0 v ≡ Mapped p h → p.0 < 4096
unfolding one_slot slot_at through_slot lo_of through physical page_bits trailing_ones count_trailing_zeros
first_slot v p h e = grind arith

-- and nothing through any other, whose halves are not valid
later_slot : (i : ℕ) (v : VAddr) (p : PAddr) (h : Half) → through_slot (slot_at one_slot (suc i)) (suc i) v ≡ Mapped p h → p.0 < 4096
unfolding slot_at through_slot lo_of through
later_slot i v p h e = grind (arith, rest)

found_below : (v : VAddr) (p : PAddr) (h : Half) (f : Found) → through_found one_slot v f ≡ Mapped p h → p.0 < 4096
unfolding through_found
found_below v p h Absent e = cc
found_below v p h Many e = cc
found_below v p h (One zero) e = first_slot v p h e
found_below v p h (One (suc i)) e = later_slot i v p h e

-- so a User address leads to the page and nowhere else
below : (v : VAddr) (p : PAddr) (h : Half) → mapped one_slot 1 v ≡ Mapped p h → p.0 < 4096
unfolding mapped
below v p h e = found_below v p h _ e

-- ---- the hypotheses

pub accepted : (secret : ℕ) → UserWorld (world secret)
unfolding world mill user_cp0 cp0.set cp0.fresh one_slot page with_entry user built_status refusal_by in_range cpu_in_range cp0_in_range entries_in_range control_in_range config_in_range status_in_range random_in_range tlb_in_range slots_in_range slot_in_range hi_in_range lo_in_range slot_at legal_mask trailing_ones count_trailing_zeros ones ones_in
accepted secret = record { accepted = refl; user = refl; locked = refl }

page_long : length page ≡ 4096
unfolding page
page_long = refl

entry_long : (secret : ℕ) → length (with_entry secret) ≡ 4104
unfolding with_entry page
entry_long secret = refl

page_same : (one other k : ℕ) → 0 + k < 4096 → get_or (with_entry one) k 0 ≡ get_or (with_entry other) k 0
unfolding with_entry
page_same one other k h =
    let l : k < length page = omega (arith, page_long) in
    get_or-append page (one ∷ replicate 7 0) 0 k l ∙ sym (get_or-append page (other ∷ replicate 7 0) 0 k l)

pub alike : (one other : ℕ) → Alike (world one) (world other)
unfolding world mill user_cp0 cp0.set cp0.fresh
alike one other =
    record {
      cpu = refl;
      cp0 = refl;
      regs = refl;
      slots = record { same = λ i h. inl refl };
      lines = refl;
      ram = record {
        long = entry_long one ∙ sym (entry_long other);
        same = λ k r. page_same one other k (below (record { 0 = r.from }) (paddr (0 + k)) r.half r.leads);
      };
      rom = record { long = refl; same = λ k r. refl };
    }

-- the entry is the byte of RAM after the page, so two entries differ there
pub differ : (secret : ℕ) → get_or (with_entry secret) 4096 0 ≡ secret
unfolding with_entry page
differ secret = refl

-- and the program that tries to read it runs alike in both
pub runs_alike : (one other : ℕ) → SameRun (world one) (world other) 1
runs_alike one other = isolation (world one) (world other) (accepted one) (accepted other) (alike one other) 1 (begins (world one) (accepted one))
