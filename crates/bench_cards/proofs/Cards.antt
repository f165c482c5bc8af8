-- The twelve bench cards hold: by computation, but for those over every memory (7, 8), every TLB (10) and every CP0 (11).
use Prim.Native.Nat.{ℕ, ◌+◌}
use mathlib.Core.Path.{refl, ap, ◌∙◌}
use lib.Count.{ones, ones_in, count_trailing_zeros}
use Rattle.word.specs.Extend.{register, extend}
use Rattle.word.specs.Word.{extend_byte, extend as extendWord}
use Rattle.word.specs.Sum.{sum, checked, checked_sum}
use Rattle.word.specs.Shift.{right_signed}
use Rattle.word.specs.Product.{halves, product_unsigned}
use Rattle.word.specs.Quotient.{divided, quotient}
use Rattle.memory.specs.Bytes.{with_bytes}
use Rattle.memory.specs.Loads.{lb, lbu}
use Rattle.memory.specs.Unaligned.{lwl}
use Rattle.memory.specs.Stores.{put_bytes}
use Rattle.tlb.specs.PageMask.{legal_mask, trailing_ones, page_bits}
use Rattle.tlb.specs.Slot.{slot_at, stored, cleared, both_global}
use Rattle.tlb.specs.Match.{agree, same_space, hits, matches_at, more, seek, lookup}
use Rattle.tlb.specs.Translate.{vaddr, physical, lo_of, through, through_slot}
use Rattle.tlb.specs.Segments.{aligned, extended}
use Rattle.cp0.specs.Registers.{set, only}
use Rattle.cp0.specs.Exceptions.{told, addressed, entered}
use Rattle.execute.specs.Arithmetic.{trapping, arithmetic}
use Rattle.execute.specs.Multiply.{to_hi_lo, multiply}
use Rattle.execute.specs.Shifts.{shift}
use Rattle.execute.specs.LoadStore.{finish}
use Rattle.access.specs.Effect.{turned, raised}
use Rattle.access.specs.Access.{sending, sent}
use Rattle.effect.specs.Step.{asked}
use Rattle.card.specs.Machine.{fresh_slots, fresh}
use Rattle.card.specs.Step.{put_reg}
use Rattle.bench_cards.specs.Cards.{Cards}
use Rattle.bench_cards.proofs.Loaded.{byte_at, first_four}
use Rattle.bench_cards.proofs.Goes.{goes, granted}

pub cards : Cards
unfolding register extend sum checked checked_sum right_signed halves product_unsigned divided quotient with_bytes lb lbu lwl put_bytes legal_mask trailing_ones page_bits ones ones_in count_trailing_zeros slot_at stored cleared both_global agree same_space hits matches_at more seek lookup physical lo_of through through_slot aligned extended set told addressed entered trapping arithmetic to_hi_lo multiply shift finish turned raised sending sent asked fresh_slots fresh put_reg
cards =
    record {
      card_1 = λ rd. refl;
      card_2 = λ rd. refl;
      card_2_kept = λ cpu cp regs tlb look value rd. refl;
      card_3 = refl;
      card_4 = refl;
      card_5 = refl;
      card_6 = λ rd. refl;
      card_7 = λ eight p old b h. ap extend_byte (byte_at eight p b ∙ h);
      card_7_unsigned = λ eight p old b h. byte_at eight p b ∙ h;
      card_8 = λ others b. ap (λ (w : ℕ). extendWord (with_bytes 0xaabbccdd 1 3 w)) (first_four others b);
      card_9 = refl;
      card_9_not = refl;
      card_10 = λ mode tlb i align g. goes mode tlb i align (vaddr 0x00400123) g refl refl refl;
      card_10_invalid = λ mode tlb i align g. goes mode tlb i align (vaddr 0x00401000) g refl refl refl;
      card_10_fresh = λ i h. (granted (vaddr 0x00400123) refl refl i h, granted (vaddr 0x00401000) refl refl i h);
      card_11 = λ c pc slot e. ap (λ (x : ℕ). only x 23 41 + 0x2000) e;
      card_11_store = λ c pc slot e. ap (λ (x : ℕ). only x 23 41 + 0x2000) e;
      card_12 = λ ram rt value n p. refl;
      card_12_rt = λ rt value n p. (refl, refl);
    }
