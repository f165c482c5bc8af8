-- In each case its number is given, about what the case says: the tests stand in the definition's order, and all before it pass.
use Prim.Native.Nat.{ℕ, zero, suc, ◌+◌, ◌<◌, ◌≤◌}
use mathlib.Core.Bool.{Bool, true, false}
use mathlib.Core.List.{List}
use mathlib.Core.Path.{◌≡◌, refl, ap, ◌∙◌}
use native.Mathlib.Decide.{ℕ_discrete}
use native.Mathlib.Omega.{arith}
use borrow.Author.Tests.{eq-eqb, ne_eqb, le-leb, lt-leb}
use lib.ListN.{length}
use Rattle.std.specs.Prelude.{Ok, Err}
use Rattle.promise.specs.Pick.{pick}
use Rattle.elf.specs.declared.Fault.{Fault}
use Rattle.elf.specs.declared.Fault.TheVariants.{NotElf, Short, Class, Order, Machine, Unlinked, HeaderSize, TooMany, NoTable, NotStored, MoreInFile, TooLarge, Leaves, Shared, NoSegment, NoEntry}
use Rattle.elf.specs.declared.Space.{Space}
use Rattle.elf.specs.Header.{header, count, loads}
use Rattle.elf.specs.Home.{outside}
use Rattle.elf.specs.Faults.{Verdict, number, about, number_of, about_of, none, or, head_fault, table_fault, overlaps, segment_fault, header_fault, segments_fault, any_segment, file_fault, enters, program_fault}
use Rattle.elf.specs.Exact as E
use Rattle.elf.specs.Exact.{Headed, Tabled, IsSegment, Stored, Sized, NotTooLarge, Overlaps, Fine, First, Loadable, FileWhy, no_elf, cut_short, not_32_bit, not_big_endian, not_mips, not_linked, another_size, too_many, not_held, not_stored, more_in_file, too_large, leaves, shared, nothing, loadable, Why, refused, no_entry, accepted, Gives}
use Rattle.elf.proofs.Reflect.{Reflects, holds, fails, leaves_is, overlaps_is, Any, any_is, enters_is}

-- a fault has its number, and is about what it says
said : (v : Verdict) (f : Fault) → v ≡ Err f → Gives v (number f) (about f)
said v f e = (ap number_of e, ap about_of e)

-- of two faults the first counts, and the second where the first is none
or_first : (v w : Verdict) (f : Fault) → v ≡ Err f → or v w ≡ Err f
or_first v w f e = ap (λ (k : Verdict). or k w) e

or_gives : (v w : Verdict) (n a : ℕ) → Gives v n a → 0 < n → Gives (or v w) n a
or_gives (Ok _) w n a g l = absurd (omega (arith, g.0))
or_gives (Err f) w n a g l = g

or_next : (v w : Verdict) → v ≡ none → or v w ≡ w
or_next v w e = ap (λ (k : Verdict). or k w) e

module _ (file : List ℕ) where
  head_none : Headed file → head_fault file ≡ none
  unfolding head_fault
  head_none h = simp (eq-eqb _ _ h.elf, le-leb _ _ h.whole, eq-eqb _ _ h.class, eq-eqb _ _ h.order, eq-eqb _ _ h.machine, eq-eqb _ _ h.linked)

  table_none : Tabled file → table_fault file ≡ none
  unfolding table_fault
  table_none t = simp (eq-eqb _ _ t.size, le-leb _ _ t.few, le-leb _ _ t.held)

module _ (space : Space) (file : List ℕ) where
  -- ---- the parts of a file in their order

  by_head : (f : Fault) → head_fault file ≡ Err f → file_fault space file ≡ Err f
  unfolding file_fault
  by_head f e = or_first (head_fault file) _ f e

  by_table : Headed file → (f : Fault) → table_fault file ≡ Err f → file_fault space file ≡ Err f
  unfolding file_fault
  by_table h f e = or_next (head_fault file) _ (head_none file h) ∙ or_first (table_fault file) _ f e

  by_segments : Headed file → Tabled file → (f : Fault) → segments_fault space file (count file) 0 ≡ Err f → file_fault space file ≡ Err f
  unfolding file_fault
  by_segments h t f e =
      or_next (head_fault file) _ (head_none file h)
      ∙ or_next (table_fault file) _ (table_none file t)
      ∙ or_first (segments_fault space file (count file) 0) _ f e

  by_all : Headed file → Tabled file → segments_fault space file (count file) 0 ≡ none → file_fault space file ≡ pick (any_segment file (count file) 0) none (Err NoSegment)
  unfolding file_fault
  by_all h t e =
      or_next (head_fault file) _ (head_none file h)
      ∙ or_next (table_fault file) _ (table_none file t)
      ∙ or_next (segments_fault space file (count file) 0) _ e

  -- ---- one segment

  module _ (i : ℕ) (segment : IsSegment file i) (before : (j : ℕ) → j < i → IsSegment file j → Fine space file j) where
    -- the test of an overlap, with all segments before it fine
    pub overlap_said : Sized file i → Reflects (overlaps space file (header file i) i 0) (Overlaps space file i)
    overlap_said s = overlaps_is space file i segment.1 s (λ j l t. (before j l (omega (arith, segment.0), t)).sized)

    fine_none : Fine space file i → header_fault space file i ≡ none
    unfolding header_fault segment_fault
    fine_none f =
        simp (segment.1, le-leb _ _ f.stored, le-leb _ _ f.sized, le-leb _ _ f.small, fails (outside space (header file i)) (leaves_is space (header file i)) f.inside, fails (overlaps space file (header file i) i 0) (overlap_said f.sized) f.apart)

    gives_10 : length file < (header file i).offset + (header file i).filesz → header_fault space file i ≡ Err (NotStored i)
    unfolding header_fault segment_fault
    gives_10 l = simp (segment.1, lt-leb _ _ l)

    gives_11 : Stored file i → (header file i).memsz < (header file i).filesz → header_fault space file i ≡ Err (MoreInFile i)
    unfolding header_fault segment_fault
    gives_11 s l = simp (segment.1, le-leb _ _ s, lt-leb _ _ l)

    gives_12 : Stored file i → Sized file i → 65536 < (header file i).memsz → header_fault space file i ≡ Err (TooLarge i)
    unfolding header_fault segment_fault
    gives_12 s z l = simp (segment.1, le-leb _ _ s, le-leb _ _ z, lt-leb _ _ l)

    gives_13 : Stored file i → Sized file i → NotTooLarge file i → E.Leaves space file i → header_fault space file i ≡ Err (Leaves i)
    unfolding header_fault segment_fault
    gives_13 s z m o = simp (segment.1, le-leb _ _ s, le-leb _ _ z, le-leb _ _ m, holds (outside space (header file i)) (leaves_is space (header file i)) o)

    gives_14 : Stored file i → Sized file i → NotTooLarge file i → (E.Leaves space file i → ⊥) → Overlaps space file i → header_fault space file i ≡ Err (Shared i)
    unfolding header_fault segment_fault
    gives_14 s z m n o = simp (segment.1, le-leb _ _ s, le-leb _ _ z, le-leb _ _ m, fails (outside space (header file i)) (leaves_is space (header file i)) n, holds (overlaps space file (header file i) i 0) (overlap_said z) o)

  -- ---- all segments

  header_none : (i : ℕ) → i < count file → ((j : ℕ) → j ≤ i → IsSegment file j → Fine space file j) → header_fault space file i ≡ none
  unfolding header_fault
  header_none i l f = go (loads file (header file i)) refl
    where
      go : (b : Bool) → loads file (header file i) ≡ b → header_fault space file i ≡ none
      go true t = fine_none i (l, t) (λ j m s. f j (omega arith) s) (f i (omega arith) (l, t))
      go false t = simp t

  first_given : (left k i : ℕ) (f : Fault) → k ≤ i → i < k + left → ((j : ℕ) → j < i → header_fault space file j ≡ none) → header_fault space file i ≡ Err f → segments_fault space file left k ≡ Err f
  unfolding segments_fault
  first_given zero k i f l u none_before e = absurd (omega arith)
  first_given (suc left) k i f l u none_before e = go (λ m. first_given left (k + 1) i f m (omega arith) none_before e) (ℕ_discrete k i)
    where
      go : (k + 1 ≤ i → segments_fault space file left (k + 1) ≡ Err f) → Dec (k ≡ i) → segments_fault space file (suc left) k ≡ Err f
      go rest (yes d) = rw d (or_first _ _ f e)
      go rest (no m) = or_next _ _ (none_before k (omega arith)) ∙ rest (omega arith)

  none_given : (left k : ℕ) → ((j : ℕ) → j < k + left → header_fault space file j ≡ none) → segments_fault space file left k ≡ none
  unfolding segments_fault
  none_given zero k f = refl
  none_given (suc left) k f = simp (f k (omega arith)) (none_given left (k + 1) (λ j l. f j (omega arith)))

  by_first : (i : ℕ) (f : Fault) → First space file i → header_fault space file i ≡ Err f → file_fault space file ≡ Err f
  by_first i f s e =
      by_segments s.headed s.tabled f (first_given (count file) 0 i f (omega arith) (omega (arith, s.segment.0)) (λ j m. header_none j (omega (arith, s.segment.0)) (λ k q t. s.before k (omega arith) t)) e)

  all_fine : ((i : ℕ) → IsSegment file i → Fine space file i) → segments_fault space file (count file) 0 ≡ none
  all_fine f = none_given (count file) 0 (λ j l. header_none j (omega arith) (λ k m s. f k s))

  -- ---- the file, and the program

  loadable_none : Loadable space file → file_fault space file ≡ none
  loadable_none k =
      by_all k.headed k.tabled (all_fine k.segments)
      ∙ simp (holds (any_segment file (count file) 0) (any_is file) (record { one = k.one; segment = k.segment }))

  pub file_given : {n a : ℕ} → FileWhy space file n a → Gives (file_fault space file) n a
  unfolding head_fault table_fault
  file_given (no_elf p) = said _ NotElf (by_head _ (simp (ne_eqb _ _ p)))
  file_given (cut_short p q) = said _ (Short _) (by_head _ (simp (eq-eqb _ _ p, lt-leb _ _ q)))
  file_given (not_32_bit p q r) = said _ (Class _) (by_head _ (simp (eq-eqb _ _ p, le-leb _ _ q, ne_eqb _ _ r)))
  file_given (not_big_endian p q r s) = said _ (Order _) (by_head _ (simp (eq-eqb _ _ p, le-leb _ _ q, eq-eqb _ _ r, ne_eqb _ _ s)))
  file_given (not_mips p q r s t) = said _ (Machine _) (by_head _ (simp (eq-eqb _ _ p, le-leb _ _ q, eq-eqb _ _ r, eq-eqb _ _ s, ne_eqb _ _ t)))
  file_given (not_linked p q r s t u) = said _ (Unlinked _) (by_head _ (simp (eq-eqb _ _ p, le-leb _ _ q, eq-eqb _ _ r, eq-eqb _ _ s, eq-eqb _ _ t, ne_eqb _ _ u)))
  file_given (another_size h p) = said _ (HeaderSize _) (by_table h _ (simp (ne_eqb _ _ p)))
  file_given (too_many h p q) = said _ (TooMany _) (by_table h _ (simp (eq-eqb _ _ p, lt-leb _ _ q)))
  file_given (not_held h p q r) = said _ (NoTable _) (by_table h _ (simp (eq-eqb _ _ p, le-leb _ _ q, lt-leb _ _ r)))
  file_given (not_stored {i} f p) = said _ (NotStored i) (by_first i _ f (gives_10 i f.segment f.before p))
  file_given (more_in_file {i} f p q) = said _ (MoreInFile i) (by_first i _ f (gives_11 i f.segment f.before p q))
  file_given (too_large {i} f p q r) = said _ (TooLarge i) (by_first i _ f (gives_12 i f.segment f.before p q r))
  file_given (leaves {i} f p q r s) = said _ (Leaves i) (by_first i _ f (gives_13 i f.segment f.before p q r s))
  file_given (shared {i} f p q r s t) = said _ (Shared i) (by_first i _ f (gives_14 i f.segment f.before p q r s t))
  file_given (nothing h t n) =
      said _ NoSegment
      (by_all h t (all_fine (λ i s. absurd (n i s)))
      ∙ simp (fails (any_segment file (count file) 0) (any_is file) (λ (s : Any file). n s.one s.segment)))
  file_given (loadable k) = (ap number_of (loadable_none k), ap about_of (loadable_none k))

  pub program_given : {n a : ℕ} → Why space file n a → Gives (program_fault space file) n a
  unfolding program_fault
  program_given (refused {number = n} {about = a} l w) = or_gives (file_fault space file) _ n a (file_given w) l
  program_given (no_entry k n) = said _ (NoEntry _) (or_next (file_fault space file) _ (loadable_none k) ∙ simp (fails (enters file) (enters_is file) n))
  program_given (accepted k e) =
      let p : program_fault space file ≡ none = or_next (file_fault space file) _ (loadable_none k) ∙ simp (holds (enters file) (enters_is file) e) in
      (ap number_of p, ap about_of p)
