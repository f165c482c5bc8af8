-- Refusals of a file are exact: for every file there is a case, and in each case its number is given.
use Prim.Native.Nat.{ℕ, zero, suc, ◌+◌, ◌*◌, ◌<◌, ◌≤◌}
use mathlib.Core.Bool.{Bool, true, false}
use mathlib.Core.List.{List}
use mathlib.Core.Logic.{◌↔◌, ◌⊎◌, inl, inr}
use mathlib.Core.Path.{◌≡◌, refl, sym, ap, ◌∙◌, subst}
use native.Mathlib.Decide.{ℕ_discrete}
use native.Mathlib.Omega.{arith}
use borrow.Author.Tests.{leb-true, leb-false}
use lib.Dec.{leb}
use lib.ListN.{length}
use Rattle.elf.specs.declared.Space.{Space}
use Rattle.elf.specs.declared.Space.TheVariants.{User}
use Rattle.elf.specs.Bytes.{byte, half, word}
use Rattle.elf.specs.Header.{table, count, entry, header, loads}
use Rattle.elf.specs.Home.{outside}
use Rattle.elf.specs.Faults.{Verdict, number_of, none, overlaps, any_segment, file_fault, enters, program_fault}
use Rattle.elf.specs.Exact.{Headed, Tabled, IsSegment, Fine, First, Loadable, Enters, FileWhy, no_elf, cut_short, not_32_bit, not_big_endian, not_mips, not_linked, another_size, too_many, not_held, not_stored, more_in_file, too_large, leaves, shared, nothing, loadable, Why, refused, no_entry, accepted, Gives, Exact}
use Rattle.elf.proofs.Laws.{never}
use Rattle.elf.proofs.Sound.{or_none}
use Rattle.elf.proofs.Standing.{inside_user}
use Rattle.elf.proofs.Reflect.{test, leaves_is, Any, any_is, enters_is}
use Rattle.elf.proofs.Given.{overlap_said, file_given, program_given}

-- two numbers differ, or are equal; the first is above the second, or at most it
is : {A : Type 0} (a b : ℕ) → ((a ≡ b → ⊥) → A) → (a ≡ b → A) → A
is {A} a b f g = go (ℕ_discrete a b)
  where
    go : Dec (a ≡ b) → A
    go (yes e) = g e
    go (no n) = f n

most : {A : Type 0} (a b : ℕ) → (b < a → A) → (a ≤ b → A) → A
most {A} a b f g = go (leb a b) refl
  where
    go : (t : Bool) → leb a b ≡ t → A
    go true e = g (leb-true a b e)
    go false e = f (leb-false a b e)

-- some number is why, and about something
record Some (W : ℕ → ℕ → Type 0) : Type 0 where
  number : ℕ
  about : ℕ
  why : W number about

-- where every case gives its number, and there is a case, a number is given just in its case
just : (W : ℕ → ℕ → Type 0) (v : Verdict) → ((n a : ℕ) → W n a → Gives v n a) → Some W → (n a : ℕ) → Gives v n a ↔ W n a
just W v give s n a =
    let e = give s.number s.about s.why in (
      λ g. subst (λ (k : ℕ). W k a) (sym e.0 ∙ g.0) (subst (W s.number) (sym e.1 ∙ g.1) s.why),
      λ w. give n a w,
    )

module _ (space : Space) (file : List ℕ) where
  abbrev SomeFile : Type 0
  SomeFile = Some (FileWhy space file)

  given : {n a : ℕ} → FileWhy space file n a → SomeFile
  given {n} {a} w = record { number = n; about = a; why = w }

  -- a segment has one of the five faults, or none
  judged : (i : ℕ) → First space file i → SomeFile ⊎ Fine space file i
  judged i f =
      most ((header file i).offset + (header file i).filesz) (length file) (λ l. inl (given (not_stored f l)))
      (λ stored.
      most (header file i).filesz (header file i).memsz (λ l. inl (given (more_in_file f stored l)))
      (λ sized.
      most (header file i).memsz 65536 (λ l. inl (given (too_large f stored sized l)))
      (λ small.
      test (outside space (header file i)) (leaves_is space (header file i)) (λ o. inl (given (leaves f stored sized small o)))
      (λ inside.
      test (overlaps space file (header file i) i 0) (overlap_said space file i f.segment f.before sized) (λ o. inl (given (shared f stored sized small inside o)))
      (λ apart. inr (record { stored = stored; sized = sized; small = small; inside = inside; apart = apart }))))))

  module _ (headed : Headed file) (tabled : Tabled file) where
    abbrev FineBelow : ℕ → Type 0
    FineBelow i = (j : ℕ) → j < i → IsSegment file j → Fine space file j

    one_more : (i : ℕ) → FineBelow i → (IsSegment file i → Fine space file i) → FineBelow (i + 1)
    one_more i before f j l s = go (ℕ_discrete j i)
      where
        go : Dec (j ≡ i) → Fine space file j
        go (yes e) = subst (λ (k : ℕ). Fine space file k) (sym e) (f (subst (IsSegment file) e s))
        go (no n) = before j (omega arith) s

    -- some segment has a fault, or all are fine
    walk : (left i : ℕ) → i + left ≡ count file → FineBelow i → SomeFile ⊎ FineBelow (count file)
    walk zero i e before = inr (λ j l s. before j (omega arith) s)
    walk (suc left) i e before = go (λ f. walk left (i + 1) (omega arith) (one_more i before f)) (loads file (header file i)) refl
      where
        go : ((IsSegment file i → Fine space file i) → SomeFile ⊎ FineBelow (count file)) → (b : Bool) → loads file (header file i) ≡ b → SomeFile ⊎ FineBelow (count file)
        go rest true t = next (judged i (record { headed = headed; tabled = tabled; segment = (omega arith, t); before = before }))
          where
            next : SomeFile ⊎ Fine space file i → SomeFile ⊎ FineBelow (count file)
            next (inl s) = inl s
            next (inr f) = rest (λ s. f)
        go rest false t = rest (λ s. absurd (never (loads file (header file i)) s.1 t))

    of_segments : SomeFile
    of_segments = go (walk (count file) 0 (omega arith) (λ j l s. absurd (omega arith)))
      where
        go : SomeFile ⊎ FineBelow (count file) → SomeFile
        go (inl s) = s
        go (inr f) =
            test (any_segment file (count file) 0) (any_is file)
            (λ (s : Any file). given (loadable (record { headed = headed; tabled = tabled; segments = λ i t. f i t.0 t; one = s.one; segment = s.segment })))
            (λ n. given (nothing headed tabled (λ i s. n (record { one = i; segment = s }))))

  some_file : SomeFile
  some_file =
      is (word file 0) 0x7f454c46 (λ n. given (no_elf n))
      (λ elf.
      most 52 (length file) (λ n. given (cut_short elf n))
      (λ whole.
      is (byte file 4) 1 (λ n. given (not_32_bit elf whole n))
      (λ class.
      is (byte file 5) 2 (λ n. given (not_big_endian elf whole class n))
      (λ order.
      is (half file 18) 8 (λ n. given (not_mips elf whole class order n))
      (λ machine.
      is (half file 16) 2 (λ n. given (not_linked elf whole class order machine n))
      (λ linked.
      let headed : Headed file = record { elf = elf; whole = whole; class = class; order = order; machine = machine; linked = linked } in
      is (half file 42) 32 (λ n. given (another_size headed n))
      (λ size.
      most (count file) 32 (λ n. given (too_many headed size n))
      (λ few.
      most (table file + 32 * count file) (length file) (λ n. given (not_held headed size few n))
      (λ held. of_segments headed (record { size = size; few = few; held = held }))))))))))

  abbrev SomeProgram : Type 0
  SomeProgram = Some (Why space file)

  unrefused : (a : ℕ) → FileWhy space file 0 a → Loadable space file
  unrefused a (loadable k) = k

  some_program : SomeProgram
  some_program =
      most 1 some_file.number
      (λ l.
      let e : some_file.number ≡ 0 = omega arith in
      let k = unrefused some_file.about (subst (λ (n : ℕ). FileWhy space file n some_file.about) e some_file.why) in
      test (enters file) (enters_is file) (λ e. record { number = 0; about = 0; why = accepted k e })
      (λ m. record { number = 16; about = entry file; why = no_entry k m }))
      (λ l. record { number = some_file.number; about = some_file.about; why = refused l some_file.why })

  file_most : {n a : ℕ} → FileWhy space file n a → n ≤ 15
  file_most (no_elf p) = omega arith
  file_most (cut_short p q) = omega arith
  file_most (not_32_bit p q r) = omega arith
  file_most (not_big_endian p q r s) = omega arith
  file_most (not_mips p q r s t) = omega arith
  file_most (not_linked p q r s t u) = omega arith
  file_most (another_size h p) = omega arith
  file_most (too_many h p q) = omega arith
  file_most (not_held h p q r) = omega arith
  file_most (not_stored f p) = omega arith
  file_most (more_in_file f p q) = omega arith
  file_most (too_large f p q r) = omega arith
  file_most (leaves f p q r s) = omega arith
  file_most (shared f p q r s t) = omega arith
  file_most (nothing h t n) = omega arith
  file_most (loadable k) = omega arith

  program_most : {n a : ℕ} → Why space file n a → n ≤ 16
  program_most (refused l w) = omega (arith, file_most w)
  program_most (no_entry k n) = omega arith
  program_most (accepted k e) = omega arith

  file_just : (n a : ℕ) → Gives (file_fault space file) n a ↔ FileWhy space file n a
  file_just = just (FileWhy space file) (file_fault space file) (λ n a w. file_given space file w) some_file

  program_just : (n a : ℕ) → Gives (program_fault space file) n a ↔ Why space file n a
  program_just = just (Why space file) (program_fault space file) (λ n a w. program_given space file w) some_program

  pub exact : Exact space file
  exact =
      record {
        file_exact = file_just;
        program_exact = program_just;
        no_other_of_file = file_most ((file_just _ _).0 (refl, refl));
        no_other = program_most ((program_just _ _).0 (refl, refl));
      }

  -- ---- a file that is not refused can be loaded, and a program can be entered

  pub file_loadable : file_fault space file ≡ none → Loadable space file
  file_loadable e = unrefused _ ((file_just 0 _).0 (ap number_of e, refl))

  entered : (a : ℕ) → Why space file 0 a → Enters file
  entered a (refused l w) = absurd (omega arith)
  entered a (accepted k e) = e

  pub program_enters : program_fault space file ≡ none → Enters file
  program_enters e = entered _ ((program_just 0 _).0 (ap number_of e, refl))

-- a User program is entered below the stack's page (L14, L16)
pub entry_user : (file : List ℕ) → program_fault User file ≡ none → entry file < 0x7ffff000
unfolding program_fault
entry_user file e =
    let s = program_enters User file e in
    omega (arith, s.below, inside_user file (or_none (file_fault User file) _ e).0 s.one s.segment.0 s.segment.1)
