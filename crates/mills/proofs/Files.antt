-- An image that was made: no file has a fault, the RAM was not full, and the reader gives back what was placed.
use Prim.Native.Nat.{ℕ, zero, suc, ◌+◌, ◌^◌, ◌<◌, ◌≤◌}
use native.Mathlib.Omega.{arith}
use mathlib.Core.Path.{◌≡◌, refl, sym, ap, ◌∙◌}
use mathlib.Core.Bool.{Bool, true, false}
use mathlib.Core.List.{List}
use Rattle.std.specs.Prelude.{Option, Some, None, Result, Ok, Err}
use lib.Dec.{eqb, leb, ltb}
use lib.ListN.{length, take, drop}
use lib.Seq.{sets, sets-eq, take-append_seam}
use borrow.Author.Tests.{leb-true, eqb-true, eqb-false, ne_eqb, ltb-true}
use Rattle.tlb.specs.Slot.{asid_of}
use Rattle.cp0.specs.declared.Cp0.{Cp0}
use Rattle.cp0.specs.Status.{CU0, user}
use Rattle.effect.specs.declared.Cpu.{Cpu}
use Rattle.elf.specs.declared.Space.TheVariants.{User, Kernel}
use Rattle.elf.specs.Faults as E
use Rattle.elf.proofs.Sound as sound
use Rattle.std.specs.Cmp.Lexicographic.{same_text}
use Rattle.image.specs.declared.Refusal as image
use Rattle.image.specs.Image.{image_of, ram_after}
use Rattle.place.specs.declared.Difference.{Difference}
use Rattle.place.specs.declared.Difference.TheVariants.{Slots, Bytes, Mode, Cu0, Asid, Start}
use Rattle.place.specs.declared.Refusal.{Refusal}
use Rattle.place.specs.declared.Refusal.TheVariants.{NoCode, TooLong, NoImage, Undone}
use Rattle.place.specs.Plan.{plan_of}
use Rattle.place.specs.Ram.{ram_of}
use Rattle.place.specs.Made.{Verdict, none, or, of_file, kernel_fault, kernel_refusal, program_refusal, programs_refusal, blank, vector_refusal, files_refusal, full_refusal, early, text_of, same, unlike, undone, read_refusal, text_made, made_of, out_after, zeros}

-- nothing is refused, and then what comes after
or_none : {A : Type 0} (v : Verdict) (b : Result A Refusal) (x : A) → or v b ≡ Ok x → (v ≡ none) × (b ≡ Ok x)
or_none (Ok _) b x e = (refl, e)
or_none (Err r) b x e = cc

file_none : (k : ℕ) (v : E.Verdict) → of_file k v ≡ none → v ≡ E.none
file_none k (Ok _) e = refl
file_none k (Err f) e = cc

programs_none : (file : ℕ → List ℕ) (left k : ℕ) → programs_refusal file left k ≡ none → (b : ℕ) → k ≤ b → b < k + left → E.program_fault User (file b) ≡ E.none
unfolding programs_refusal program_refusal
programs_none file zero k e b l u = absurd (omega arith)
programs_none file (suc left) k e b l u =
    let o = or_none (of_file k (E.program_fault User (file k))) (programs_refusal file left (k + 1)) tt e in
    go (λ h. programs_none file left (k + 1) o.1 b h (omega arith)) (file_none k (E.program_fault User (file k)) o.0) (eqb b k) refl
  where
    go : (k + 1 ≤ b → E.program_fault User (file b) ≡ E.none) → E.program_fault User (file k) ≡ E.none → (t : Bool) → eqb b k ≡ t → E.program_fault User (file b) ≡ E.none
    go r f true t = ap (λ (x : ℕ). E.program_fault User (file x)) (eqb-true _ _ t) ∙ f
    go r f false t = let n : b ≡ k → ⊥ = eqb-false _ _ t in r (omega arith)

full_none : (file : List ℕ) (full : Option ℕ) → full_refusal file full ≡ none → full ≡ None
full_none file None e = refl
full_none file (Some k) e = cc

-- two lists of the same numbers are equal
pub same_equal : (a b : List ℕ) → same a b ≡ true → a ≡ b
same_equal a b e = same_text a b (sym e)

-- a machine that is as a User program's is to start
pub record Like (cpu : Cpu) (cp0 : Cp0) : Type 0 where
  pub user_mode : user cp0.status ≡ true
  pub locked : CU0 cp0.status ≡ false
  pub first : asid_of cp0.entryhi ≡ 1
  pub from : cpu.pc < 2 ^ 31

unlike_none : (cpu : Cpu) (cp0 : Cp0) → unlike cpu cp0 ≡ Ok tt → Like cpu cp0
unfolding unlike
unlike_none cpu cp0 e = a (user cp0.status) (CU0 cp0.status) (eqb (asid_of cp0.entryhi) 1) (ltb cpu.pc (2 ^ 31)) refl refl refl refl
  where
    some : {d : Difference} → ◌≡◌ {A = Result (Unit {0}) Difference} (Err d) (Ok tt) → Like cpu cp0
    some z = cc

    a : (t u v w : Bool) → user cp0.status ≡ t → CU0 cp0.status ≡ u → eqb (asid_of cp0.entryhi) 1 ≡ v → ltb cpu.pc (2 ^ 31) ≡ w → Like cpu cp0
    a true false true true p q r s = record { user_mode = p; locked = q; first = eqb-true _ _ r; from = ltb-true _ _ s }
    a false u v w p q r s = some {d = Mode} (rw p at e)
    a true true v w p q r s = some {d = Cu0} (rw (p, q) at e)
    a true false false w p q r s = some {d = Asid} (rw (p, q, r) at e)
    a true false true false p q r s = some {d = Start} (rw (p, q, r, s) at e)

-- a text for which no refusal was given is as long as it says, and fits; nor did the reader's machine give one
record Made (text : List ℕ) (n : ℕ) (tlb ram : List ℕ) (long : ℕ) : Type 0 where
  long_is : long ≡ length text
  fits : length text ≤ 65536
  kept : read_refusal text n tlb ram ≡ none

text_none : (text : List ℕ) (n : ℕ) (tlb ram : List ℕ) (long : ℕ) → text_made text n tlb ram ≡ Ok long → Made text n tlb ram long
unfolding text_made
text_none text n tlb ram long e = go (leb (length text) 65536) refl
  where
    go : (t : Bool) → leb (length text) 65536 ≡ t → Made text n tlb ram long
    go true p =
        let o = or_none (read_refusal text n tlb ram) (Ok (length text)) long (rw p at e) in
        record { long_is = let z = o.1 in cc; fits = leb-true _ _ p; kept = o.0 }
    go false p = let z : Err (TooLong (length text)) ≡ Ok long = rw p at e in cc

-- a text that was written into a buffer with room for it stands at its start
sets_take : (was text : List ℕ) → length text ≤ length was → take (length text) (sets was 0 text) ≡ text
sets_take was text h = ap (λ (l : List ℕ). take (length text) l) (sets-eq text was 0 (omega arith)) ∙ take-append_seam text (drop (0 + length text) was)

-- what the reader makes of a text is what was placed, as a User program's is to start
pub record Back (text tlb ram : List ℕ) : Type 0 where
  pub read : (image_of text zeros).refusal ≡ None
  pub slots : (image_of text zeros).machine.tlb ≡ tlb
  pub bytes : ram_after text zeros ≡ ram
  pub like : Like (image_of text zeros).machine.cpu (image_of text zeros).machine.cp0

read_back : (text : List ℕ) (n : ℕ) (tlb ram : List ℕ) → 1 ≤ n → read_refusal text n tlb ram ≡ none → Back text tlb ram
unfolding read_refusal undone
read_back text n tlb ram some e =
    go (image_of text zeros).refusal (same (image_of text zeros).machine.tlb tlb) (same (ram_after text zeros) ram) (unlike (image_of text zeros).machine.cpu (image_of text zeros).machine.cp0) refl refl refl refl
  where
    programs : eqb n 0 ≡ false
    programs = let z : n ≡ 0 → ⊥ = λ d. absurd (omega arith) in ne_eqb _ _ z

    lost : {r : Refusal} → ◌≡◌ {A = Verdict} (Err r) none → Back text tlb ram
    lost z = cc

    go : (t : Option image.Refusal) (u v : Bool) (w : Result (Unit {0}) Difference) → (image_of text zeros).refusal ≡ t → same (image_of text zeros).machine.tlb tlb ≡ u → same (ram_after text zeros) ram ≡ v → unlike (image_of text zeros).machine.cpu (image_of text zeros).machine.cp0 ≡ w → Back text tlb ram
    go None true true (Ok _) p q r s =
        record {
          read = p;
          slots = same_equal _ _ q;
          bytes = same_equal _ _ r;
          like = unlike_none _ _ s;
        }
    go (Some x) u v w p q r s = lost {r = NoImage x.number} (rw p at e)
    go None false v w p q r s = lost {r = Undone Slots} (rw (p, programs, q) at e)
    go None true false w p q r s = lost {r = Undone Bytes} (rw (p, programs, q, r) at e)
    go None true true (Err d) p q r s = lost {r = Undone d} (rw (p, programs, q, r, s) at e)

module _ (file : ℕ → List ℕ) (n : ℕ) (settings : List ℕ) (some : 1 ≤ n) (long : ℕ) (done : made_of file n settings ≡ Ok long) where
  early_text : (early file n ≡ none) × (text_made (text_of file n settings) n (plan_of file n).tlb (ram_of file n) ≡ Ok long)
  unfolding made_of
  early_text = or_none (early file n) (text_made (text_of file n settings) n (plan_of file n).tlb (ram_of file n)) long done

  files_full : (files_refusal file n ≡ none) × (full_refusal (file 0) (plan_of file n).full ≡ none)
  unfolding early
  files_full = or_none (files_refusal file n) (full_refusal (file 0) (plan_of file n).full) tt early_text.0

  pub not_full : (plan_of file n).full ≡ None
  not_full = full_none (file 0) (plan_of file n).full files_full.1

  kernel_rest : (kernel_refusal (file 0) n ≡ none) × (or (programs_refusal file n 1) (vector_refusal (file 0) n) ≡ none)
  unfolding files_refusal
  kernel_rest = or_none (kernel_refusal (file 0) n) (or (programs_refusal file n 1) (vector_refusal (file 0) n)) tt files_full.0

  programs_vectors : (programs_refusal file n 1 ≡ none) × (vector_refusal (file 0) n ≡ none)
  programs_vectors = or_none (programs_refusal file n 1) (vector_refusal (file 0) n) tt kernel_rest.1

  programs : eqb n 0 ≡ false
  programs = let z : n ≡ 0 → ⊥ = λ d. absurd (omega arith) in ne_eqb _ _ z

  pub kernel_sound : E.file_fault Kernel (file 0) ≡ E.none
  unfolding kernel_refusal kernel_fault
  kernel_sound = file_none 0 (E.file_fault Kernel (file 0)) (rw programs at kernel_rest.0)

  pub vectors_sound : (blank (file 0) 0 ≡ false) × (blank (file 0) 0x180 ≡ false)
  unfolding vector_refusal
  vectors_sound = go (blank (file 0) 0) (blank (file 0) 0x180) refl refl
    where
      lost : {v : ℕ} → ◌≡◌ {A = Verdict} (Err (NoCode v)) none → (blank (file 0) 0 ≡ false) × (blank (file 0) 0x180 ≡ false)
      lost z = cc

      go : (t u : Bool) → blank (file 0) 0 ≡ t → blank (file 0) 0x180 ≡ u → (blank (file 0) 0 ≡ false) × (blank (file 0) 0x180 ≡ false)
      go false false p q = (p, q)
      go true u p q = lost {v = 0} (rw (programs, p) at programs_vectors.1)
      go false true p q = lost {v = 0x180} (rw (programs, p, q) at programs_vectors.1)

  pub program_sound : (b : ℕ) → 1 ≤ b → b ≤ n → E.file_fault User (file b) ≡ E.none
  unfolding E.program_fault
  program_sound b l u = (sound.or_none (E.file_fault User (file b)) _ (programs_none file n 1 programs_vectors.0 b l (omega arith))).0

  text : Made (text_of file n settings) n (plan_of file n).tlb (ram_of file n) long
  text = text_none (text_of file n settings) n (plan_of file n).tlb (ram_of file n) long early_text.1

  pub back : Back (text_of file n settings) (plan_of file n).tlb (ram_of file n)
  back = read_back (text_of file n settings) n (plan_of file n).tlb (ram_of file n) some text.kept

  pub printed : (out : List ℕ) → length out ≡ 65536 → take long (out_after file n settings out) ≡ text_of file n settings
  unfolding out_after
  printed out h = rw (early_text.0, text.long_is) (sets_take out (text_of file n settings) (omega (arith, text.fits)))
