-- The image of a kernel and programs, or why there is none.
use Rattle.std.specs.Prelude.{ℕ, zero, suc, ◌+◌, ◌^◌, Bool, nat_eq, List, Option, Some, None, Result, Ok, Err, ◌≡◌, eqb, leb, ltb, length, replicate}
use Rattle.std.specs.List.{list_all, range_with_len}
use Rattle.std.specs.Cmp.Lexicographic.{pointwise}
use Rattle.std.proofs.lemmas.List.Edits.{sets}
use Rattle.promise.specs.Pick.{pick, not}
use Rattle.tlb.specs.Slot.{asid_of}
use Rattle.cp0.specs.declared.Cp0.{Cp0}
use Rattle.cp0.specs.Status.{CU0, user}
use Rattle.effect.specs.declared.Cpu.{Cpu}
use Rattle.card.specs.declared.Machine.{Machine}
use Rattle.elf.specs.declared.Space.TheVariants.{User, Kernel}
use Rattle.elf.specs.Header.{entry}
use Rattle.elf.specs.Home.{stands}
use Rattle.elf.specs.Faults as E
use Rattle.elf.specs.Faults.{file_fault, program_fault}
use Rattle.image.specs.declared.Refusal as image
use Rattle.image.specs.Image.{image_of, ram_after}
use Rattle.answer.specs.Placed.{placed_text}
use Rattle.place.specs.declared.Difference.{Difference}
use Rattle.place.specs.declared.Difference.TheVariants.{Slots, Bytes, Mode, Cu0, Asid, Start}
use Rattle.place.specs.declared.Refusal.{Refusal}
use Rattle.place.specs.declared.Refusal.TheVariants.{File, NoCode, NoRoom, TooLong, NoImage, Undone}
use Rattle.place.specs.Plan.{kernel_pages, plan_of}
use Rattle.place.specs.Ram.{ram_of}

-- what was undone, by number (L27)
abbrev pub difference_number : Difference → ℕ
difference_number Slots = 1
difference_number Bytes = 2
difference_number Mode = 3
difference_number Cu0 = 4
difference_number Asid = 5
difference_number Start = 6

-- the number of a refusal (L5 to L16, L23 to L27)
abbrev pub number : Refusal → ℕ
number (File k f) = E.number f
number (NoCode v) = 17
number (NoRoom k pages) = 18
number (TooLong n) = 19
number (NoImage n) = 20
number (Undone d) = 21

-- the number of the file that it is of; 0 where it is of none (L2)
abbrev pub file : Refusal → ℕ
file (File k f) = k
file (NoCode v) = 0
file (NoRoom k pages) = k
file (TooLong n) = 0
file (NoImage n) = 0
file (Undone d) = 0

-- what it is about
abbrev pub about : Refusal → ℕ
about (File k f) = E.about f
about (NoCode v) = v
about (NoRoom k pages) = pages
about (TooLong n) = n
about (NoImage n) = n
about (Undone d) = difference_number d

-- whether something is refused
abbrev pub Verdict : Type 0
Verdict = Result (Unit {0}) Refusal

-- it is not
abbrev pub none : Verdict
none = Ok tt

-- a refusal, or what comes after it
abbrev pub or : {A : Type 0} → Verdict → Result A Refusal → Result A Refusal
or (Ok _) b = b
or (Err r) b = Err r

-- the number of an answer's refusal; 0 where there is none
abbrev pub number_of : {A : Type 0} → Result A Refusal → ℕ
number_of (Ok _) = 0
number_of (Err r) = number r

-- a fault of file k
abbrev pub of_file : ℕ → E.Verdict → Verdict
of_file k (Ok _) = none
of_file k (Err f) = Err (File k f)

-- the kernel's fault; alone, it is a program too (L4, L16)
unfoldable pub kernel_fault : List ℕ → ℕ → E.Verdict
kernel_fault file n = pick (eqb n 0) (program_fault Kernel file) (file_fault Kernel file)

unfoldable pub kernel_refusal : List ℕ → ℕ → Verdict
kernel_refusal file n = of_file 0 (kernel_fault file n)

-- the fault of program k
unfoldable pub program_refusal : (ℕ → List ℕ) → ℕ → Verdict
program_refusal file k = of_file k (program_fault User (file k))

-- the first fault of `left` programs from program k on (L4)
unfoldable pub programs_refusal : (ℕ → List ℕ) → ℕ → ℕ → Verdict
programs_refusal file zero k = none
programs_refusal file (suc left) k = or (program_refusal file k) (programs_refusal file left (k + 1))

-- the kernel's word at a physical address is 0: each of its four bytes (L23)
unfoldable pub blank : List ℕ → ℕ → Bool
blank file p = list_all (λ q. eqb (stands Kernel file q) 0) (range_with_len p 4)

-- no code at a vector: refill at 0, every other exception at 180 (L23)
unfoldable pub vector_refusal : List ℕ → ℕ → Verdict
vector_refusal file n =
    pick (eqb n 0) none
    (pick (blank file 0) (Err (NoCode 0)) (pick (blank file 0x180) (Err (NoCode 0x180)) none))

-- what is refused of the files by themselves (L4)
unfoldable pub files_refusal : (ℕ → List ℕ) → ℕ → Verdict
files_refusal file n = or (kernel_refusal (file 0) n) (or (programs_refusal file n 1) (vector_refusal (file 0) n))

-- a page of program k finds no page of RAM (L24)
abbrev pub full_refusal : List ℕ → Option ℕ → Verdict
full_refusal file None = none
full_refusal file (Some k) = Err (NoRoom k (kernel_pages file))

-- what is refused before a text is written
unfoldable pub early : (ℕ → List ℕ) → ℕ → Verdict
early file n = or (files_refusal file n) (full_refusal (file 0) (plan_of file n).full)

-- a word, sign-extended
unfoldable pub extended : ℕ → ℕ
extended v = pick (ltb v (2 ^ 31)) v (v + 0xffffffff00000000)

-- the first program is the kernel where there is no other (L22)
abbrev pub first : ℕ → ℕ
first n = pick (eqb n 0) 0 1

-- where it starts (L22)
unfoldable pub starts : (ℕ → List ℕ) → ℕ → ℕ
starts file n = extended (entry (file (first n)))

-- the text of a TLB and a RAM; with programs, in User mode (L22)
abbrev pub written : List ℕ → List ℕ → ℕ → ℕ → ℕ → List ℕ → List ℕ
written tlb ram used n pc settings = placed_text tlb ram used (not (eqb n 0)) pc settings

-- the text (L22)
unfoldable pub text_of : (ℕ → List ℕ) → ℕ → List ℕ → List ℕ
text_of file n settings = written (plan_of file n).tlb (ram_of file n) (plan_of file n).used n (starts file n) settings

-- two lists hold the same numbers
abbrev pub same : List ℕ → List ℕ → Bool
same = pointwise nat_eq

-- what a machine has otherwise than User mode with CU0 clear, ASID 1 and a PC below 80000000 (L27)
unfoldable pub unlike : Cpu → Cp0 → Result (Unit {0}) Difference
unlike cpu cp0 =
    pick (user cp0.status)
    (pick (CU0 cp0.status) (Err Cu0) (pick (eqb (asid_of cp0.entryhi) 1) (pick (ltb cpu.pc (2 ^ 31)) (Ok tt) (Err Start)) (Err Asid)))
    (Err Mode)

-- what a machine and the RAM that it holds have otherwise than this TLB and RAM; then what it is unlike (L27)
unfoldable pub undone : Machine → List ℕ → List ℕ → List ℕ → Result (Unit {0}) Difference
undone m held tlb ram = pick (same m.tlb tlb) (pick (same held ram) (unlike m.cpu m.cp0) (Err Bytes)) (Err Slots)

-- RAM that is zeroed
abbrev pub zeros : List ℕ
zeros = replicate 65536 0

-- the reader refuses a text, or not (L26)
abbrev pub unread : Option image.Refusal → Verdict
unread None = none
unread (Some r) = Err (NoImage r.number)

-- SETTINGS undid it, or not
abbrev pub undone_refusal : Result (Unit {0}) Difference → Verdict
undone_refusal (Ok _) = none
undone_refusal (Err d) = Err (Undone d)

-- what is refused of a text by what the reader makes of it (L26, L27)
unfoldable pub read_refusal : List ℕ → ℕ → List ℕ → List ℕ → Verdict
read_refusal text n tlb ram =
    or (unread (image_of text zeros).refusal)
    (pick (eqb n 0) none (undone_refusal (undone (image_of text zeros).machine (ram_after text zeros) tlb ram)))

-- of a text, its length: longer than 65,536 bytes it is refused (L25)
unfoldable pub text_made : List ℕ → ℕ → List ℕ → List ℕ → Result ℕ Refusal
text_made text n tlb ram =
    pick (leb (length text) 65536) (or (read_refusal text n tlb ram) (Ok (length text))) (Err (TooLong (length text)))

abbrev pub text_answer : List ℕ → List ℕ → ℕ → ℕ → ℕ → List ℕ → Result ℕ Refusal
text_answer tlb ram used n pc settings = text_made (written tlb ram used n pc settings) n tlb ram

-- the answer: the length of the text, or a refusal (L4)
unfoldable pub made_of : (ℕ → List ℕ) → ℕ → List ℕ → Result ℕ Refusal
made_of file n settings = or (early file n) (text_made (text_of file n settings) n (plan_of file n).tlb (ram_of file n))

-- what a buffer has after a verdict: another where nothing was refused
abbrev pub after : Verdict → List ℕ → List ℕ → List ℕ
after (Ok _) written out = written
after (Err r) written out = out

-- and the lent buffer after it: it has the text, as far as it reaches, where nothing was refused before the text was written
unfoldable pub out_after : (ℕ → List ℕ) → ℕ → List ℕ → List ℕ → List ℕ
out_after file n settings out = after (early file n) (sets out 0 (text_of file n settings)) out

-- an answer and a buffer are these
pub record Answered (r : Result ℕ Refusal) (out : List ℕ) (made : Result ℕ Refusal) (after : List ℕ) : Type 0 where
  pub answer : r ≡ made
  pub buffer : out ≡ after
