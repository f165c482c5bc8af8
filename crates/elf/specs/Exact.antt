-- Why a file is refused, in plain propositions: each number exactly in its case, and what it is about (L5 to L16).
use Rattle.std.specs.Prelude.{ℕ, ◌+◌, ◌*◌, ◌%◌, ◌<◌, ◌≤◌, true, List, ◌↔◌, ◌⊎◌, ◌≡◌, length}
use Rattle.elf.specs.declared.Space.{Space}
use Rattle.elf.specs.declared.Space.TheVariants.{User, Kernel}
use Rattle.elf.specs.Bytes.{byte, half, word}
use Rattle.elf.specs.Header.{table, count, entry, header, loads}
use Rattle.elf.specs.Home.{physical, home}
use Rattle.elf.specs.Faults.{Verdict, number_of, about_of, file_fault, program_fault}

-- none of the first six (L5 to L10)
pub record Headed (file : List ℕ) : Type 0 where
  pub elf : word file 0 ≡ 0x7f454c46
  pub whole : 52 ≤ length file
  pub class : byte file 4 ≡ 1
  pub order : byte file 5 ≡ 2
  pub machine : half file 18 ≡ 8
  pub linked : half file 16 ≡ 2

-- nor of the next three (L11)
pub record Tabled (file : List ℕ) : Type 0 where
  pub size : half file 42 ≡ 32
  pub few : count file ≤ 32
  pub held : table file + 32 * count file ≤ length file

-- header i is a segment (L12)
abbrev pub IsSegment : List ℕ → ℕ → Type 0
IsSegment file i = (i < count file) × (loads file (header file i) ≡ true)

-- its bytes are in the file; it has no more of them than in memory; it is not too large (L14)
abbrev pub Stored : List ℕ → ℕ → Type 0
Stored file i = (header file i).offset + (header file i).filesz ≤ length file

abbrev pub Sized : List ℕ → ℕ → Type 0
Sized file i = (header file i).filesz ≤ (header file i).memsz

abbrev pub NotTooLarge : List ℕ → ℕ → Type 0
NotTooLarge file i = (header file i).memsz ≤ 65536

-- n addresses from v on are outside: of a User program in the stack's page or above; of a kernel not in a range of L13, or past the RAM (L14)
abbrev pub Outside : Space → ℕ → ℕ → Type 0
Outside User v n = 0x7ffff000 < v + n
Outside Kernel v n = (v < 0x80000000) ⊎ ((0xc0000000 ≤ v) ⊎ (65536 < physical v + n))

abbrev pub Leaves : Space → List ℕ → ℕ → Type 0
Leaves space file i = Outside space (header file i).vaddr (header file i).memsz

-- address a is one of the home of header i (L13)
abbrev pub AtHome : Space → List ℕ → ℕ → ℕ → Type 0
AtHome space file i a = (home space (header file i).vaddr ≤ a) × (a < home space (header file i).vaddr + (header file i).memsz)

-- some address of its home is one of a segment with a lower number (L14)
pub record Overlaps (space : Space) (file : List ℕ) (i : ℕ) : Type 0 where
  pub other : ℕ
  pub lower : other < i
  pub segment : loads file (header file other) ≡ true
  pub address : ℕ
  pub here : AtHome space file i address
  pub there : AtHome space file other address

-- segment i has none of the faults of a segment (L14)
pub record Fine (space : Space) (file : List ℕ) (i : ℕ) : Type 0 where
  pub stored : Stored file i
  pub sized : Sized file i
  pub small : NotTooLarge file i
  pub inside : Leaves space file i → ⊥
  pub apart : Overlaps space file i → ⊥

-- i is a segment's number, and no segment with a lower number has a fault (L14)
pub record First (space : Space) (file : List ℕ) (i : ℕ) : Type 0 where
  pub headed : Headed file
  pub tabled : Tabled file
  pub segment : IsSegment file i
  pub before : (j : ℕ) → j < i → IsSegment file j → Fine space file j

-- a file that is not refused (L5 to L15)
pub record Loadable (space : Space) (file : List ℕ) : Type 0 where
  pub headed : Headed file
  pub tabled : Tabled file
  pub segments : (i : ℕ) → IsSegment file i → Fine space file i
  pub one : ℕ
  pub segment : IsSegment file one

-- the entry point is a multiple of 4 and in a segment (L16)
pub record Enters (file : List ℕ) : Type 0 where
  pub multiple : entry file % 4 ≡ 0
  pub one : ℕ
  pub segment : IsSegment file one
  pub from : (header file one).vaddr ≤ entry file
  pub below : entry file < (header file one).vaddr + (header file one).memsz

-- the number that a file is refused for, and what it is about; 0 where it is not (L5 to L15)
pub data FileWhy (space : Space) (file : List ℕ) : ℕ → ℕ → Type 0 where
  no_elf : (word file 0 ≡ 0x7f454c46 → ⊥) → FileWhy space file 1 0
  cut_short : word file 0 ≡ 0x7f454c46 → length file < 52 → FileWhy space file 2 (length file)
  not_32_bit : word file 0 ≡ 0x7f454c46 → 52 ≤ length file → (byte file 4 ≡ 1 → ⊥) → FileWhy space file 3 (byte file 4)
  not_big_endian : word file 0 ≡ 0x7f454c46 → 52 ≤ length file → byte file 4 ≡ 1 → (byte file 5 ≡ 2 → ⊥) → FileWhy space file 4 (byte file 5)
  not_mips : word file 0 ≡ 0x7f454c46 → 52 ≤ length file → byte file 4 ≡ 1 → byte file 5 ≡ 2 → (half file 18 ≡ 8 → ⊥) → FileWhy space file 5 (half file 18)
  not_linked : word file 0 ≡ 0x7f454c46 → 52 ≤ length file → byte file 4 ≡ 1 → byte file 5 ≡ 2 → half file 18 ≡ 8 → (half file 16 ≡ 2 → ⊥) → FileWhy space file 6 (half file 16)
  another_size : Headed file → (half file 42 ≡ 32 → ⊥) → FileWhy space file 7 (half file 42)
  too_many : Headed file → half file 42 ≡ 32 → 32 < count file → FileWhy space file 8 (count file)
  not_held : Headed file → half file 42 ≡ 32 → count file ≤ 32 → length file < table file + 32 * count file → FileWhy space file 9 (table file)
  not_stored : {i : ℕ} → First space file i → length file < (header file i).offset + (header file i).filesz → FileWhy space file 10 i
  more_in_file : {i : ℕ} → First space file i → Stored file i → (header file i).memsz < (header file i).filesz → FileWhy space file 11 i
  too_large : {i : ℕ} → First space file i → Stored file i → Sized file i → 65536 < (header file i).memsz → FileWhy space file 12 i
  leaves : {i : ℕ} → First space file i → Stored file i → Sized file i → NotTooLarge file i → Leaves space file i → FileWhy space file 13 i
  shared : {i : ℕ} → First space file i → Stored file i → Sized file i → NotTooLarge file i → (Leaves space file i → ⊥) → Overlaps space file i → FileWhy space file 14 i
  nothing : Headed file → Tabled file → ((i : ℕ) → IsSegment file i → ⊥) → FileWhy space file 15 0
  loadable : Loadable space file → FileWhy space file 0 0

-- the same of a program, whose entry point counts (L5 to L16)
pub data Why (space : Space) (file : List ℕ) : ℕ → ℕ → Type 0 where
  refused : {number about : ℕ} → 0 < number → FileWhy space file number about → Why space file number about
  no_entry : Loadable space file → (Enters file → ⊥) → Why space file 16 (entry file)
  accepted : Loadable space file → Enters file → Why space file 0 0

-- a verdict has this number, and is about this
abbrev pub Gives : Verdict → ℕ → ℕ → Type 0
Gives v number about = (number_of v ≡ number) × (about_of v ≡ about)

-- of every file: a number is given, and about what, just where it is why; there are no others
pub record Exact (space : Space) (file : List ℕ) : Type 0 where
  pub file_exact : (number about : ℕ) → Gives (file_fault space file) number about ↔ FileWhy space file number about
  pub program_exact : (number about : ℕ) → Gives (program_fault space file) number about ↔ Why space file number about
  pub no_other_of_file : number_of (file_fault space file) ≤ 15
  pub no_other : number_of (program_fault space file) ≤ 16
