-- Why a file is refused, and what that is about.
use Rattle.std.specs.Prelude.{ℕ, zero, suc, ◌+◌, ◌*◌, ◌%◌, Bool, false, List, Result, Ok, Err, eqb, leb, ltb, length}
use Rattle.promise.specs.Pick.{pick, both, either}
use Rattle.elf.specs.declared.Fault.{Fault}
use Rattle.elf.specs.declared.Fault.TheVariants.{NotElf, Short, Class, Order, Machine, Unlinked, HeaderSize, TooMany, NoTable, NotStored, MoreInFile, TooLarge, Leaves, Shared, NoSegment, NoEntry}
use Rattle.elf.specs.declared.Header.{Header}
use Rattle.elf.specs.declared.Space.{Space}
use Rattle.elf.specs.declared.Space.TheVariants.{User}
use Rattle.elf.specs.Bytes.{byte, half, word}
use Rattle.elf.specs.Header.{table, count, entry, header, loads}
use Rattle.elf.specs.Home.{home, outside, covers}

-- the number of a fault (L5 to L16)
abbrev pub number : Fault → ℕ
number NotElf = 1
number (Short n) = 2
number (Class n) = 3
number (Order n) = 4
number (Machine n) = 5
number (Unlinked n) = 6
number (HeaderSize n) = 7
number (TooMany n) = 8
number (NoTable n) = 9
number (NotStored n) = 10
number (MoreInFile n) = 11
number (TooLarge n) = 12
number (Leaves n) = 13
number (Shared n) = 14
number NoSegment = 15
number (NoEntry n) = 16

-- what a fault is about; 0 where it is about nothing (L5 to L16)
abbrev pub about : Fault → ℕ
about NotElf = 0
about (Short n) = n
about (Class n) = n
about (Order n) = n
about (Machine n) = n
about (Unlinked n) = n
about (HeaderSize n) = n
about (TooMany n) = n
about (NoTable n) = n
about (NotStored n) = n
about (MoreInFile n) = n
about (TooLarge n) = n
about (Leaves n) = n
about (Shared n) = n
about NoSegment = 0
about (NoEntry n) = n

-- whether something is refused
abbrev pub Verdict : Type 0
Verdict = Result (Unit {0}) Fault

-- it is not
abbrev pub none : Verdict
none = Ok tt

-- the first of two faults
abbrev pub or : Verdict → Verdict → Verdict
or (Ok _) g = g
or (Err f) g = Err f

-- the number that a file is refused for; 0 where it is not
abbrev pub number_of : Verdict → ℕ
number_of (Ok _) = 0
number_of (Err f) = number f

-- and what that is about
abbrev pub about_of : Verdict → ℕ
about_of (Ok _) = 0
about_of (Err f) = about f

-- the header: 7f 45 4c 46, 52 bytes, 32-bit, big-endian, MIPS, linked (L5 to L10)
unfoldable pub head_fault : List ℕ → Verdict
head_fault file =
    pick (eqb (word file 0) 0x7f454c46)
    (pick (leb 52 (length file))
    (pick (eqb (byte file 4) 1)
    (pick (eqb (byte file 5) 2)
    (pick (eqb (half file 18) 8)
    (pick (eqb (half file 16) 2) none (Err (Unlinked (half file 16))))
    (Err (Machine (half file 18))))
    (Err (Order (byte file 5))))
    (Err (Class (byte file 4))))
    (Err (Short (length file))))
    (Err NotElf)

-- the table: headers of 32 bytes, at most 32 of them, all in the file (L11)
unfoldable pub table_fault : List ℕ → Verdict
table_fault file =
    pick (eqb (half file 42) 32)
    (pick (leb (count file) 32)
    (pick (leb (table file + 32 * count file) (length file)) none (Err (NoTable (table file))))
    (Err (TooMany (count file))))
    (Err (HeaderSize (half file 42)))

-- n addresses from a on and m from b on share one
unfoldable pub shares : ℕ → ℕ → ℕ → ℕ → Bool
shares a n b m = both (ltb a (b + m)) (ltb b (a + n))

-- the homes of two headers share an address (L14)
abbrev pub overlap : Space → Header → Header → Bool
overlap space g h = shares (home space g.vaddr) g.memsz (home space h.vaddr) h.memsz

-- a header overlaps header i, which is a segment (L14)
unfoldable pub overlaps_at : Space → List ℕ → Header → ℕ → Bool
overlaps_at space file h i = both (overlap space h (header file i)) (loads file (header file i))

-- one of `left` headers from header i on (L14)
unfoldable pub overlaps : Space → List ℕ → Header → ℕ → ℕ → Bool
overlaps space file h zero i = false
overlaps space file h (suc left) i =
    either (overlaps_at space file h i) (overlaps space file h left (i + 1))

-- what is wrong with segment i (L14)
unfoldable pub segment_fault : Space → List ℕ → Header → ℕ → Verdict
segment_fault space file h i =
    pick (leb (h.offset + h.filesz) (length file))
    (pick (leb h.filesz h.memsz)
    (pick (leb h.memsz 65536)
    (pick (outside space h) (Err (Leaves i)) (pick (overlaps space file h i 0) (Err (Shared i)) none))
    (Err (TooLarge i)))
    (Err (MoreInFile i)))
    (Err (NotStored i))

-- with header i: nothing where it is no segment
unfoldable pub header_fault : Space → List ℕ → ℕ → Verdict
header_fault space file i = pick (loads file (header file i)) (segment_fault space file (header file i) i) none

-- the first fault of `left` headers from header i on (L14)
unfoldable pub segments_fault : Space → List ℕ → ℕ → ℕ → Verdict
segments_fault space file zero i = none
segments_fault space file (suc left) i = or (header_fault space file i) (segments_fault space file left (i + 1))

-- a segment is among `left` headers from header i on (L15)
unfoldable pub any_segment : List ℕ → ℕ → ℕ → Bool
any_segment file zero i = false
any_segment file (suc left) i = either (loads file (header file i)) (any_segment file left (i + 1))

-- what a file is refused for (L5 to L15)
unfoldable pub file_fault : Space → List ℕ → Verdict
file_fault space file =
    or (head_fault file)
    (or (table_fault file)
    (or (segments_fault space file (count file) 0)
    (pick (any_segment file (count file) 0) none (Err NoSegment))))

-- an address is in a segment, of `left` headers from header i on (L16)
unfoldable pub in_segment : List ℕ → ℕ → ℕ → ℕ → Bool
in_segment file v zero i = false
in_segment file v (suc left) i = either (covers User file (header file i) v) (in_segment file v left (i + 1))

-- the entry point is a multiple of 4 and in a segment (L16)
unfoldable pub enters : List ℕ → Bool
enters file = both (eqb (entry file % 4) 0) (in_segment file (entry file) (count file) 0)

-- what a program is refused for (L5 to L16)
unfoldable pub program_fault : Space → List ℕ → Verdict
program_fault space file = or (file_fault space file) (pick (enters file) none (Err (NoEntry (entry file))))
