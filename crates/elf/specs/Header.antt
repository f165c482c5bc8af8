-- The program headers of a file, and which of them are segments.
use Rattle.std.specs.Prelude.{ℕ, zero, suc, ◌+◌, ◌*◌, Bool, List, eqb, leb, ltb}
use Rattle.promise.specs.Pick.{pick, both, either, not}
use Rattle.elf.specs.declared.Header.{Header}
use Rattle.elf.specs.Bytes.{half, word}

-- where the program headers are, and how many (L11)
unfoldable pub table : List ℕ → ℕ
table file = word file 28

unfoldable pub count : List ℕ → ℕ
count file = half file 44

-- the entry point (L12)
unfoldable pub entry : List ℕ → ℕ
entry file = word file 24

-- the header of 32 bytes at an offset
unfoldable pub header_at : List ℕ → ℕ → Header
header_at file at =
    record {
      kind = word file at;
      offset = word file (at + 4);
      vaddr = word file (at + 8);
      filesz = word file (at + 16);
      memsz = word file (at + 20);
      flags = word file (at + 24);
    }

-- header i
unfoldable pub header : List ℕ → ℕ → Header
header file i = header_at file (table file + 32 * i)

-- where the addresses of a header end
abbrev pub end : Header → ℕ
end h = h.vaddr + h.memsz

-- a note: of type 4, 70000000, 70000002 or 70000003 (L12)
unfoldable pub note : ℕ → Bool
note kind = either (eqb kind 4) (either (eqb kind 0x70000000) (either (eqb kind 0x70000002) (eqb kind 0x70000003)))

-- how far notes reach: a note that begins no higher raises it to its own end (L12)
unfoldable pub raised : Header → ℕ → ℕ
raised h reach = pick (both (note h.kind) (both (leb h.vaddr reach) (ltb reach (end h)))) (end h) reach

-- after `left` headers from header i on
unfoldable pub reach_from : List ℕ → ℕ → ℕ → ℕ → ℕ
reach_from file zero i reach = reach
reach_from file (suc left) i reach = reach_from file left (i + 1) (raised (header file i) reach)

-- the addresses of a header are covered by notes (L12)
unfoldable pub only_notes : List ℕ → Header → Bool
only_notes file h = both (leb h.filesz h.memsz) (leb (end h) (reach_from file (count file) 0 h.vaddr))

-- a segment: a header of type 1 that is not only notes (L12)
unfoldable pub loads : List ℕ → Header → Bool
loads file h = both (eqb h.kind 1) (not (only_notes file h))
