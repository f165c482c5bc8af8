-- The value of a symbol, by its exact name.
use Rattle.std.specs.Prelude.{ℕ, zero, suc, ◌+◌, ◌*◌, ◌/◌, ◌%◌, Bool, true, List, [], ◌∷◌, Option, Some, None, eqb, leb, ltb, length}
use Rattle.promise.specs.Pick.{pick, both, not}
use Rattle.elf.specs.declared.Section.{Section}
use Rattle.elf.specs.Bytes.{byte, half, word}

-- the section headers are of 40 bytes and all in the file (L17)
unfoldable pub sectioned : List ℕ → Bool
sectioned file = both (eqb (half file 46) 40) (leb (word file 32 + 40 * half file 48) (length file))

-- section i (L17)
unfoldable pub section : List ℕ → ℕ → Section
section file i =
    record {
      kind = word file (word file 32 + 40 * i + 4);
      offset = word file (word file 32 + 40 * i + 16);
      size = word file (word file 32 + 40 * i + 20);
      link = word file (word file 32 + 40 * i + 24);
    }

-- a section is in the file
abbrev pub in_file : List ℕ → Section → Bool
in_file file s = leb (s.offset + s.size) (length file)

-- the bytes at an offset are these
unfoldable pub same_from : List ℕ → ℕ → List ℕ → Bool
same_from file at [] = true
same_from file at (x ∷ name) = both (eqb (byte file at) x) (same_from file (at + 1) name)

-- in a section of names, the name that begins at a number is this one, ended by 0, all within the section (L17)
unfoldable pub named : List ℕ → Section → ℕ → List ℕ → Bool
named file names begin name =
    both (ltb (begin + length name) names.size)
    (both (eqb (byte file (names.offset + begin + length name)) 0) (same_from file (names.offset + begin) name))

-- the symbol at an offset is one of a section and of no source file (L17)
unfoldable pub defined : List ℕ → ℕ → Bool
defined file at = both (not (eqb (half file (at + 14)) 0)) (not (eqb (byte file (at + 12) % 16) 4))

-- the symbol at an offset is the one of this name (L17)
unfoldable pub is_symbol : List ℕ → Section → List ℕ → ℕ → Bool
is_symbol file names name at = both (defined file at) (named file names (word file at) name)

-- the first such symbol of `left` from an offset on (L17)
unfoldable pub symbol_from : List ℕ → Section → List ℕ → ℕ → ℕ → Option ℕ
symbol_from file names name zero at = None
symbol_from file names name (suc left) at =
    pick (is_symbol file names name at)
    (Some (word file (at + 4)))
    (symbol_from file names name left (at + 16))

-- of a section of symbols and its section of names, both in the file (L17)
unfoldable pub symbol_in : List ℕ → Section → Section → List ℕ → Option ℕ
symbol_in file symbols names name =
    pick (both (in_file file symbols) (in_file file names)) (symbol_from file names name (symbols.size / 16) symbols.offset) None

-- of a section of symbols, whose link is below the number of sections (L17)
unfoldable pub symbol_by : List ℕ → Section → List ℕ → Option ℕ
symbol_by file symbols name =
    pick (ltb symbols.link (half file 48)) (symbol_in file symbols (section file symbols.link) name) None

-- of the first section of type 2, of `left` from section i on (L17)
unfoldable pub symbol_of : List ℕ → List ℕ → ℕ → ℕ → Option ℕ
symbol_of file name zero i = None
symbol_of file name (suc left) i =
    pick (eqb (section file i).kind 2) (symbol_by file (section file i) name) (symbol_of file name left (i + 1))

-- the value of a symbol; a name has 1 to 4,096 bytes (L17)
unfoldable pub symbol_named : List ℕ → List ℕ → Option ℕ
symbol_named file name =
    pick (both (leb 1 (length name)) (leb (length name) 4096))
    (pick (sectioned file) (symbol_of file name (half file 48) 0) None)
    None
