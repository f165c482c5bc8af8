-- The numbers of a file, big-endian; past its end every byte is 0.
use Rattle.std.specs.Prelude.{ℕ, ◌+◌, ◌*◌, List, get_or}

-- the byte at an offset
unfoldable pub byte : List ℕ → ℕ → ℕ
byte file at = get_or file at 0

-- two bytes
unfoldable pub half : List ℕ → ℕ → ℕ
half file at = byte file at * 256 + byte file (at + 1)

-- four bytes
unfoldable pub word : List ℕ → ℕ → ℕ
word file at = half file at * 65536 + half file (at + 2)
