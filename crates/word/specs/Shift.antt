-- Shifts over the width. The two shifts to the right differ only in how the low bits are read.
use Rattle.std.specs.Prelude.{ℕ, ◌*◌, ◌^◌, pos}
use Rattle.std.specs.Int.Signed.{shr_z}
use Rattle.std.specs.Int.{Width}
use Rattle.word.specs.Extend.{low, unsigned, signed, register}

-- to the left by n: zeros come in from the right, and what leaves the width is lost
unfoldable pub left : Width → ℕ → ℕ → ℕ
left w n x = register w (pos (low w x * 2 ^ n))

-- to the right by n, logical: zeros come in from the left
unfoldable pub right : Width → ℕ → ℕ → ℕ
right w n x = register w (shr_z (unsigned w x) (2 ^ n))

-- to the right by n, arithmetic: copies of the sign bit come in from the left
unfoldable pub right_signed : Width → ℕ → ℕ → ℕ
right_signed w n x = register w (shr_z (signed w x) (2 ^ n))
