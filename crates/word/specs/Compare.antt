-- Comparisons of whole registers, as signed and as unsigned numbers over the width.
use Rattle.std.specs.Prelude.{ℕ, Bool, ◌==◌, int_lt, nat_lt}
use Rattle.std.specs.Int.{Width}
use Rattle.promise.specs.Pick.{pick}
use Rattle.word.specs.Extend.{low, signed}

-- the first is less than the second, both read as signed
unfoldable pub less_signed : Width → ℕ → ℕ → Bool
less_signed w a b = int_lt (signed w a) (signed w b)

-- the first is less than the second, both read as unsigned
unfoldable pub less_unsigned : Width → ℕ → ℕ → Bool
less_unsigned w a b = nat_lt (low w a) (low w b)

-- the two are the same
unfoldable pub same : Width → ℕ → ℕ → Bool
same w a b = low w a == low w b

-- a test as a number: 1 where it holds, else 0
abbrev pub flag : Bool → ℕ
flag t = pick t 1 0
