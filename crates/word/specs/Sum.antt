-- Sums and differences over the width: wrapped, or tested for overflow. The number is the same exact one in both.
use Rattle.std.specs.Prelude.{ℕ, ◌^◌, Bool, ℤ, pos, negsuc, ◌+ℤ◌, ◌-ℤ◌, nat_lt, Option, Some, None}
use Rattle.std.specs.Int.{Width}
use mir.Val.{hbits}
use Rattle.promise.specs.Pick.{pick}
use Rattle.word.specs.Extend.{signed, register}

-- a signed number fits w bits: it is at least -2^(w-1) and below 2^(w-1)
abbrev pub fits? : Width → ℤ → Bool
fits? w (pos n) = nat_lt n (2 ^ hbits w)
fits? w (negsuc n) = nat_lt n (2 ^ hbits w)

-- a number that fits goes to a register, and any other is an overflow with no value (A3)
unfoldable pub checked : Width → ℤ → Option ℕ
checked w z = pick (fits? w z) (Some (register w z)) None

-- the sum, cut to the width (A2)
unfoldable pub sum : Width → ℕ → ℕ → ℕ
sum w a b = register w (signed w a +ℤ signed w b)

-- the difference, cut to the width (A2)
unfoldable pub difference : Width → ℕ → ℕ → ℕ
difference w a b = register w (signed w a -ℤ signed w b)

-- the sum, or overflow (A3)
unfoldable pub checked_sum : Width → ℕ → ℕ → Option ℕ
checked_sum w a b = checked w (signed w a +ℤ signed w b)

-- the difference, or overflow (A3)
unfoldable pub checked_difference : Width → ℕ → ℕ → Option ℕ
checked_difference w a b = checked w (signed w a -ℤ signed w b)
