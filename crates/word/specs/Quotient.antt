-- Quotients over the width: the quotient in LO, the remainder in HI. Signed and unsigned forms differ only in how the registers are read.
use Rattle.std.specs.Prelude.{ℕ, suc, ◌-◌, ◌/◌, ◌%◌, ◌^◌, Bool, true, false, ℤ, pos, negsuc, neg_ℤ, ◌==◌, unsigned_abs}
use Rattle.std.specs.Int.{Width}
use Rattle.promise.specs.Pick.{pick}
use Rattle.word.specs.declared.HiLo.{HiLo}
use Rattle.word.specs.Extend.{unsigned, signed, register}

-- the quotient cut toward zero: that of the magnitudes, below zero where the signs differ (A6)
abbrev pub toward_zero : ℤ → ℤ → ℤ
toward_zero (pos a) (pos b) = pos (a / b)
toward_zero (pos a) (negsuc b) = neg_ℤ (pos (a / suc b))
toward_zero (negsuc a) (pos b) = neg_ℤ (pos (suc a / b))
toward_zero (negsuc a) (negsuc b) = pos (suc a / suc b)

-- the remainder: that of the magnitudes, with the dividend's sign (A6)
abbrev pub remainder : ℤ → ℤ → ℤ
remainder (pos a) y = pos (a % unsigned_abs y)
remainder (negsuc a) y = neg_ℤ (pos (suc a % unsigned_abs y))

-- a number is below zero
abbrev pub below_zero : ℤ → Bool
below_zero (pos a) = false
below_zero (negsuc a) = true

-- what a zero divisor leaves: the dividend in HI; in LO all ones, or 1 where the dividend is negative (W2, in A8's place)
abbrev pub leaves : ℕ → Bool → HiLo
leaves dividend negative = record { hi = dividend; lo = pick negative 1 (2 ^ 64 - 1) }

-- at each width, of a dividend as it is read: in HI it is sign-extended
unfoldable pub by_zero : Width → ℤ → HiLo
by_zero w dividend = leaves (register w dividend) (below_zero dividend)

-- the quotient in LO and the remainder in HI, each cut to the width (A6);
-- so the most negative number by -1 gives itself and 0 (A7, house)
unfoldable pub divided : Width → ℤ → ℤ → HiLo
divided w x y = pick (unsigned_abs y == 0) (by_zero w x) (record { hi = register w (remainder x y); lo = register w (toward_zero x y) })

-- of two registers read as signed numbers
unfoldable pub quotient : Width → ℕ → ℕ → HiLo
quotient w a b = divided w (signed w a) (signed w b)

-- of two registers read as unsigned numbers
unfoldable pub quotient_unsigned : Width → ℕ → ℕ → HiLo
quotient_unsigned w a b = divided w (unsigned w a) (unsigned w b)
