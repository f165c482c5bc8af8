-- Products over the width: the exact product of two numbers, its high half in HI and its low half in LO.
-- Signed and unsigned forms differ only in how the two registers are read.
use Rattle.std.specs.Prelude.{ℕ, ◌^◌, ℤ, ◌*ℤ◌}
use Rattle.std.specs.Int.Signed.{shr_z}
use Rattle.std.specs.Int.{Width}
use mir.Val.{bits}
use Rattle.word.specs.declared.HiLo.{HiLo}
use Rattle.word.specs.Extend.{unsigned, signed, register}

-- a number of twice the width in HI and LO: HI has it divided by 2^w (rounded down), LO has it, each cut to the width (A1, A5)
unfoldable pub halves : Width → ℤ → HiLo
halves w z = record { hi = register w (shr_z z (2 ^ bits w)); lo = register w z }

-- of two registers read as signed numbers (A5)
unfoldable pub product : Width → ℕ → ℕ → HiLo
product w a b = halves w (signed w a *ℤ signed w b)

-- of two registers read as unsigned numbers (A5)
unfoldable pub product_unsigned : Width → ℕ → ℕ → HiLo
product_unsigned w a b = halves w (unsigned w a *ℤ unsigned w b)
