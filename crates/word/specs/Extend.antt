-- A register and the number in it: what its low bits are, read as unsigned or as signed, and which register holds a number.
-- A width is w8, w16, w32 (a word) or w64 (a doubleword), of `bits w` bits. `pos n` is the number n, and `negsuc n` is -(n + 1).
use Rattle.std.specs.Prelude.{ℕ, suc, ◌-◌, ◌%◌, ◌^◌, ℤ, pos, negsuc}
use Rattle.std.specs.Int.{Width, w64}
use mir.Val.{bits, to_z, of_z}

-- the low bits of a register (A1; house where the register is not sign-extended)
abbrev pub low : Width → ℕ → ℕ
low w x = x % 2 ^ bits w

-- the low bits, read as an unsigned number
abbrev pub unsigned : Width → ℕ → ℤ
unsigned w x = pos (low w x)

-- the low bits, read as a signed number in two's complement
abbrev pub signed : Width → ℕ → ℤ
signed w x = to_z w (low w x)

-- a number cut to m: its remainder by m, from 0 up also below zero
abbrev pub cut : ℕ → ℤ → ℕ
cut m (pos n) = n % m
cut m (negsuc n) = m - suc (n % m)

-- the register that holds a number: it is cut to the width, and the whole register is the same signed number (A1, A2)
unfoldable pub register : Width → ℤ → ℕ
register w z = of_z w64 (to_z w (cut (2 ^ bits w) z))

-- the low bits of a register, sign-extended (A1)
unfoldable pub extend : Width → ℕ → ℕ
extend w x = of_z w64 (signed w x)
