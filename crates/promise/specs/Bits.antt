-- Bits of a number, counted from 0 at the right as the manuals count them.
use Rattle.std.specs.Prelude.{ℕ, ◌/◌, ◌%◌, ◌^◌, Bool, eqb}

-- bit n of x
abbrev pub bit : ℕ → ℕ → ℕ
bit x n = x / 2 ^ n % 2

-- bit n of x is set
abbrev pub set? : ℕ → ℕ → Bool
set? x n = eqb (x / 2 ^ n % 2) 1

-- the bits from `low` up, `many` of them, as a number
abbrev pub bits : ℕ → ℕ → ℕ → ℕ
bits x low many = x / 2 ^ low % 2 ^ many
