-- Loads: what a register receives of the eight bytes that hold the address. One rule over the size in bytes (A9).
use Rattle.std.specs.Prelude.{ℕ, ◌+◌, ◌-◌, ◌*◌, ◌/◌, ◌%◌, ◌^◌}
use Rattle.word.specs.Word.{extend_byte, extend_half, extend}
use Rattle.memory.specs.declared.PAddr.{PAddr}

-- of the eight bytes n, those `size` that follow the first `at` of them, as one number (C3)
unfoldable pub span : ℕ → ℕ → ℕ → ℕ
span size n at = n / 2 ^ (8 * (8 - (at + size))) % 2 ^ (8 * size)

-- the aligned `size` bytes that hold p
abbrev pub field : ℕ → ℕ → PAddr → ℕ
field size n p = span size n (p.0 % 8 / size * size)

-- LB: the byte, its sign extended (C4)
unfoldable pub lb : ℕ → PAddr → ℕ
lb n p = extend_byte (field 1 n p)

-- LBU: the byte (C4)
unfoldable pub lbu : ℕ → PAddr → ℕ
lbu n p = field 1 n p

-- LH: the halfword, its sign extended (C4)
unfoldable pub lh : ℕ → PAddr → ℕ
lh n p = extend_half (field 2 n p)

-- LHU: the halfword (C4)
unfoldable pub lhu : ℕ → PAddr → ℕ
lhu n p = field 2 n p

-- LW: the word, its sign extended (C4)
unfoldable pub lw : ℕ → PAddr → ℕ
lw n p = extend (field 4 n p)

-- LWU: the word (C4)
unfoldable pub lwu : ℕ → PAddr → ℕ
lwu n p = field 4 n p

-- LD: the doubleword (C4)
unfoldable pub ld : ℕ → PAddr → ℕ
ld n p = field 8 n p
