-- Unaligned loads: the part of the aligned word or doubleword that lies on one side of the address, merged into the register.
use Rattle.std.specs.Prelude.{ℕ, ◌+◌, ◌-◌, ◌*◌, ◌/◌, ◌%◌, ◌^◌, eqb}
use Rattle.promise.specs.Pick.{pick}
use Rattle.word.specs.Word.{extend}
use Rattle.memory.specs.declared.PAddr.{PAddr}
use Rattle.memory.specs.Bytes.{with_bytes}
use Rattle.memory.specs.Loads.{field}

-- left: the bytes from p to the end of the aligned `size` go to the top of the register's low `size` bytes (C4)
abbrev pub left : ℕ → ℕ → PAddr → ℕ → ℕ
left size n p old = with_bytes old (p.0 % size) (size - p.0 % size) (field size n p)

-- right: the bytes from the start of the aligned `size` to p go to the bottom of the register (C4)
abbrev pub right : ℕ → ℕ → PAddr → ℕ → ℕ
right size n p old = with_bytes old 0 (p.0 % size + 1) (field size n p / 2 ^ (8 * (size - 1 - p.0 % size)))

-- LWL: left of a word, the sign extended from bit 31 (A12)
unfoldable pub lwl : ℕ → PAddr → ℕ → ℕ
lwl n p old = extend (left 4 n p old)

-- LWR: right of a word; a full one extends the sign from bit 31, a partial one keeps the upper 32 bits (A12, house)
unfoldable pub lwr : ℕ → PAddr → ℕ → ℕ
lwr n p old = pick (eqb (p.0 % 4) 3) (extend (right 4 n p old)) (right 4 n p old)

-- LDL: left of a doubleword (C4)
unfoldable pub ldl : ℕ → PAddr → ℕ → ℕ
ldl n p old = left 8 n p old

-- LDR: right of a doubleword (C4)
unfoldable pub ldr : ℕ → PAddr → ℕ → ℕ
ldr n p old = right 8 n p old
