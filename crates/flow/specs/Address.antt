-- The addresses after an instruction, wrapping at 2^64.
use Rattle.std.specs.Prelude.{ℕ, ◌+◌, ◌%◌, ◌^◌}

-- the address of the instruction after the one at pc, which is the delay slot of a branch or jump there
abbrev pub slot_address : ℕ → ℕ
slot_address pc = (pc + 4) % 2 ^ 64

-- the address of the instruction after that slot, which is the link too
abbrev pub after_slot : ℕ → ℕ
after_slot pc = (pc + 8) % 2 ^ 64
