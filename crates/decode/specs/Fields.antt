-- The fields of an instruction word, as the manuals draw them (document 001, instruction formats).
use Rattle.std.specs.Prelude.{ℕ}
use Rattle.promise.specs.Bits.{bits}

-- the major opcode, bits 31..26
abbrev pub opcode : ℕ → ℕ
opcode w = bits w 26 6

-- register rs, or base, bits 25..21
abbrev pub rs : ℕ → ℕ
rs w = bits w 21 5

-- register rt, or the code of a REGIMM word, bits 20..16
abbrev pub rt : ℕ → ℕ
rt w = bits w 16 5

-- register rd, bits 15..11
abbrev pub rd : ℕ → ℕ
rd w = bits w 11 5

-- the shift amount, bits 10..6
abbrev pub sa : ℕ → ℕ
sa w = bits w 6 5

-- the function code of a SPECIAL or COP0 word, bits 5..0
abbrev pub funct : ℕ → ℕ
funct w = bits w 0 6

-- the immediate or offset, bits 15..0, not yet extended
abbrev pub immediate : ℕ → ℕ
immediate w = bits w 0 16

-- the target of J and JAL, bits 25..0
abbrev pub target : ℕ → ℕ
target w = bits w 0 26
