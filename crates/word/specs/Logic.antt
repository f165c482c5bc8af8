-- Logic on whole registers, bit by bit, and the upper immediate.
use Rattle.std.specs.Prelude.{ℕ, ◌-◌, ◌*◌, ◌^◌, bit_and, bit_or, bit_xor}
use Rattle.std.specs.Int.{w16, w32, w64}
use mir.Val.{bits}
use Rattle.word.specs.Extend.{low, extend}

-- each bit is set where both are (AND)
abbrev pub both_bits : ℕ → ℕ → ℕ
both_bits a b = bit_and a b

-- each bit is set where one of the two is, or both are (OR)
abbrev pub either_bits : ℕ → ℕ → ℕ
either_bits a b = bit_or a b

-- each bit is set where just one of the two is (XOR)
abbrev pub different_bits : ℕ → ℕ → ℕ
different_bits a b = bit_xor a b

-- each bit is set where neither of the two is (NOR)
abbrev pub neither_bits : ℕ → ℕ → ℕ
neither_bits a b = (2 ^ bits w64 - 1) - bit_or a b

-- an immediate of 16 bits as the upper half of a word, sign-extended (A1)
unfoldable pub upper : ℕ → ℕ
upper immediate = extend w32 (low w16 immediate * 2 ^ bits w16)
