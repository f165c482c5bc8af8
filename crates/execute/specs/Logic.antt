-- Logic, bit by bit, of the values of rs and rt, or of rs and the immediate with zeros above it; and the upper immediate (C4).
use Rattle.std.specs.Prelude.{ℕ, ◌%◌, ◌^◌}
use Rattle.word.specs.Word as word
use Rattle.decode.specs.declared.LogicOp.{LogicOp}
use Rattle.decode.specs.declared.LogicOp.TheVariants.{AND, OR, XOR, NOR}
use Rattle.decode.specs.declared.LogicImmediateOp.{LogicImmediateOp}
use Rattle.decode.specs.declared.LogicImmediateOp.TheVariants.{ANDI, ORI, XORI, LUI}
use Rattle.flow.specs.declared.Act.{Act}
use Rattle.flow.specs.declared.Act.TheVariants.{Write}

-- an immediate of 16 bits with zeros above it
abbrev pub zero_extend : ℕ → ℕ
zero_extend immediate = immediate % 2 ^ 16

-- The register forms write rd.
unfoldable pub logic : LogicOp → ℕ → ℕ → ℕ → Act
logic AND rs rt rd = Write rd (word.and rs rt)
logic OR rs rt rd = Write rd (word.or rs rt)
logic XOR rs rt rd = Write rd (word.xor rs rt)
logic NOR rs rt rd = Write rd (word.nor rs rt)

-- The immediate forms write rt. LUI reads no register.
unfoldable pub logic_immediate : LogicImmediateOp → ℕ → ℕ → ℕ → Act
logic_immediate ANDI rs immediate rt = Write rt (word.and rs (zero_extend immediate))
logic_immediate ORI rs immediate rt = Write rt (word.or rs (zero_extend immediate))
logic_immediate XORI rs immediate rt = Write rt (word.xor rs (zero_extend immediate))
logic_immediate LUI rs immediate rt = Write rt (word.lui immediate)
