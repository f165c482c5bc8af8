-- Products and quotients, to HI and LO, and the moves from and to these.
use Rattle.std.specs.Prelude.{ℕ}
use Rattle.word.specs.Word as word
use Rattle.word.specs.declared.HiLo as pair
use Rattle.decode.specs.declared.MultiplyOp.{MultiplyOp}
use Rattle.decode.specs.declared.MultiplyOp.TheVariants.{MULT, MULTU, DIV, DIVU, DMULT, DMULTU, DDIV, DDIVU}
use Rattle.decode.specs.declared.HiLoOp.{HiLoOp}
use Rattle.decode.specs.declared.HiLoOp.TheVariants.{MFHI, MTHI, MFLO, MTLO}
use Rattle.flow.specs.declared.Act.{Act}
use Rattle.flow.specs.declared.Act.TheVariants.{Write, HiLo}

-- a pair goes to HI and LO
unfoldable pub to_hi_lo : pair.HiLo → Act
to_hi_lo x = HiLo x.hi x.lo

-- A product has its high half in HI (A5); a quotient is in LO, its remainder in HI (A6, A7, W2).
unfoldable pub multiply : MultiplyOp → ℕ → ℕ → Act
multiply MULT rs rt = to_hi_lo (word.mult rs rt)
multiply MULTU rs rt = to_hi_lo (word.multu rs rt)
multiply DIV rs rt = to_hi_lo (word.div rs rt)
multiply DIVU rs rt = to_hi_lo (word.divu rs rt)
multiply DMULT rs rt = to_hi_lo (word.dmult rs rt)
multiply DMULTU rs rt = to_hi_lo (word.dmultu rs rt)
multiply DDIV rs rt = to_hi_lo (word.ddiv rs rt)
multiply DDIVU rs rt = to_hi_lo (word.ddivu rs rt)

-- The moves: from HI or LO to rd; from rs to one of the two, the other stays.
unfoldable pub move_hi_lo : HiLoOp → ℕ → ℕ → ℕ → ℕ → Act
move_hi_lo MFHI rs hi lo rd = Write rd hi
move_hi_lo MTHI rs hi lo rd = HiLo rs lo
move_hi_lo MFLO rs hi lo rd = Write rd lo
move_hi_lo MTLO rs hi lo rd = HiLo hi rs
