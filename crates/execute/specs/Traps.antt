-- The traps: a comparison of the doublewords in rs and rt, or in rs and the immediate, which is sign-extended in all of them.
use Rattle.std.specs.Prelude.{ℕ, Bool}
use Rattle.promise.specs.Pick.{pick}
use Rattle.word.specs.Word as word
use Rattle.cp0.specs.declared.Exception.TheVariants.{Tr}
use Rattle.decode.specs.declared.TrapOp.{TrapOp}
use Rattle.decode.specs.declared.TrapOp.TheVariants.{TGE, TGEU, TLT, TLTU, TEQ, TNE}
use Rattle.decode.specs.declared.TrapImmediateOp.{TrapImmediateOp}
use Rattle.decode.specs.declared.TrapImmediateOp.TheVariants.{TGEI, TGEIU, TLTI, TLTIU, TEQI, TNEI}
use Rattle.flow.specs.declared.Act.{Act}
use Rattle.flow.specs.declared.Act.TheVariants.{Nothing, Raise}

-- Trap where the comparison holds (S7), else nothing
unfoldable pub trap_if : Bool → Act
trap_if holds = pick holds (Raise Tr) Nothing

unfoldable pub trap : TrapOp → ℕ → ℕ → Act
trap TGE rs rt = trap_if (word.tge rs rt)
trap TGEU rs rt = trap_if (word.tgeu rs rt)
trap TLT rs rt = trap_if (word.tlt rs rt)
trap TLTU rs rt = trap_if (word.tltu rs rt)
trap TEQ rs rt = trap_if (word.teq rs rt)
trap TNE rs rt = trap_if (word.tne rs rt)

unfoldable pub trap_immediate : TrapImmediateOp → ℕ → ℕ → Act
trap_immediate TGEI rs immediate = trap_if (word.tge rs (word.extend_immediate immediate))
trap_immediate TGEIU rs immediate = trap_if (word.tgeu rs (word.extend_immediate immediate))
trap_immediate TLTI rs immediate = trap_if (word.tlt rs (word.extend_immediate immediate))
trap_immediate TLTIU rs immediate = trap_if (word.tltu rs (word.extend_immediate immediate))
trap_immediate TEQI rs immediate = trap_if (word.teq rs (word.extend_immediate immediate))
trap_immediate TNEI rs immediate = trap_if (word.tne rs (word.extend_immediate immediate))
