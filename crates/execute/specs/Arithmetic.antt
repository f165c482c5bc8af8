-- Sums, differences and comparisons of the values of rs and rt, or of rs and the immediate, which is sign-extended in all of them.
use Rattle.std.specs.Prelude.{ℕ, Option, Some, None}
use Rattle.word.specs.Word as word
use Rattle.cp0.specs.declared.Exception.TheVariants.{Ov}
use Rattle.decode.specs.declared.ArithmeticOp.{ArithmeticOp}
use Rattle.decode.specs.declared.ArithmeticOp.TheVariants.{ADD, ADDU, SUB, SUBU, DADD, DADDU, DSUB, DSUBU, SLT, SLTU}
use Rattle.decode.specs.declared.ArithmeticImmediateOp.{ArithmeticImmediateOp}
use Rattle.decode.specs.declared.ArithmeticImmediateOp.TheVariants.{ADDI, ADDIU, DADDI, DADDIU, SLTI, SLTIU}
use Rattle.flow.specs.declared.Act.{Act}
use Rattle.flow.specs.declared.Act.TheVariants.{Write, Raise}

-- a sum that fits is written; one that does not raises Integer Overflow, and nothing is written (A3)
unfoldable pub trapping : ℕ → Option ℕ → Act
trapping reg (Some value) = Write reg value
trapping reg None = Raise Ov

-- The register forms write rd.
unfoldable pub arithmetic : ArithmeticOp → ℕ → ℕ → ℕ → Act
-- words: the low 32 bits are used, the result is sign-extended (A1)
arithmetic ADD rs rt rd = trapping rd (word.add rs rt)
arithmetic ADDU rs rt rd = Write rd (word.addu rs rt)
arithmetic SUB rs rt rd = trapping rd (word.sub rs rt)
arithmetic SUBU rs rt rd = Write rd (word.subu rs rt)
-- doublewords
arithmetic DADD rs rt rd = trapping rd (word.dadd rs rt)
arithmetic DADDU rs rt rd = Write rd (word.daddu rs rt)
arithmetic DSUB rs rt rd = trapping rd (word.dsub rs rt)
arithmetic DSUBU rs rt rd = Write rd (word.dsubu rs rt)
-- 1 where the doubleword in rs is less than that in rt, else 0: both signed, both unsigned
arithmetic SLT rs rt rd = Write rd (word.slt rs rt)
arithmetic SLTU rs rt rd = Write rd (word.sltu rs rt)

-- The immediate forms write rt; those named unsigned extend the sign too.
unfoldable pub arithmetic_immediate : ArithmeticImmediateOp → ℕ → ℕ → ℕ → Act
arithmetic_immediate ADDI rs immediate rt = trapping rt (word.add rs (word.extend_immediate immediate))
arithmetic_immediate ADDIU rs immediate rt = Write rt (word.addu rs (word.extend_immediate immediate))
arithmetic_immediate DADDI rs immediate rt = trapping rt (word.dadd rs (word.extend_immediate immediate))
arithmetic_immediate DADDIU rs immediate rt = Write rt (word.daddu rs (word.extend_immediate immediate))
arithmetic_immediate SLTI rs immediate rt = Write rt (word.slt rs (word.extend_immediate immediate))
arithmetic_immediate SLTIU rs immediate rt = Write rt (word.sltu rs (word.extend_immediate immediate))
