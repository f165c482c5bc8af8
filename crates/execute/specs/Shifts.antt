-- Shifts of the value of rt to rd: by the count in the word, or by the value of rs. Words use five bits of the count; doublewords six of a register's, or five with 32 added for the forms named 32 (A4).
use Rattle.std.specs.Prelude.{ℕ}
use Rattle.word.specs.Word as word
use Rattle.decode.specs.declared.ShiftOp.{ShiftOp}
use Rattle.decode.specs.declared.ShiftOp.TheVariants.{SLL, SRL, SRA, DSLL, DSRL, DSRA, DSLL32, DSRL32, DSRA32}
use Rattle.decode.specs.declared.ShiftVariableOp.{ShiftVariableOp}
use Rattle.decode.specs.declared.ShiftVariableOp.TheVariants.{SLLV, SRLV, SRAV, DSLLV, DSRLV, DSRAV}
use Rattle.flow.specs.declared.Act.{Act}
use Rattle.flow.specs.declared.Act.TheVariants.{Write}

-- The count is the field sa.
unfoldable pub shift : ShiftOp → ℕ → ℕ → ℕ → Act
shift SLL rt sa rd = Write rd (word.sll rt sa)
shift SRL rt sa rd = Write rd (word.srl rt sa)
shift SRA rt sa rd = Write rd (word.sra rt sa)
shift DSLL rt sa rd = Write rd (word.dsll rt sa)
shift DSRL rt sa rd = Write rd (word.dsrl rt sa)
shift DSRA rt sa rd = Write rd (word.dsra rt sa)
shift DSLL32 rt sa rd = Write rd (word.dsll32 rt sa)
shift DSRL32 rt sa rd = Write rd (word.dsrl32 rt sa)
shift DSRA32 rt sa rd = Write rd (word.dsra32 rt sa)

-- The count is in rs.
unfoldable pub shift_variable : ShiftVariableOp → ℕ → ℕ → ℕ → Act
shift_variable SLLV rs rt rd = Write rd (word.sll rt rs)
shift_variable SRLV rs rt rd = Write rd (word.srl rt rs)
shift_variable SRAV rs rt rd = Write rd (word.sra rt rs)
shift_variable DSLLV rs rt rd = Write rd (word.dsll rt rs)
shift_variable DSRLV rs rt rd = Write rd (word.dsrl rt rs)
shift_variable DSRAV rs rt rd = Write rd (word.dsra rt rs)
