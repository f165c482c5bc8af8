-- Worked examples: the places where a branch, a jump or an immediate is easily got wrong. The definitions give these by computation.
use Rattle.std.proofs.Common.{◌≡◌, refl}
use Rattle.decode.specs.declared.ArithmeticImmediateOp.TheVariants.{SLTIU}
use Rattle.decode.specs.declared.BranchOp.TheVariants.{BEQ, BLEZ, BGTZL, BGEZAL}
use Rattle.decode.specs.declared.JumpOp.TheVariants.{J}
use Rattle.word.specs.Extend.{extend}
use Rattle.word.specs.Compare.{less_unsigned}
use Rattle.flow.specs.declared.Act.TheVariants.{Write, Branch, Skip}
use Rattle.execute.specs.Arithmetic.{arithmetic_immediate}
use Rattle.flow.specs.Branches.{equal, at_least_zero, at_most_zero, above_zero, branch_target, plain, likely, branch}
use Rattle.flow.specs.Jumps.{jump_target, jump}

-- SLTIU extends the sign: any small number is less than ffff
pub sltiu_ffff : arithmetic_immediate SLTIU 5 0xffff 9 ≡ Write 9 1
unfolding arithmetic_immediate less_unsigned extend
sltiu_ffff = refl

-- an offset of -1 leads back to the branch itself
pub branch_to_itself : branch BEQ 7 7 0xffff_ffff_8000_0000 0xffff ≡ Branch 0xffff_ffff_8000_0000 0
unfolding branch equal plain branch_target extend
branch_to_itself = refl

-- a plain branch not taken has a slot, and goes on after it
pub not_taken : branch BEQ 7 8 0xffff_ffff_8000_0000 0xffff ≡ Branch 0xffff_ffff_8000_0008 0
unfolding branch equal plain
not_taken = refl

-- BLEZ is taken at 0
pub blez_zero : branch BLEZ 0 0 0x1000 1 ≡ Branch 0x1008 0
unfolding branch at_most_zero plain branch_target extend
blez_zero = refl

-- a likely branch not taken skips its slot
pub likely_skips : branch BGTZL 0xffff_ffff_ffff_ffff 0 0x1000 1 ≡ Skip 0
unfolding branch above_zero likely
likely_skips = refl

-- BGEZAL links register 31 though it is not taken
pub linked_not_taken : branch BGEZAL 0x8000_0000_0000_0000 0 0x1000 1 ≡ Branch 0x1008 31
unfolding branch at_least_zero plain
linked_not_taken = refl

-- J in the last word of a region jumps within the region of its slot, the next one
pub j_next_region : jump J 0x0fff_fffc 1 ≡ Branch 0x1000_0004 0
unfolding jump jump_target
j_next_region = refl
