-- The branches. `rs` and `rt` are the values of these registers, so they are read before the link is written (A10).
use Rattle.std.specs.Prelude.{ℕ, ◌+◌, ◌*◌, ◌%◌, ◌^◌, Bool, ◌==◌}
use Rattle.promise.specs.Pick.{pick, both, either, not}
use Rattle.promise.specs.Bits.{set?}
use Rattle.word.specs.Word.{extend_immediate}
use Rattle.decode.specs.declared.BranchOp.{BranchOp}
use Rattle.decode.specs.declared.BranchOp.TheVariants.{BEQ, BNE, BLEZ, BGTZ, BLTZ, BGEZ, BLTZAL, BGEZAL, BEQL, BNEL, BLEZL, BGTZL, BLTZL, BGEZL, BLTZALL, BGEZALL}
use Rattle.flow.specs.declared.Act.{Act}
use Rattle.flow.specs.declared.Act.TheVariants.{Branch, Skip}
use Rattle.flow.specs.Address.{slot_address, after_slot}

-- the two registers are equal
unfoldable pub equal : ℕ → ℕ → Bool
equal rs rt = rs == rt

-- they are not
unfoldable pub differ : ℕ → ℕ → Bool
differ rs rt = not (rs == rt)

-- as a signed doubleword the value is below 0: bit 63 is set
unfoldable pub below_zero : ℕ → Bool
below_zero rs = set? rs 63

-- it is 0 or above
unfoldable pub at_least_zero : ℕ → Bool
at_least_zero rs = not (set? rs 63)

-- it is 0 or below
unfoldable pub at_most_zero : ℕ → Bool
at_most_zero rs = either (set? rs 63) (rs == 0)

-- it is above 0
unfoldable pub above_zero : ℕ → Bool
above_zero rs = both (not (set? rs 63)) (not (rs == 0))

-- where a branch leads: from its slot on by the sign-extended offset times 4 (C4)
unfoldable pub branch_target : ℕ → ℕ → ℕ
branch_target pc offset = (slot_address pc + extend_immediate offset * 4) % 2 ^ 64

-- a plain branch has its slot, taken or not; not taken, it goes on after the slot (S13)
unfoldable pub plain : Bool → ℕ → ℕ → ℕ → Act
plain taken link pc offset = Branch (pick taken (branch_target pc offset) (after_slot pc)) link

-- a likely branch not taken skips its slot (A11)
unfoldable pub likely : Bool → ℕ → ℕ → ℕ → Act
likely taken link pc offset = pick taken (Branch (branch_target pc offset) link) (Skip link)

-- The AND-LINK branches link register 31, taken or not (A10); the others link none, which is 0.
unfoldable pub branch : BranchOp → ℕ → ℕ → ℕ → ℕ → Act
branch BEQ rs rt pc offset = plain (equal rs rt) 0 pc offset
branch BNE rs rt pc offset = plain (differ rs rt) 0 pc offset
branch BLEZ rs rt pc offset = plain (at_most_zero rs) 0 pc offset
branch BGTZ rs rt pc offset = plain (above_zero rs) 0 pc offset
branch BLTZ rs rt pc offset = plain (below_zero rs) 0 pc offset
branch BGEZ rs rt pc offset = plain (at_least_zero rs) 0 pc offset
branch BLTZAL rs rt pc offset = plain (below_zero rs) 31 pc offset
branch BGEZAL rs rt pc offset = plain (at_least_zero rs) 31 pc offset
branch BEQL rs rt pc offset = likely (equal rs rt) 0 pc offset
branch BNEL rs rt pc offset = likely (differ rs rt) 0 pc offset
branch BLEZL rs rt pc offset = likely (at_most_zero rs) 0 pc offset
branch BGTZL rs rt pc offset = likely (above_zero rs) 0 pc offset
branch BLTZL rs rt pc offset = likely (below_zero rs) 0 pc offset
branch BGEZL rs rt pc offset = likely (at_least_zero rs) 0 pc offset
branch BLTZALL rs rt pc offset = likely (below_zero rs) 31 pc offset
branch BGEZALL rs rt pc offset = likely (at_least_zero rs) 31 pc offset
