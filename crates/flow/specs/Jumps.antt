-- The jumps: each has a delay slot.
use Rattle.std.specs.Prelude.{ℕ, ◌+◌, ◌*◌, ◌/◌, ◌%◌, ◌^◌}
use Rattle.decode.specs.declared.JumpOp.{JumpOp}
use Rattle.decode.specs.declared.JumpOp.TheVariants.{J, JAL}
use Rattle.decode.specs.declared.JumpRegisterOp.{JumpRegisterOp}
use Rattle.decode.specs.declared.JumpRegisterOp.TheVariants.{JR, JALR}
use Rattle.flow.specs.declared.Act.{Act}
use Rattle.flow.specs.declared.Act.TheVariants.{Branch}
use Rattle.flow.specs.Address.{slot_address}

-- bits 63..28 of the slot's address, then the twenty-six bits of the word, then two zeros (C4)
unfoldable pub jump_target : ℕ → ℕ → ℕ
jump_target pc target = slot_address pc / 2 ^ 28 * 2 ^ 28 + target % 2 ^ 26 * 4

-- JAL links register 31.
unfoldable pub jump : JumpOp → ℕ → ℕ → Act
jump J pc target = Branch (jump_target pc target) 0
jump JAL pc target = Branch (jump_target pc target) 31

-- To the value of rs, which was read before the link is written; JALR links rd (A10).
unfoldable pub jump_register : JumpRegisterOp → ℕ → ℕ → Act
jump_register JR rs rd = Branch rs 0
jump_register JALR rs rd = Branch rs rd
