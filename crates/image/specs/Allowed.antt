-- Which values a frame may have; any other is refusal 7.
use Rattle.std.specs.Prelude.{ℕ, ◌%◌, Bool, true, eqb, leb}
use Rattle.std.specs.Result.{is_ok}
use Rattle.promise.specs.Pick.{both, either, not}
use Rattle.frame.specs.Frame.{PC}
use Rattle.frame.specs.declared.Frame.{Frame}
use Rattle.frame.specs.declared.Frame.TheVariants.{Register, Memory, Budget, Cp0, Slot}
use Rattle.tlb.specs.PageMask.{legal_mask}
use Rattle.cp0.specs.Registers.{kept?}
use Rattle.cp0.specs.Moves.{check_move}

-- `01`: a register, HI, LO or PC; r0 only with value 0 (I4)
abbrev pub register_allowed : ℕ → ℕ → Bool
register_allowed number value = both (leb number PC) (either (not (eqb number 0)) (eqb value 0))

-- `02`: a multiple of 8, at most 0000fff8 (I5)
abbrev pub address_allowed : ℕ → Bool
address_allowed address = both (eqb (address % 8) 0) (leb address 0xfff8)

-- `04`: a number that is kept (T11), and a move that would not be 18 (I7)
abbrev pub move_allowed : ℕ → ℕ → Bool
move_allowed number value = both (kept? number) (is_ok (check_move number value))

-- `05`: a slot of at most 2f, and a legal mask (I8)
abbrev pub slot_allowed : ℕ → ℕ → Bool
slot_allowed index mask = both (leb index 0x2f) (legal_mask mask)

-- a frame's value is allowed (N8)
abbrev pub allowed : Frame → Bool
allowed (Register number value) = register_allowed number value
allowed (Memory address value) = address_allowed address
allowed (Budget n) = true
allowed (Cp0 number value) = move_allowed number value
allowed (Slot index mask hi lo0 lo1) = slot_allowed index mask
