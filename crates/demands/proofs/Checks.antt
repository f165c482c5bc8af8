-- The checks after decoding, one after the other: unusable, reserved, in a slot, each by the facts of the word that say so.
use Prim.Native.Nat.{ℕ}
use native.Mathlib.Omega.{arith}
use mathlib.Core.Path.{◌≡◌}
use mathlib.Core.Bool.{Bool, true, false}
use Rattle.std.specs.Prelude.{Result, Ok, Err}
use Rattle.promise.specs.Pick.{both}
use Rattle.decode.specs.declared.Instr.{Instr}
use Rattle.decode.specs.declared.Undecoded.{Undecoded}
use Rattle.usability.specs.declared.Unready.{Unready}
use Rattle.usability.specs.declared.Unready.TheVariants as unready
use Rattle.usability.specs.Doubleword.{is_double}
use Rattle.usability.specs.Ready as rules
use Rattle.usability.specs.Ready.{is_cp0, is_branch, locked, in_place, allowed, usable, reserved_cop0}
use Rattle.demands.specs.StepRaises.{Unusable, IsReserved}
use Rattle.demands.specs.StepRaises.Unusable.{coprocessor, cp0, code_unusable}
use Rattle.demands.specs.StepRaises.IsReserved.{no_instruction, code_reserved, doubleword}

-- no branch is a doubleword instruction
not_double : (i : Instr) → is_branch i ≡ true → is_double i ≡ false
not_double i e = grind arith

-- what the checks of a decoded word come to, with the facts that say so
pub data Checked (u c slot : Bool) (d : Result Instr Undecoded) : Result Instr Unready → Type 0 where
  go_on : {i : Instr} → Checked u c slot d (Ok i)
  unusable : {unit : ℕ} → Unusable u c d unit → Checked u c slot d (Err (unready.Unusable unit))
  reserved : IsReserved u c d → Checked u c slot d (Err unready.Reserved)
  in_slot : (i : Instr) → d ≡ Ok i → is_branch i ≡ true → slot ≡ true → both (locked u c) (is_cp0 i) ≡ false → Checked u c slot d (Err unready.InSlot)

pub checked : (u c slot : Bool) (d : Result Instr Undecoded) → Checked u c slot d (rules.ready u c slot d)
unfolding rules.ready usable allowed in_place reserved_cop0
checked u c slot d = grind (arith, Checked.go_on, Checked.unusable, Checked.reserved, Checked.in_slot, coprocessor, cp0, code_unusable, no_instruction, code_reserved, doubleword)

-- ---- and back

pub unusable_ready : (u c slot : Bool) {d : Result Instr Undecoded} {unit : ℕ} → Unusable u c d unit → rules.ready u c slot d ≡ Err (unready.Unusable unit)
unfolding rules.ready usable reserved_cop0
unusable_ready u c slot h = grind arith

pub reserved_ready : (u c slot : Bool) {d : Result Instr Undecoded} → IsReserved u c d → rules.ready u c slot d ≡ Err unready.Reserved
unfolding rules.ready usable allowed reserved_cop0
reserved_ready u c slot h = grind arith

pub slot_in : (u c slot : Bool) (i : Instr) → is_branch i ≡ true → slot ≡ true → both (locked u c) (is_cp0 i) ≡ false → rules.ready u c slot (Ok i) ≡ Err unready.InSlot
unfolding rules.ready usable allowed in_place
slot_in u c slot i b s l = grind (arith, not_double)
