-- No two different outcomes satisfy a contract of this crate.
use mathlib.Core.Path.{refl}
use Rattle.promise.specs.Unique.{Unique, same}
use Rattle.usability.proofs.checks.ready.Kinds as ready-kinds
use Rattle.usability.proofs.checks.ready.Reads as ready-reads
use Rattle.usability.proofs.checks.is_cp0.Kinds as is-cp0-kinds
use Rattle.usability.proofs.checks.is_cp0.Reads as is-cp0-reads
use Rattle.usability.proofs.checks.is_branch.Kinds as is-branch-kinds
use Rattle.usability.proofs.checks.is_branch.Reads as is-branch-reads
use Rattle.usability.proofs.doubleword.double_load.Kinds as double-load-kinds
use Rattle.usability.proofs.doubleword.double_load.Reads as double-load-reads
use Rattle.usability.proofs.doubleword.double_store.Kinds as double-store-kinds
use Rattle.usability.proofs.doubleword.double_store.Reads as double-store-reads
use Rattle.usability.proofs.doubleword.double_arithmetic.Kinds as double-arithmetic-kinds
use Rattle.usability.proofs.doubleword.double_arithmetic.Reads as double-arithmetic-reads
use Rattle.usability.proofs.doubleword.double_immediate.Kinds as double-immediate-kinds
use Rattle.usability.proofs.doubleword.double_immediate.Reads as double-immediate-reads
use Rattle.usability.proofs.doubleword.double_shift.Kinds as double-shift-kinds
use Rattle.usability.proofs.doubleword.double_shift.Reads as double-shift-reads
use Rattle.usability.proofs.doubleword.double_shift_variable.Kinds as double-shift-variable-kinds
use Rattle.usability.proofs.doubleword.double_shift_variable.Reads as double-shift-variable-reads
use Rattle.usability.proofs.doubleword.double_multiply.Kinds as double-multiply-kinds
use Rattle.usability.proofs.doubleword.double_multiply.Reads as double-multiply-reads
use Rattle.usability.proofs.doubleword.double_move.Kinds as double-move-kinds
use Rattle.usability.proofs.doubleword.double_move.Reads as double-move-reads
use Rattle.usability.proofs.doubleword.is_double.Kinds as is-double-kinds
use Rattle.usability.proofs.doubleword.is_double.Reads as is-double-reads

pub double_load_once : Unique double-load-kinds.ps double-load-kinds.r double-load-reads.Pre double-load-reads.Post
double_load_once κs a p z₁ z₂ ws₁ ws₂ h₁ h₂ = (same h₁ h₂, refl)

pub double_store_once : Unique double-store-kinds.ps double-store-kinds.r double-store-reads.Pre double-store-reads.Post
double_store_once κs a p z₁ z₂ ws₁ ws₂ h₁ h₂ = (same h₁ h₂, refl)

pub double_arithmetic_once : Unique double-arithmetic-kinds.ps double-arithmetic-kinds.r double-arithmetic-reads.Pre double-arithmetic-reads.Post
double_arithmetic_once κs a p z₁ z₂ ws₁ ws₂ h₁ h₂ = (same h₁ h₂, refl)

pub double_immediate_once : Unique double-immediate-kinds.ps double-immediate-kinds.r double-immediate-reads.Pre double-immediate-reads.Post
double_immediate_once κs a p z₁ z₂ ws₁ ws₂ h₁ h₂ = (same h₁ h₂, refl)

pub double_shift_once : Unique double-shift-kinds.ps double-shift-kinds.r double-shift-reads.Pre double-shift-reads.Post
double_shift_once κs a p z₁ z₂ ws₁ ws₂ h₁ h₂ = (same h₁ h₂, refl)

pub double_shift_variable_once : Unique double-shift-variable-kinds.ps double-shift-variable-kinds.r double-shift-variable-reads.Pre double-shift-variable-reads.Post
double_shift_variable_once κs a p z₁ z₂ ws₁ ws₂ h₁ h₂ = (same h₁ h₂, refl)

pub double_multiply_once : Unique double-multiply-kinds.ps double-multiply-kinds.r double-multiply-reads.Pre double-multiply-reads.Post
double_multiply_once κs a p z₁ z₂ ws₁ ws₂ h₁ h₂ = (same h₁ h₂, refl)

pub double_move_once : Unique double-move-kinds.ps double-move-kinds.r double-move-reads.Pre double-move-reads.Post
double_move_once κs a p z₁ z₂ ws₁ ws₂ h₁ h₂ = (same h₁ h₂, refl)

pub is_double_once : Unique is-double-kinds.ps is-double-kinds.r is-double-reads.Pre is-double-reads.Post
is_double_once κs a p z₁ z₂ ws₁ ws₂ h₁ h₂ = (same h₁ h₂, refl)

pub is_cp0_once : Unique is-cp0-kinds.ps is-cp0-kinds.r is-cp0-reads.Pre is-cp0-reads.Post
is_cp0_once κs a p z₁ z₂ ws₁ ws₂ h₁ h₂ = (same h₁ h₂, refl)

pub is_branch_once : Unique is-branch-kinds.ps is-branch-kinds.r is-branch-reads.Pre is-branch-reads.Post
is_branch_once κs a p z₁ z₂ ws₁ ws₂ h₁ h₂ = (same h₁ h₂, refl)

pub ready_once : Unique ready-kinds.ps ready-kinds.r ready-reads.Pre ready-reads.Post
ready_once κs a p z₁ z₂ ws₁ ws₂ h₁ h₂ = (same h₁ h₂, refl)
