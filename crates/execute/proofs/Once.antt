-- No two different results satisfy the contract of a function of this crate.
use Rattle.std.proofs.Common.{refl}
use Rattle.promise.specs.Unique.{Unique, same}
use Rattle.execute.proofs.arithmetic.arithmetic.Kinds as arithmetic-kinds
use Rattle.execute.proofs.arithmetic.arithmetic.Reads as arithmetic-reads
use Rattle.execute.proofs.arithmetic.arithmetic_immediate.Kinds as arithmetic-immediate-kinds
use Rattle.execute.proofs.arithmetic.arithmetic_immediate.Reads as arithmetic-immediate-reads
use Rattle.execute.proofs.logic.logic.Kinds as logic-kinds
use Rattle.execute.proofs.logic.logic.Reads as logic-reads
use Rattle.execute.proofs.logic.logic_immediate.Kinds as logic-immediate-kinds
use Rattle.execute.proofs.logic.logic_immediate.Reads as logic-immediate-reads
use Rattle.execute.proofs.shifts.shift.Kinds as shift_kinds
use Rattle.execute.proofs.shifts.shift.Reads as shift-reads
use Rattle.execute.proofs.shifts.shift_variable.Kinds as shift-variable-kinds
use Rattle.execute.proofs.shifts.shift_variable.Reads as shift-variable-reads
use Rattle.execute.proofs.multiply.multiply.Kinds as multiply-kinds
use Rattle.execute.proofs.multiply.multiply.Reads as multiply-reads
use Rattle.execute.proofs.multiply.move_hi_lo.Kinds as move-hi-lo-kinds
use Rattle.execute.proofs.multiply.move_hi_lo.Reads as move-hi-lo-reads
use Rattle.execute.proofs.traps.trap.Kinds as trap-kinds
use Rattle.execute.proofs.traps.trap.Reads as trap-reads
use Rattle.execute.proofs.traps.trap_immediate.Kinds as trap-immediate-kinds
use Rattle.execute.proofs.traps.trap_immediate.Reads as trap-immediate-reads
use Rattle.execute.proofs.system.special.Kinds as special-kinds
use Rattle.execute.proofs.system.special.Reads as special-reads
use Rattle.execute.proofs.system.move_cp0.Kinds as move-cp0-kinds
use Rattle.execute.proofs.system.move_cp0.Reads as move-cp0-reads
use Rattle.execute.proofs.load_store.load.Kinds as load-kinds
use Rattle.execute.proofs.load_store.load.Reads as load-reads
use Rattle.execute.proofs.load_store.store.Kinds as store-kinds
use Rattle.execute.proofs.load_store.store.Reads as store-reads
use Rattle.execute.proofs.load_store.load_align.Kinds as load-align-kinds
use Rattle.execute.proofs.load_store.load_align.Reads as load-align-reads
use Rattle.execute.proofs.load_store.store_align.Kinds as store-align-kinds
use Rattle.execute.proofs.load_store.store_align.Reads as store-align-reads
use Rattle.execute.proofs.load_store.finish.Kinds as finish-kinds
use Rattle.execute.proofs.load_store.finish.Reads as finish-reads
use Rattle.execute.proofs.load_store.goes_out.Kinds as goes-out-kinds
use Rattle.execute.proofs.load_store.goes_out.Reads as goes-out-reads
use Rattle.execute.proofs.execute.Kinds as execute-kinds
use Rattle.execute.proofs.execute.Reads as execute-reads

pub arithmetic_once : Unique arithmetic-kinds.ps arithmetic-kinds.r arithmetic-reads.Pre arithmetic-reads.Post
arithmetic_once κs a p z₁ z₂ ws₁ ws₂ h₁ h₂ = (same h₁ h₂, refl)

pub arithmetic_immediate_once : Unique arithmetic-immediate-kinds.ps arithmetic-immediate-kinds.r arithmetic-immediate-reads.Pre arithmetic-immediate-reads.Post
arithmetic_immediate_once κs a p z₁ z₂ ws₁ ws₂ h₁ h₂ = (same h₁ h₂, refl)

pub logic_once : Unique logic-kinds.ps logic-kinds.r logic-reads.Pre logic-reads.Post
logic_once κs a p z₁ z₂ ws₁ ws₂ h₁ h₂ = (same h₁ h₂, refl)

pub logic_immediate_once : Unique logic-immediate-kinds.ps logic-immediate-kinds.r logic-immediate-reads.Pre logic-immediate-reads.Post
logic_immediate_once κs a p z₁ z₂ ws₁ ws₂ h₁ h₂ = (same h₁ h₂, refl)

pub shift_once : Unique shift_kinds.ps shift_kinds.r shift-reads.Pre shift-reads.Post
shift_once κs a p z₁ z₂ ws₁ ws₂ h₁ h₂ = (same h₁ h₂, refl)

pub shift_variable_once : Unique shift-variable-kinds.ps shift-variable-kinds.r shift-variable-reads.Pre shift-variable-reads.Post
shift_variable_once κs a p z₁ z₂ ws₁ ws₂ h₁ h₂ = (same h₁ h₂, refl)

pub multiply_once : Unique multiply-kinds.ps multiply-kinds.r multiply-reads.Pre multiply-reads.Post
multiply_once κs a p z₁ z₂ ws₁ ws₂ h₁ h₂ = (same h₁ h₂, refl)

pub move_hi_lo_once : Unique move-hi-lo-kinds.ps move-hi-lo-kinds.r move-hi-lo-reads.Pre move-hi-lo-reads.Post
move_hi_lo_once κs a p z₁ z₂ ws₁ ws₂ h₁ h₂ = (same h₁ h₂, refl)

pub trap_once : Unique trap-kinds.ps trap-kinds.r trap-reads.Pre trap-reads.Post
trap_once κs a p z₁ z₂ ws₁ ws₂ h₁ h₂ = (same h₁ h₂, refl)

pub trap_immediate_once : Unique trap-immediate-kinds.ps trap-immediate-kinds.r trap-immediate-reads.Pre trap-immediate-reads.Post
trap_immediate_once κs a p z₁ z₂ ws₁ ws₂ h₁ h₂ = (same h₁ h₂, refl)

pub special_once : Unique special-kinds.ps special-kinds.r special-reads.Pre special-reads.Post
special_once κs a p z₁ z₂ ws₁ ws₂ h₁ h₂ = (same h₁ h₂, refl)

pub move_cp0_once : Unique move-cp0-kinds.ps move-cp0-kinds.r move-cp0-reads.Pre move-cp0-reads.Post
move_cp0_once κs a p z₁ z₂ ws₁ ws₂ h₁ h₂ = (same h₁ h₂, refl)

pub load_once : Unique load-kinds.ps load-kinds.r load-reads.Pre load-reads.Post
load_once κs a p z₁ z₂ ws₁ ws₂ h₁ h₂ = (same h₁ h₂, refl)

pub store_once : Unique store-kinds.ps store-kinds.r store-reads.Pre store-reads.Post
store_once κs a p z₁ z₂ ws₁ ws₂ h₁ h₂ = (same h₁ h₂, refl)

pub load_align_once : Unique load-align-kinds.ps load-align-kinds.r load-align-reads.Pre load-align-reads.Post
load_align_once κs a p z₁ z₂ ws₁ ws₂ h₁ h₂ = (same h₁ h₂, refl)

pub store_align_once : Unique store-align-kinds.ps store-align-kinds.r store-align-reads.Pre store-align-reads.Post
store_align_once κs a p z₁ z₂ ws₁ ws₂ h₁ h₂ = (same h₁ h₂, refl)

pub finish_once : Unique finish-kinds.ps finish-kinds.r finish-reads.Pre finish-reads.Post
finish_once κs a p z₁ z₂ ws₁ ws₂ h₁ h₂ = (same h₁ h₂, refl)

pub goes_out_once : Unique goes-out-kinds.ps goes-out-kinds.r goes-out-reads.Pre goes-out-reads.Post
goes_out_once κs a p z₁ z₂ ws₁ ws₂ h₁ h₂ = (same h₁ h₂, refl)

pub execute_once : Unique execute-kinds.ps execute-kinds.r execute-reads.Pre execute-reads.Post
execute_once κs a p z₁ z₂ ws₁ ws₂ h₁ h₂ = (same h₁ h₂, refl)
