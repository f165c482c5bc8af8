-- No two different outcomes satisfy a contract of this crate.
use Rattle.std.proofs.Common.{refl}
use Rattle.promise.specs.Unique.{Unique, same}
use Rattle.cp0.proofs.status.user.Kinds as user-kinds
use Rattle.cp0.proofs.status.user.Reads as user-reads
use Rattle.cp0.proofs.status.mode_of.Kinds as mode-of-kinds
use Rattle.cp0.proofs.status.mode_of.Reads as mode-of-reads
use Rattle.cp0.proofs.status.cause_read.Kinds as cause-read-kinds
use Rattle.cp0.proofs.status.cause_read.Reads as cause-read-reads
use Rattle.cp0.proofs.status.interrupted.Kinds as interrupted-kinds
use Rattle.cp0.proofs.status.interrupted.Reads as interrupted-reads
use Rattle.cp0.proofs.registers.kept.Kinds as kept-kinds
use Rattle.cp0.proofs.registers.kept.Reads as kept-reads
use Rattle.cp0.proofs.registers.low.Kinds as low-kinds
use Rattle.cp0.proofs.registers.low.Reads as low_reads
use Rattle.cp0.proofs.registers.kept_index.Kinds as kept-index-kinds
use Rattle.cp0.proofs.registers.kept_index.Reads as kept-index-reads
use Rattle.cp0.proofs.registers.kept_entrylo.Kinds as kept-entrylo-kinds
use Rattle.cp0.proofs.registers.kept_entrylo.Reads as kept-entrylo-reads
use Rattle.cp0.proofs.registers.kept_wired.Kinds as kept-wired-kinds
use Rattle.cp0.proofs.registers.kept_wired.Reads as kept-wired-reads
use Rattle.cp0.proofs.registers.kept_entryhi.Kinds as kept-entryhi-kinds
use Rattle.cp0.proofs.registers.kept_entryhi.Reads as kept-entryhi-reads
use Rattle.cp0.proofs.registers.kept_status.Kinds as kept-status-kinds
use Rattle.cp0.proofs.registers.kept_status.Reads as kept-status-reads
use Rattle.cp0.proofs.registers.kept_context.Kinds as kept-context-kinds
use Rattle.cp0.proofs.registers.kept_context.Reads as kept-context-reads
use Rattle.cp0.proofs.registers.kept_cause.Kinds as kept-cause-kinds
use Rattle.cp0.proofs.registers.kept_cause.Reads as kept-cause-reads
use Rattle.cp0.proofs.registers.linked.Kinds as linked-kinds
use Rattle.cp0.proofs.registers.linked.Reads as linked-reads
use Rattle.cp0.proofs.registers.probed.Kinds as probed-kinds
use Rattle.cp0.proofs.registers.probed.Reads as probed-reads
use Rattle.cp0.proofs.registers.slot_read.Kinds as slot-read-kinds
use Rattle.cp0.proofs.registers.slot_read.Reads as slot-read-reads
use Rattle.cp0.proofs.registers.fresh_cp0.Kinds as fresh-cp0-kinds
use Rattle.cp0.proofs.registers.fresh_cp0.Reads as fresh-cp0-reads
use Rattle.cp0.proofs.moves.move_out.Kinds as move-out-kinds
use Rattle.cp0.proofs.moves.move_out.Reads as move-out-reads
use Rattle.cp0.proofs.moves.move_in.Kinds as move-in-kinds
use Rattle.cp0.proofs.moves.move_in.Reads as move-in-reads
use Rattle.cp0.proofs.moves.built_status.Kinds as built-status-kinds
use Rattle.cp0.proofs.moves.built_status.Reads as built-status-reads
use Rattle.cp0.proofs.moves.check_move.Kinds as check-move-kinds
use Rattle.cp0.proofs.moves.check_move.Reads as check-move-reads
use Rattle.cp0.proofs.exceptions.entered.Kinds as entered-kinds
use Rattle.cp0.proofs.exceptions.entered.Reads as entered-reads
use Rattle.cp0.proofs.exceptions.vector.Kinds as vector-kinds
use Rattle.cp0.proofs.exceptions.vector.Reads as vector-reads
use Rattle.cp0.proofs.exceptions.return_to.Kinds as return-to-kinds
use Rattle.cp0.proofs.exceptions.return_to.Reads as return-to-reads
use Rattle.cp0.proofs.exceptions.returned.Kinds as returned-kinds
use Rattle.cp0.proofs.exceptions.returned.Reads as returned-reads
use Rattle.cp0.proofs.tick.ended.Kinds as ended-kinds
use Rattle.cp0.proofs.tick.ended.Reads as ended-reads
use Rattle.cp0.proofs.range.cp0_in_range.Kinds as cp0-in-range-kinds
use Rattle.cp0.proofs.range.cp0_in_range.Reads as cp0-in-range-reads

pub user_once : Unique user-kinds.ps user-kinds.r user-reads.Pre user-reads.Post
user_once κs a p z₁ z₂ ws₁ ws₂ h₁ h₂ = (same h₁ h₂, refl)

pub mode_of_once : Unique mode-of-kinds.ps mode-of-kinds.r mode-of-reads.Pre mode-of-reads.Post
mode_of_once κs a p z₁ z₂ ws₁ ws₂ h₁ h₂ = (same h₁ h₂, refl)

pub cause_read_once : Unique cause-read-kinds.ps cause-read-kinds.r cause-read-reads.Pre cause-read-reads.Post
cause_read_once κs a p z₁ z₂ ws₁ ws₂ h₁ h₂ = (same h₁ h₂, refl)

pub interrupted_once : Unique interrupted-kinds.ps interrupted-kinds.r interrupted-reads.Pre interrupted-reads.Post
interrupted_once κs a p z₁ z₂ ws₁ ws₂ h₁ h₂ = (same h₁ h₂, refl)

pub kept_once : Unique kept-kinds.ps kept-kinds.r kept-reads.Pre kept-reads.Post
kept_once κs a p z₁ z₂ ws₁ ws₂ h₁ h₂ = (same h₁ h₂, refl)

pub low_once : Unique low-kinds.ps low-kinds.r low_reads.Pre low_reads.Post
low_once κs a p z₁ z₂ ws₁ ws₂ h₁ h₂ = (same h₁ h₂, refl)

pub kept_index_once : Unique kept-index-kinds.ps kept-index-kinds.r kept-index-reads.Pre kept-index-reads.Post
kept_index_once κs a p z₁ z₂ ws₁ ws₂ h₁ h₂ = (same h₁ h₂, refl)

pub kept_entrylo_once : Unique kept-entrylo-kinds.ps kept-entrylo-kinds.r kept-entrylo-reads.Pre kept-entrylo-reads.Post
kept_entrylo_once κs a p z₁ z₂ ws₁ ws₂ h₁ h₂ = (same h₁ h₂, refl)

pub kept_wired_once : Unique kept-wired-kinds.ps kept-wired-kinds.r kept-wired-reads.Pre kept-wired-reads.Post
kept_wired_once κs a p z₁ z₂ ws₁ ws₂ h₁ h₂ = (same h₁ h₂, refl)

pub kept_entryhi_once : Unique kept-entryhi-kinds.ps kept-entryhi-kinds.r kept-entryhi-reads.Pre kept-entryhi-reads.Post
kept_entryhi_once κs a p z₁ z₂ ws₁ ws₂ h₁ h₂ = (same h₁ h₂, refl)

pub kept_status_once : Unique kept-status-kinds.ps kept-status-kinds.r kept-status-reads.Pre kept-status-reads.Post
kept_status_once κs a p z₁ z₂ ws₁ ws₂ h₁ h₂ = (same h₁ h₂, refl)

pub kept_context_once : Unique kept-context-kinds.ps kept-context-kinds.r kept-context-reads.Pre kept-context-reads.Post
kept_context_once κs a p z₁ z₂ ws₁ ws₂ h₁ h₂ = (same h₁ h₂, refl)

pub kept_cause_once : Unique kept-cause-kinds.ps kept-cause-kinds.r kept-cause-reads.Pre kept-cause-reads.Post
kept_cause_once κs a p z₁ z₂ ws₁ ws₂ h₁ h₂ = (same h₁ h₂, refl)

pub linked_once : Unique linked-kinds.ps linked-kinds.r linked-reads.Pre linked-reads.Post
linked_once κs a p z₁ z₂ ws₁ ws₂ h₁ h₂ = (same h₁ h₂, refl)

pub probed_once : Unique probed-kinds.ps probed-kinds.r probed-reads.Pre probed-reads.Post
probed_once κs a p z₁ z₂ ws₁ ws₂ h₁ h₂ = (same h₁ h₂, refl)

pub slot_read_once : Unique slot-read-kinds.ps slot-read-kinds.r slot-read-reads.Pre slot-read-reads.Post
slot_read_once κs a p z₁ z₂ ws₁ ws₂ h₁ h₂ = (same h₁ h₂, refl)

pub fresh_cp0_once : Unique fresh-cp0-kinds.ps fresh-cp0-kinds.r fresh-cp0-reads.Pre fresh-cp0-reads.Post
fresh_cp0_once κs a p z₁ z₂ ws₁ ws₂ h₁ h₂ = (same h₁ h₂, refl)

pub move_out_once : Unique move-out-kinds.ps move-out-kinds.r move-out-reads.Pre move-out-reads.Post
move_out_once κs a p z₁ z₂ ws₁ ws₂ h₁ h₂ = (same h₁ h₂, refl)

pub move_in_once : Unique move-in-kinds.ps move-in-kinds.r move-in-reads.Pre move-in-reads.Post
move_in_once κs a p z₁ z₂ ws₁ ws₂ h₁ h₂ = (same h₁ h₂, refl)

pub built_status_once : Unique built-status-kinds.ps built-status-kinds.r built-status-reads.Pre built-status-reads.Post
built_status_once κs a p z₁ z₂ ws₁ ws₂ h₁ h₂ = (same h₁ h₂, refl)

pub check_move_once : Unique check-move-kinds.ps check-move-kinds.r check-move-reads.Pre check-move-reads.Post
check_move_once κs a p z₁ z₂ ws₁ ws₂ h₁ h₂ = (same h₁ h₂, refl)

pub entered_once : Unique entered-kinds.ps entered-kinds.r entered-reads.Pre entered-reads.Post
entered_once κs a p z₁ z₂ ws₁ ws₂ h₁ h₂ = (same h₁ h₂, refl)

pub vector_once : Unique vector-kinds.ps vector-kinds.r vector-reads.Pre vector-reads.Post
vector_once κs a p z₁ z₂ ws₁ ws₂ h₁ h₂ = (same h₁ h₂, refl)

pub return_to_once : Unique return-to-kinds.ps return-to-kinds.r return-to-reads.Pre return-to-reads.Post
return_to_once κs a p z₁ z₂ ws₁ ws₂ h₁ h₂ = (same h₁ h₂, refl)

pub returned_once : Unique returned-kinds.ps returned-kinds.r returned-reads.Pre returned-reads.Post
returned_once κs a p z₁ z₂ ws₁ ws₂ h₁ h₂ = (same h₁ h₂, refl)

pub ended_once : Unique ended-kinds.ps ended-kinds.r ended-reads.Pre ended-reads.Post
ended_once κs a p z₁ z₂ ws₁ ws₂ h₁ h₂ = (same h₁ h₂, refl)

pub cp0_in_range_once : Unique cp0-in-range-kinds.ps cp0-in-range-kinds.r cp0-in-range-reads.Pre cp0-in-range-reads.Post
cp0_in_range_once κs a p z₁ z₂ ws₁ ws₂ h₁ h₂ = (same h₁ h₂, refl)
