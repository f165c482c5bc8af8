-- No two different outcomes satisfy a contract of this crate.
use Rattle.std.proofs.Common.{refl}
use Rattle.promise.specs.Unique.{Unique, same}
use Rattle.flow.proofs.branches.branch.Kinds as branch-kinds
use Rattle.flow.proofs.branches.branch.Reads as branch-reads
use Rattle.flow.proofs.jumps.jump.Kinds as jump-kinds
use Rattle.flow.proofs.jumps.jump.Reads as jump-reads
use Rattle.flow.proofs.jumps.jump_register.Kinds as jump-register-kinds
use Rattle.flow.proofs.jumps.jump_register.Reads as jump-register-reads

pub branch_once : Unique branch-kinds.ps branch-kinds.r branch-reads.Pre branch-reads.Post
branch_once κs a p z₁ z₂ ws₁ ws₂ h₁ h₂ = (same h₁ h₂, refl)

pub jump_once : Unique jump-kinds.ps jump-kinds.r jump-reads.Pre jump-reads.Post
jump_once κs a p z₁ z₂ ws₁ ws₂ h₁ h₂ = (same h₁ h₂, refl)

pub jump_register_once : Unique jump-register-kinds.ps jump-register-kinds.r jump-register-reads.Pre jump-register-reads.Post
jump_register_once κs a p z₁ z₂ ws₁ ws₂ h₁ h₂ = (same h₁ h₂, refl)
