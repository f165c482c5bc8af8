-- No two different outcomes satisfy a contract of this crate.
use Rattle.std.proofs.Common.{refl}
use Rattle.promise.specs.Unique.{Unique, same}
use Rattle.effect.proofs.asked.leads.Kinds as leads-kinds
use Rattle.effect.proofs.asked.leads.Reads as leads-reads
use Rattle.effect.proofs.asked.asked.Kinds as asked-kinds
use Rattle.effect.proofs.asked.asked.Reads as asked-reads
use Rattle.effect.proofs.asked.commanded.Kinds as commanded-kinds
use Rattle.effect.proofs.asked.commanded.Reads as commanded-reads
use Rattle.effect.proofs.asked.executed.Kinds as executed-kinds
use Rattle.effect.proofs.asked.executed.Reads as executed-reads
use Rattle.effect.proofs.after.cpu_after.Kinds as cpu-after-kinds
use Rattle.effect.proofs.after.cpu_after.Reads as cpu-after-reads
use Rattle.effect.proofs.after.cp0_after.Kinds as cp0-after-kinds
use Rattle.effect.proofs.after.cp0_after.Reads as cp0-after-reads
use Rattle.effect.proofs.step.effect_of.Kinds as effect-of-kinds
use Rattle.effect.proofs.step.effect_of.Reads as effect-of-reads

pub leads_once : Unique leads-kinds.ps leads-kinds.r leads-reads.Pre leads-reads.Post
leads_once κs a p z₁ z₂ ws₁ ws₂ h₁ h₂ = (same h₁ h₂, refl)

pub asked_once : Unique asked-kinds.ps asked-kinds.r asked-reads.Pre asked-reads.Post
asked_once κs a p z₁ z₂ ws₁ ws₂ h₁ h₂ = (same h₁ h₂, refl)

pub commanded_once : Unique commanded-kinds.ps commanded-kinds.r commanded-reads.Pre commanded-reads.Post
commanded_once κs a p z₁ z₂ ws₁ ws₂ h₁ h₂ = (same h₁ h₂, refl)

pub executed_once : Unique executed-kinds.ps executed-kinds.r executed-reads.Pre executed-reads.Post
executed_once κs a p z₁ z₂ ws₁ ws₂ h₁ h₂ = (same h₁ h₂, refl)

pub cpu_after_once : Unique cpu-after-kinds.ps cpu-after-kinds.r cpu-after-reads.Pre cpu-after-reads.Post
cpu_after_once κs a p z₁ z₂ ws₁ ws₂ h₁ h₂ = (same h₁ h₂, refl)

pub cp0_after_once : Unique cp0-after-kinds.ps cp0-after-kinds.r cp0-after-reads.Pre cp0-after-reads.Post
cp0_after_once κs a p z₁ z₂ ws₁ ws₂ h₁ h₂ = (same h₁ h₂, refl)

pub effect_of_once : Unique effect-of-kinds.ps effect-of-kinds.r effect-of-reads.Pre effect-of-reads.Post
effect_of_once κs a p z₁ z₂ ws₁ ws₂ h₁ h₂ = (same h₁ h₂, refl)
