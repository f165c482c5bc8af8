-- No two different outcomes satisfy a contract of this crate.
use mathlib.Core.Path.{refl}
use Rattle.promise.specs.Unique.{Unique, same}
use Rattle.image.proofs.allowed.allowed.Kinds as allowed-kinds
use Rattle.image.proofs.allowed.allowed.Reads as allowed-reads
use Rattle.image.proofs.refusals.image_refusal.Kinds as image-refusal-kinds
use Rattle.image.proofs.refusals.image_refusal.Reads as image-refusal-reads
use Rattle.image.proofs.acts.act.Kinds as act-kinds
use Rattle.image.proofs.acts.act.Reads as act-reads
use Rattle.image.proofs.read_image.Kinds as read-image-kinds
use Rattle.image.proofs.read_image.Reads as read-image-reads

pub allowed_once : Unique allowed-kinds.ps allowed-kinds.r allowed-reads.Pre allowed-reads.Post
allowed_once κs a p z₁ z₂ ws₁ ws₂ h₁ h₂ = (same h₁ h₂, refl)

pub image_refusal_once : Unique image-refusal-kinds.ps image-refusal-kinds.r image-refusal-reads.Pre image-refusal-reads.Post
image_refusal_once κs a p z₁ z₂ ws₁ ws₂ h₁ h₂ = (same h₁ h₂, refl)

-- the machine, RAM and the budget
pub act_once : Unique act-kinds.ps act-kinds.r act-reads.Pre act-reads.Post
act_once κs a p z₁ z₂ ws₁ ws₂ h₁ h₂ =
    (refl, λ i. let w = same h₁ h₂ i in (tt, (w.machine, (w.ram, (w.budget, tt)))))

-- the image and RAM
pub read_image_once : Unique read-image-kinds.ps read-image-kinds.r read-image-reads.Pre read-image-reads.Post
read_image_once κs a p z₁ z₂ ws₁ ws₂ h₁ h₂ = (same h₁.0 h₂.0, λ i. (tt, (same h₁.1 h₂.1 i, tt)))
