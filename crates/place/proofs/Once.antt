-- No two different outcomes satisfy a contract of this crate.
use mathlib.Core.Path.{refl}
use Rattle.promise.specs.Unique.{Unique, same}
use Rattle.place.proofs.making.image_text.Kinds as image-text-kinds
use Rattle.place.proofs.making.image_text.Reads as image-text-reads
use Rattle.place.proofs.Refusal.number.Kinds as number-kinds
use Rattle.place.proofs.Refusal.number.Reads as number-reads
use Rattle.place.proofs.Refusal.file.Kinds as file-kinds
use Rattle.place.proofs.Refusal.file.Reads as file-reads
use Rattle.place.proofs.Refusal.about.Kinds as about-kinds
use Rattle.place.proofs.Refusal.about.Reads as about-reads

-- the answer and the lent buffer
pub image_text_once : Unique image-text-kinds.ps image-text-kinds.r image-text-reads.Pre image-text-reads.Post
image_text_once κs a p z₁ z₂ ws₁ ws₂ h₁ h₂ = (same h₁.answer h₂.answer, λ i. (tt, (tt, (tt, (tt, (same h₁.buffer h₂.buffer i, tt))))))

pub number_once : Unique number-kinds.ps number-kinds.r number-reads.Pre number-reads.Post
number_once κs a p z₁ z₂ ws₁ ws₂ h₁ h₂ = (same h₁ h₂, refl)

pub file_once : Unique file-kinds.ps file-kinds.r file-reads.Pre file-reads.Post
file_once κs a p z₁ z₂ ws₁ ws₂ h₁ h₂ = (same h₁ h₂, refl)

pub about_once : Unique about-kinds.ps about-kinds.r about-reads.Pre about-reads.Post
about_once κs a p z₁ z₂ ws₁ ws₂ h₁ h₂ = (same h₁ h₂, refl)
