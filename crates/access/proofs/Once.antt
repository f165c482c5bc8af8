-- No two different outcomes satisfy a contract of this crate.
use Rattle.std.proofs.Common.{refl}
use Rattle.promise.specs.Unique.{Unique, same}
use Rattle.access.proofs.Stop.number.Kinds as number-kinds
use Rattle.access.proofs.Stop.number.Reads as number-reads
use Rattle.access.proofs.build.counted.Kinds as counted-kinds
use Rattle.access.proofs.build.counted.Reads as counted-reads
use Rattle.access.proofs.build.turned.Kinds as turned-kinds
use Rattle.access.proofs.build.turned.Reads as turned-reads
use Rattle.access.proofs.build.wrote.Kinds as wrote-kinds
use Rattle.access.proofs.build.wrote.Reads as wrote-reads
use Rattle.access.proofs.build.raised.Kinds as raised-kinds
use Rattle.access.proofs.build.raised.Reads as raised-reads
use Rattle.access.proofs.build.stopped.Kinds as stopped-kinds
use Rattle.access.proofs.build.stopped.Reads as stopped-reads
use Rattle.access.proofs.data.linking.Kinds as linking-kinds
use Rattle.access.proofs.data.linking.Reads as linking-reads
use Rattle.access.proofs.data.got.Kinds as got-kinds
use Rattle.access.proofs.data.got.Reads as got-reads
use Rattle.access.proofs.data.loaded.Kinds as loaded-kinds
use Rattle.access.proofs.data.loaded.Reads as loaded-reads
use Rattle.access.proofs.data.sending.Kinds as sending-kinds
use Rattle.access.proofs.data.sending.Reads as sending-reads
use Rattle.access.proofs.data.sent.Kinds as sent-kinds
use Rattle.access.proofs.data.sent.Reads as sent-reads
use Rattle.access.proofs.data.saved.Kinds as saved-kinds
use Rattle.access.proofs.data.saved.Reads as saved-reads
use Rattle.access.proofs.fetch.word_at.Kinds as word-at-kinds
use Rattle.access.proofs.fetch.word_at.Reads as word-at-reads

pub number_once : Unique number-kinds.ps number-kinds.r number-reads.Pre number-reads.Post
number_once κs a p z₁ z₂ ws₁ ws₂ h₁ h₂ = (same h₁ h₂, refl)

pub counted_once : Unique counted-kinds.ps counted-kinds.r counted-reads.Pre counted-reads.Post
counted_once κs a p z₁ z₂ ws₁ ws₂ h₁ h₂ = (same h₁ h₂, refl)

pub turned_once : Unique turned-kinds.ps turned-kinds.r turned-reads.Pre turned-reads.Post
turned_once κs a p z₁ z₂ ws₁ ws₂ h₁ h₂ = (same h₁ h₂, refl)

pub wrote_once : Unique wrote-kinds.ps wrote-kinds.r wrote-reads.Pre wrote-reads.Post
wrote_once κs a p z₁ z₂ ws₁ ws₂ h₁ h₂ = (same h₁ h₂, refl)

pub raised_once : Unique raised-kinds.ps raised-kinds.r raised-reads.Pre raised-reads.Post
raised_once κs a p z₁ z₂ ws₁ ws₂ h₁ h₂ = (same h₁ h₂, refl)

pub stopped_once : Unique stopped-kinds.ps stopped-kinds.r stopped-reads.Pre stopped-reads.Post
stopped_once κs a p z₁ z₂ ws₁ ws₂ h₁ h₂ = (same h₁ h₂, refl)

pub linking_once : Unique linking-kinds.ps linking-kinds.r linking-reads.Pre linking-reads.Post
linking_once κs a p z₁ z₂ ws₁ ws₂ h₁ h₂ = (same h₁ h₂, refl)

pub got_once : Unique got-kinds.ps got-kinds.r got-reads.Pre got-reads.Post
got_once κs a p z₁ z₂ ws₁ ws₂ h₁ h₂ = (same h₁ h₂, refl)

pub loaded_once : Unique loaded-kinds.ps loaded-kinds.r loaded-reads.Pre loaded-reads.Post
loaded_once κs a p z₁ z₂ ws₁ ws₂ h₁ h₂ = (same h₁ h₂, refl)

pub sending_once : Unique sending-kinds.ps sending-kinds.r sending-reads.Pre sending-reads.Post
sending_once κs a p z₁ z₂ ws₁ ws₂ h₁ h₂ = (same h₁ h₂, refl)

pub sent_once : Unique sent-kinds.ps sent-kinds.r sent-reads.Pre sent-reads.Post
sent_once κs a p z₁ z₂ ws₁ ws₂ h₁ h₂ = (same h₁ h₂, refl)

pub saved_once : Unique saved-kinds.ps saved-kinds.r saved-reads.Pre saved-reads.Post
saved_once κs a p z₁ z₂ ws₁ ws₂ h₁ h₂ = (same h₁ h₂, refl)

pub word_at_once : Unique word-at-kinds.ps word-at-kinds.r word-at-reads.Pre word-at-reads.Post
word_at_once κs a p z₁ z₂ ws₁ ws₂ h₁ h₂ = (same h₁ h₂, refl)
