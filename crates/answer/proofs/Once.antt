-- No two different outcomes satisfy a contract of this crate: each names its result and the whole buffer.
use Rattle.promise.specs.Unique.{Unique, same}
use Rattle.answer.proofs.texts.refusal_text.Kinds as refusal-text-kinds
use Rattle.answer.proofs.texts.refusal_text.Reads as refusal-text-reads
use Rattle.answer.proofs.texts.cardrun_text.Kinds as cardrun-text-kinds
use Rattle.answer.proofs.texts.cardrun_text.Reads as cardrun-text-reads
use Rattle.answer.proofs.texts.cardstate_text.Kinds as cardstate-text-kinds
use Rattle.answer.proofs.texts.cardstate_text.Reads as cardstate-text-reads
use Rattle.answer.proofs.texts.placed_text.Kinds as placed-text-kinds
use Rattle.answer.proofs.texts.placed_text.Reads as placed-text-reads
use Rattle.answer.proofs.texts.reason_text.Kinds as reason-text-kinds
use Rattle.answer.proofs.texts.reason_text.Reads as reason-text-reads
use Rattle.answer.proofs.texts.word_text.Kinds as word-text-kinds
use Rattle.answer.proofs.texts.word_text.Reads as word-text-reads

pub refusal_text_once : Unique refusal-text-kinds.ps refusal-text-kinds.r refusal-text-reads.Pre refusal-text-reads.Post
refusal_text_once κs a p z₁ z₂ ws₁ ws₂ h₁ h₂ = (same h₁.ends h₂.ends, λ i. (same h₁.filled h₂.filled i, (tt, (tt, tt))))

pub cardrun_text_once : Unique cardrun-text-kinds.ps cardrun-text-kinds.r cardrun-text-reads.Pre cardrun-text-reads.Post
cardrun_text_once κs a p z₁ z₂ ws₁ ws₂ h₁ h₂ = (same h₁.ends h₂.ends, λ i. (same h₁.filled h₂.filled i, (tt, tt)))

pub cardstate_text_once : Unique cardstate-text-kinds.ps cardstate-text-kinds.r cardstate-text-reads.Pre cardstate-text-reads.Post
cardstate_text_once κs a p z₁ z₂ ws₁ ws₂ h₁ h₂ = (same h₁.ends h₂.ends, λ i. (same h₁.filled h₂.filled i, (tt, (tt, tt))))

pub placed_text_once : Unique placed-text-kinds.ps placed-text-kinds.r placed-text-reads.Pre placed-text-reads.Post
placed_text_once κs a p z₁ z₂ ws₁ ws₂ h₁ h₂ = (same h₁.ends h₂.ends, λ i. (same h₁.filled h₂.filled i, (tt, (tt, (tt, (tt, (tt, (tt, tt))))))))

pub reason_text_once : Unique reason-text-kinds.ps reason-text-kinds.r reason-text-reads.Pre reason-text-reads.Post
reason_text_once κs a p z₁ z₂ ws₁ ws₂ h₁ h₂ = (same h₁.0.ends h₂.0.ends, λ i. (same h₁.0.filled h₂.0.filled i, (tt, (tt, (tt, tt)))))

pub word_text_once : Unique word-text-kinds.ps word-text-kinds.r word-text-reads.Pre word-text-reads.Post
word_text_once κs a p z₁ z₂ ws₁ ws₂ h₁ h₂ = (same h₁.0.ends h₂.0.ends, λ i. (same h₁.0.filled h₂.0.filled i, (tt, tt)))
