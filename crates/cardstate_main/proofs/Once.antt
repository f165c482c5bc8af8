-- No two different outcomes satisfy a contract of this crate.
use Rattle.promise.specs.Unique.{Unique, same}
use Rattle.cardstate_main.proofs.answer_to.Kinds as answer_to-kinds
use Rattle.cardstate_main.proofs.answer_to.Reads as answer_to-reads

pub answer_to_once : Unique answer_to-kinds.ps answer_to-kinds.r answer_to-reads.Pre answer_to-reads.Post
answer_to_once κs a p z₁ z₂ ws₁ ws₂ h₁ h₂ =
    (same h₁.0.ends h₂.0.ends, λ i. (tt, (same h₁.1 h₂.1 i, (tt, (tt, (same h₁.0.filled h₂.0.filled i, tt))))))
