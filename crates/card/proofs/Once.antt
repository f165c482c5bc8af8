-- No two different outcomes satisfy a contract of this crate.
use Rattle.std.proofs.Common.{ℕ, List, ◌≡◌, refl, ap}
use Rattle.promise.specs.Unique.{Unique, UniqueOf, both_say, same}
use Rattle.card.specs.declared.Machine.{Machine}
use Rattle.card.specs.declared.Cored.{Cored}
use Rattle.card.specs.Step.{Out, Did}
use Rattle.card.proofs.start.fresh.Kinds as fresh-kinds
use Rattle.card.proofs.start.fresh.Reads as fresh-reads
use Rattle.card.proofs.range.in_range.Kinds as in-range-kinds
use Rattle.card.proofs.range.in_range.Reads as in-range-reads
use Rattle.card.proofs.calls.refusal.Kinds as refusal-kinds
use Rattle.card.proofs.calls.refusal.Reads as refusal-reads
use Rattle.card.proofs.inner.put_reg.Kinds as put-reg-kinds
use Rattle.card.proofs.inner.put_reg.Reads as put-reg-reads
use Rattle.card.proofs.inner.core.Kinds as core-kinds
use Rattle.card.proofs.inner.core.Reads as core-reads
use Rattle.card.proofs.runs.step.Kinds as step-kinds
use Rattle.card.proofs.runs.step.Reads as step-reads
use Rattle.card.proofs.runs.run.Kinds as run-kinds
use Rattle.card.proofs.runs.run.Reads as run-reads
use Rattle.card.specs.contracts.lent.step_in as step_in

-- an outcome's parts follow from the outcome
did_same : {o : Out} {r₁ r₂ : Cored} {regs₁ regs₂ tlb₁ tlb₂ ram₁ ram₂ : List ℕ} → Did o r₁ regs₁ tlb₁ ram₁ → Did o r₂ regs₂ tlb₂ ram₂ → (r₁ ≡ r₂) × (regs₁ ≡ regs₂) × (tlb₁ ≡ tlb₂) × (ram₁ ≡ ram₂)
did_same d₁ d₂ =
    let m = same d₁.machine d₂.machine in
    (λ i. record { cpu = (m i).cpu; cp0 = (m i).cp0; stop = same d₁.stop d₂.stop i }, ap (λ (m : Machine). m.regs) m, ap (λ (m : Machine). m.tlb) m, same d₁.memory d₂.memory)

pub fresh_once : Unique fresh-kinds.ps fresh-kinds.r fresh-reads.Pre fresh-reads.Post
fresh_once κs a p z₁ z₂ ws₁ ws₂ h₁ h₂ = (same h₁ h₂, refl)

pub in_range_once : Unique in-range-kinds.ps in-range-kinds.r in-range-reads.Pre in-range-reads.Post
in_range_once κs a p z₁ z₂ ws₁ ws₂ h₁ h₂ = (same h₁ h₂, refl)

pub refusal_once : Unique refusal-kinds.ps refusal-kinds.r refusal-reads.Pre refusal-reads.Post
refusal_once κs a p z₁ z₂ ws₁ ws₂ h₁ h₂ = (same h₁ h₂, refl)

pub put_reg_once : Unique put-reg-kinds.ps put-reg-kinds.r put-reg-reads.Pre put-reg-reads.Post
put_reg_once κs a p z₁ z₂ ws₁ ws₂ h₁ h₂ = (refl, λ i. (same h₁ h₂ i, (tt, (tt, tt))))

pub core_once : Unique core-kinds.ps core-kinds.r core-reads.Pre core-reads.Post
core_once κs a p z₁ z₂ ws₁ ws₂ h₁ h₂ = ((did_same h₁ h₂).0, λ i. (tt, (tt, ((did_same h₁ h₂).1 i, ((did_same h₁ h₂).2 i, ((did_same h₁ h₂).3 i, (tt, (tt, tt))))))))

pub step_once : Unique step-kinds.ps step-kinds.r step-reads.Pre step-reads.Post
step_once κs a p z₁ z₂ ws₁ ws₂ h₁ h₂ = (same h₁.0 h₂.0, λ i. (tt, (same h₁.1 h₂.1 i, (tt, (tt, tt)))))

pub run_once : Unique run-kinds.ps run-kinds.r run-reads.Pre run-reads.Post
run_once κs a p z₁ z₂ ws₁ ws₂ h₁ h₂ = (same h₁.0 h₂.0, λ i. (tt, (same h₁.1 h₂.1 i, (tt, (tt, (tt, tt))))))

-- of the contract itself, in every model
pub step_in_once : UniqueOf step_in.ended (λ M 𝓤. step_in.clauses {M = M} {𝓤 = 𝓤})
step_in_once M 𝓤 𝓛 mem run κs a g z₁ z₂ ws₁ ws₂ = both_say 𝓤 _ _ _ (λ h₁ h₂. (same h₁.0 h₂.0, λ i. (same h₁.1 h₂.1 i, (same h₁.2 h₂.2 i, (tt, (tt, tt))))))
