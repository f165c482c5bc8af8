-- What the code of a step did is a step, and the turns of a run's loop.
use Rattle.std.proofs.Common.{ℕ, suc, ◌+◌, ◌-◌, ◌<◌, ◌≤◌, ◌≡◌, refl, sym, ◌∙◌, ap, true, false, List, arith, eq-eqb, ne_eqb}
use Rattle.std.proofs.Math.Dec.{eqb}
use Rattle.memory.specs.Memory.{read}
use Rattle.memory.specs.Stores.{put_bytes}
use Rattle.tlb.specs.Slot.{put_slot}
use Rattle.cp0.specs.declared.Cp0.{Cp0}
use Rattle.access.specs.declared.Effect.{Effect}
use Rattle.access.specs.Effect.{number_of}
use Rattle.effect.specs.declared.Cpu.{Cpu}
use Rattle.effect.specs.Step.{effect_of}
use Rattle.effect.specs.After.{cpu_after, cp0_after}
use Rattle.card.specs.declared.Machine.{Machine}
use Rattle.card.specs.declared.Cored.{Cored}
use Rattle.card.specs.Machine.{machine}
use Rattle.card.specs.Step.{Did, apply, put_reg, step_of}
use Rattle.card.specs.Run.{Whole, whole, plus, following, refusal, steps, run_of}

-- what `core` computed and wrote is the outcome
module _ (cpu : Cpu) (cp0 : Cp0) (regs tlb ram rom : List ℕ) (lines : ℕ) (e : Effect) (E : e ≡ effect_of cpu cp0 regs tlb (read ram rom) lines) where
  pub core_did :
      (cpu' : Cpu) (cp0' : Cp0) (regs' tlb' ram' : List ℕ) → cpu' ≡ cpu_after cpu cp0 e.turn → cp0' ≡ cp0_after cpu.pc cpu.slot cp0 e.turn
      → regs' ≡ put_reg regs e.reg e.value → tlb' ≡ put_slot tlb e.slot → ram' ≡ put_bytes ram e.store
      → Did (step_of (machine cpu cp0 regs tlb) ram rom lines) (record { cpu = cpu'; cp0 = cp0'; stop = number_of e.stop }) regs' tlb' ram'
  unfolding step_of apply
  core_did cpu' cp0' regs' tlb' ram' p z a b c =
      rw (← E, p, z, a, b, c) (record { machine = refl; stop = refl; memory = refl })

-- ---- the loop

pub plus_plus : (i k : ℕ) (w : Whole) → plus i (plus k w) ≡ plus (i + k) w
plus_plus i k w = let e : i + (k + w.steps) ≡ i + k + w.steps = omega arith in ap (λ (n : ℕ). whole w.machine w.ram n w.stop) e

plus_zero : (w : Whole) → plus 0 w ≡ w
plus_zero w = let e : 0 + w.steps ≡ w.steps = omega arith in ap (λ (n : ℕ). whole w.machine w.ram n w.stop) e

-- it begins, where no refusal n applies
pub begins : (rom : List ℕ) (lines b : ℕ) (m : Machine) (s : List ℕ) (n : ℕ) → n ≡ refusal m s rom lines → n ≡ 0 → run_of rom lines b m s ≡ plus 0 (steps rom lines (b - 0) m s)
unfolding run_of
begins rom lines b m s n e z =
    let q : b - 0 ≡ b = omega arith in
    let r : refusal m s rom lines ≡ 0 = sym e ∙ z in
    rw (r, q) (sym (plus_zero (steps rom lines b m s)))

-- a turn: where W is the run from the start, what is known before a step gives what is known after it
module _ (W : Whole) (rom : List ℕ) (lines b i : ℕ) (n : Machine) (s : List ℕ) (r : Cored) (regs tlb t : List ℕ) (h : i < b) (was : W ≡ plus i (steps rom lines (b - i) n s)) (did : Did (step_of n s rom lines) r regs tlb t) where
  turned : W ≡ plus i (following (step_of n s rom lines) (steps rom lines (b - (i + 1)) (step_of n s rom lines).machine (step_of n s rom lines).ram))
  unfolding steps
  turned = let e : b - i ≡ suc (b - (i + 1)) = omega arith in was ∙ rw e

  pub goes_on : r.stop ≡ 0 → W ≡ plus (i + 1) (steps rom lines (b - (i + 1)) (machine r.cpu r.cp0 regs tlb) t)
  goes_on z =
      let q : eqb (step_of n s rom lines).stop 0 ≡ true = eq-eqb _ 0 (sym did.stop ∙ z) in
      rw (did.machine, did.memory) ((rw q at turned) ∙ plus_plus i 1 _)

  pub ends_here : (r.stop ≡ 0 → ⊥) → W ≡ whole (machine r.cpu r.cp0 regs tlb) t i r.stop
  ends_here z =
      let q : eqb (step_of n s rom lines).stop 0 ≡ false = ne_eqb _ 0 (λ e. z (did.stop ∙ e)) in
      let e : i + 0 ≡ i = omega arith in
      rw (did.machine, did.memory, did.stop) (rw (q, e) at turned)

-- the budget is spent
pub spent : (W : Whole) (rom : List ℕ) (lines b i : ℕ) (n : Machine) (s : List ℕ) → i ≤ b → b ≤ i → W ≡ plus i (steps rom lines (b - i) n s) → W ≡ whole n s b 0
unfolding steps
spent W rom lines b i n s h k was = let e : b - i ≡ 0 = omega arith in let z : i + 0 ≡ b = omega arith in was ∙ rw (e, z)
