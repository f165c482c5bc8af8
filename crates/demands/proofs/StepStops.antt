-- The stops of one step: from the case to the stop, and from the stop to its one case.
use Prim.Native.Nat.{ℕ, ◌≤◌}
use native.Mathlib.Omega.{arith}
use mathlib.Core.Path.{◌≡◌, refl, sym, ◌∙◌, ap}
use mathlib.Core.List.{List}
use mathlib.Core.Logic.{inl, inr}
use Rattle.std.specs.Prelude.{None, Err}
use Rattle.memory.specs.Memory.{read}
use Rattle.memory.specs.Stores.{put_bytes}
use Rattle.tlb.specs.Slot.{put_slot}
use Rattle.cp0.specs.declared.Exception.{Exception}
use Rattle.usability.specs.declared.Unready.TheVariants.{InSlot}
use Rattle.access.specs.declared.Stop.{Stop}
use Rattle.access.specs.declared.Stop.TheVariants as halt
use Rattle.access.specs.declared.Effect.{Effect}
use Rattle.access.specs.Effect.{number, number_of, turned, raised, stopped}
use Rattle.access.specs.Access.{loaded, saved}
use Rattle.access.specs.Fetch.{word_at}
use Rattle.effect.specs.Step.{from_probe, tlb_done, moved_to, asked, commanded, executed, readied, begun}
use Rattle.effect.specs.After.{cpu_after, cp0_after}
use Rattle.card.specs.declared.Machine.{Machine}
use Rattle.card.specs.Step.{Out, out, put_reg, apply, step_of}
use Rattle.demands.specs.StepStops.{effect, readiness, Twice, BranchInSlot, MoveNotBuilt, StepStops}
use Rattle.demands.specs.StepStops.Twice.{at_fetch, at_load, at_store, at_probe}
use Rattle.demands.proofs.Checks.{slot_in}
use Rattle.demands.proofs.Stages as stages
use Rattle.demands.proofs.Why.{Why, effect_why}
use Rattle.demands.proofs.Why.Why.{goes_on, enters, twice, in_a_slot, not_built}

module _ (m : Machine) (s o : List ℕ) (lines : ℕ) where
  -- ---- from the case to the stop

  twice_stops : Twice m s o lines → effect m s o lines ≡ stopped halt.DoubleMatch
  unfolding word_at begun executed asked loaded saved commanded tlb_done from_probe
  twice_stops (at_fetch f e) = stages.at_fetch m s o lines f ∙ rw e
  twice_stops (at_load op reg at x e) = stages.at_executed m s o lines _ x ∙ rw e
  twice_stops (at_store op reg at x e) = stages.at_executed m s o lines _ x ∙ rw e
  twice_stops (at_probe x e) = stages.at_executed m s o lines _ x ∙ rw e

  slot_ready : (b : BranchInSlot m s o lines) → readiness m b.word ≡ Err InSlot
  slot_ready b = rw b.is (slot_in _ _ _ b.instr b.branch b.slot b.usable)

  slot_stops : BranchInSlot m s o lines → effect m s o lines ≡ stopped halt.BranchInSlot
  unfolding readied
  slot_stops b =
      stages.at_word m s o lines b.word b.brings
      ∙ ap (readied m.cpu m.cp0 m.regs m.tlb (read s o) lines b.word) (slot_ready b)

  move_stops : MoveNotBuilt m s o lines → effect m s o lines ≡ stopped halt.NotBuilt
  unfolding executed commanded moved_to
  move_stops b = stages.at_executed m s o lines _ b.executes ∙ rw b.not_built

  -- ---- the step

  stop_is : (why : Stop) → effect m s o lines ≡ stopped why → (step_of m s o lines).stop ≡ number why
  unfolding step_of apply stopped
  stop_is why e = ap (λ (x : Effect). number_of x.stop) e

  stop_on : (effect m s o lines).stop ≡ None → (step_of m s o lines).stop ≡ 0
  unfolding step_of apply
  stop_on e = ap number_of e

  raised_on : (x : Exception) → effect m s o lines ≡ raised x → (effect m s o lines).stop ≡ None
  unfolding raised turned
  raised_on x e = ap (λ (y : Effect). y.stop) e

  -- what a number says of the case, given that the cases are told apart by it
  only : (P : Type 0) (n : ℕ) → (step_of m s o lines).stop ≡ n
      → (n ≡ 0 → P) → (n ≡ 16 → Twice m s o lines → P) → (n ≡ 17 → BranchInSlot m s o lines → P) → (n ≡ 18 → MoveNotBuilt m s o lines → P) → P
  only P n e on a b c = go (effect_why m s o lines)
    where
      go : Why m s o lines (effect m s o lines) → P
      go (goes_on h) = on (sym e ∙ stop_on h.stop)
      go (enters x r h) = on (sym e ∙ stop_on (raised_on x h))
      go (twice t h) = a (sym e ∙ stop_is halt.DoubleMatch h) t
      go (in_a_slot t h) = b (sym e ∙ stop_is halt.BranchInSlot h) t
      go (not_built t h) = c (sym e ∙ stop_is halt.NotBuilt h) t

  pub stopped_kept : ((step_of m s o lines).stop ≡ 0 → ⊥) → step_of m s o lines ≡ out m s (step_of m s o lines).stop
  unfolding step_of apply stopped raised turned cpu_after cp0_after put_reg put_slot put_bytes
  stopped_kept n = let w = effect_why m s o lines in grind arith

  pub step_stops : StepStops m s o lines
  step_stops =
      record {
        sixteen = (λ e. only _ 16 e (λ z. cc) (λ z t. t) (λ z t. cc) (λ z t. cc), λ t. stop_is halt.DoubleMatch (twice_stops t));
        seventeen = (λ e. only _ 17 e (λ z. cc) (λ z t. cc) (λ z t. t) (λ z t. cc), λ t. stop_is halt.BranchInSlot (slot_stops t));
        eighteen = (λ e. only _ 18 e (λ z. cc) (λ z t. cc) (λ z t. cc) (λ z t. t), λ t. stop_is halt.NotBuilt (move_stops t));
        no_other =
            only _ (step_of m s o lines).stop refl
            (λ z. inl z) (λ z t. inr (inl z)) (λ z t. inr (inr (inl z))) (λ z t. inr (inr (inr z)));
        same_machine = λ n. ap (λ (x : Out). x.machine) (stopped_kept n);
        same_ram = λ n. ap (λ (x : Out). x.ram) (stopped_kept n);
      }

  -- a stop is at least 16 and at most 18
  pub stop_least : ((step_of m s o lines).stop ≡ 0 → ⊥) → (16 ≤ (step_of m s o lines).stop) × ((step_of m s o lines).stop ≤ 18)
  stop_least n =
      only _ (step_of m s o lines).stop refl
      (λ z. absurd (n z)) (λ z t. omega arith) (λ z t. omega arith) (λ z t. omega arith)
