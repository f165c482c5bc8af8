-- The exceptions of one step: from the case to the effect, and from the effect to its one case.
use Prim.Native.Nat.{ℕ}
use native.Mathlib.Omega.{arith}
use mathlib.Core.Path.{◌≡◌, ◌∙◌, ap}
use mathlib.Core.Bool.{Bool}
use mathlib.Core.List.{List}
use Rattle.std.specs.Prelude.{Option, None}
use Rattle.memory.specs.declared.PAddr.{PAddr}
use Rattle.memory.specs.declared.Eight.{Eight}
use Rattle.memory.specs.Memory.{read}
use Rattle.memory.specs.Stores.{put_bytes}
use Rattle.tlb.specs.declared.VAddr.{VAddr}
use Rattle.tlb.specs.declared.Where.{Where}
use Rattle.tlb.specs.Slot.{put_slot}
use Rattle.tlb.specs.Translate.{vaddr}
use Rattle.cp0.specs.declared.Exception.{Exception}
use Rattle.cp0.specs.declared.Exception.TheVariants.{DBE}
use Rattle.decode.specs.declared.LoadOp.{LoadOp}
use Rattle.decode.specs.declared.StoreOp.{StoreOp}
use Rattle.access.specs.declared.Turn.TheVariants.{Enter}
use Rattle.access.specs.declared.Effect.{Effect}
use Rattle.access.specs.Effect.{turned, raised, stopped}
use Rattle.access.specs.Access.{got, loaded, sent, saved}
use Rattle.access.specs.Fetch.{word_found, word_at}
use Rattle.effect.specs.Step.{asked, executed, readied, begun, effect_of}
use Rattle.effect.specs.After.{cpu_after, cp0_after}
use Rattle.card.specs.declared.Machine.{Machine}
use Rattle.card.specs.Machine.{machine}
use Rattle.card.specs.Step.{out, put_reg, apply, step_of}
use Rattle.demands.specs.StepStops.{effect, LeadsTo}
use Rattle.demands.specs.StepRaises.{ReadFault, WriteFault, MayStore, NoRam, Raises, StepRaises}
use Rattle.demands.specs.StepRaises.Raises.{interrupt, fetch_fault, fetch_bus, unusable, reserved, load_fault, load_bus, store_fault, store_bus}
use Rattle.demands.proofs.Checks.{unusable_ready, reserved_ready}
use Rattle.demands.proofs.Stages as stages
use Rattle.demands.proofs.Why.{effect_why}

-- ---- from a stage's fact to what the stage raises

module _ (op : LoadOp) (reg old : ℕ) (v : VAddr) (look : PAddr → Option Eight) where
  load_faults : {x : Where} {e : Exception} → ReadFault v x e → loaded op reg old v look x ≡ raised e
  unfolding loaded
  load_faults f = grind arith

  load_misses : {x : Where} {p : PAddr} → LeadsTo x p → look p ≡ None → loaded op reg old v look x ≡ raised DBE
  unfolding loaded got
  load_misses l e = grind arith

module _ (op : StoreOp) (reg : ℕ) (link : Bool) (value : ℕ) (v : VAddr) (look : PAddr → Option Eight) where
  store_faults : {x : Where} {e : Exception} → WriteFault v x e → saved op reg link value v look x ≡ raised e
  unfolding saved
  store_faults f = grind arith

  store_misses : {x : Where} {p : PAddr} → MayStore x p → NoRam (look p) → saved op reg link value v look x ≡ raised DBE
  unfolding saved sent
  store_misses f n = grind arith

module _ (m : Machine) (s o : List ℕ) (lines : ℕ) where
  fetch_faults : {x : Where} {e : Exception} → ReadFault (vaddr m.cpu.pc) x e → stages.after m s o lines (stages.fetch m s o lines x) ≡ raised e
  unfolding word_at begun
  fetch_faults f = grind arith

  -- ---- from the case to the effect

  raises_raised : {e : Exception} → Raises m s o lines e → effect m s o lines ≡ raised e
  unfolding effect_of word_found begun readied executed asked
  raises_raised (interrupt i) = rw i
  raises_raised (fetch_fault f r) = stages.at_fetch m s o lines f ∙ fetch_faults r
  raises_raised (fetch_bus p f l e) = stages.at_fetch m s o lines f ∙ ap (stages.after m s o lines) (stages.led m s o lines l) ∙ rw e
  raises_raised (unusable w u b k) =
      stages.at_word m s o lines w b ∙ ap (readied m.cpu m.cp0 m.regs m.tlb (read s o) lines w) (unusable_ready _ _ m.cpu.slot k)
  raises_raised (reserved w b k) =
      stages.at_word m s o lines w b ∙ ap (readied m.cpu m.cp0 m.regs m.tlb (read s o) lines w) (reserved_ready _ _ m.cpu.slot k)
  raises_raised (Raises.executed f x) = stages.at_executed m s o lines _ x
  raises_raised (load_fault op reg at x r) = stages.at_executed m s o lines _ x ∙ load_faults op reg _ at (read s o) r
  raises_raised (load_bus op reg at p x l e) = stages.at_executed m s o lines _ x ∙ load_misses op reg _ at (read s o) l e
  raises_raised (store_fault op reg at x r) = stages.at_executed m s o lines _ x ∙ store_faults op reg _ _ at (read s o) r
  raises_raised (store_bus op reg at p x l n) = stages.at_executed m s o lines _ x ∙ store_misses op reg _ _ at (read s o) l n

  -- ---- and back

  enters_raises : (e : Exception) → (effect m s o lines).turn ≡ Enter e → Raises m s o lines e
  unfolding raised turned stopped
  enters_raises e t = let w = effect_why m s o lines in grind arith

  raised_enters : (e : Exception) → Raises m s o lines e → (effect m s o lines).turn ≡ Enter e
  unfolding raised turned
  raised_enters e r = ap (λ (y : Effect). y.turn) (raises_raised r)

  raised_leaves : (e : Exception) → Raises m s o lines e
      → step_of m s o lines ≡ out (machine (cpu_after m.cpu m.cp0 (Enter e)) (cp0_after m.cpu.pc m.cpu.slot m.cp0 (Enter e)) m.regs m.tlb) s 0
  unfolding step_of apply raised turned put_reg put_slot put_bytes
  raised_leaves e r = ap (apply m s) (raises_raised r)

  pub step_raises : StepRaises m s o lines
  step_raises = record { enters = λ e. (enters_raises e, raised_enters e); leaves = raised_leaves }
