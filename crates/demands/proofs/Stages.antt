-- How far a step comes, stage by stage: what is known of its fetch and its word says which stage its effect is that of.
use Prim.Native.Nat.{ℕ}
use mathlib.Core.Path.{◌≡◌, refl, sym, ◌∙◌, ap}
use mathlib.Core.List.{List}
use lib.ListN.{get_or}
use Rattle.std.specs.Prelude.{Option, Result}
use Rattle.memory.specs.declared.PAddr.{PAddr}
use Rattle.memory.specs.declared.Eight.{Eight}
use Rattle.memory.specs.Memory.{read}
use Rattle.memory.specs.Loads.{lwu}
use Rattle.tlb.specs.declared.Where.{Where}
use Rattle.tlb.specs.Translate.{vaddr}
use Rattle.decode.specs.Fields.{rt}
use Rattle.execute.specs.declared.Executed.{Executed}
use Rattle.access.specs.declared.Unfetched.{Unfetched}
use Rattle.access.specs.declared.Effect.{Effect}
use Rattle.access.specs.Fetch.{word_found, word_at}
use Rattle.effect.specs.Step.{executed, readied, decoded, begun, effect_of}
use Rattle.card.specs.declared.Machine.{Machine}
use Rattle.demands.specs.StepStops.{goes, effect, Fetches, LeadsTo, Holds, Brings, readiness, Executes}
use Rattle.demands.specs.StepStops.LeadsTo.{mapped, unmapped}
use Rattle.demands.specs.StepStops.Holds.{ram, rom}

module _ (m : Machine) (s o : List ℕ) (lines : ℕ) where
  -- the stage after the fetch, whatever the fetch came to
  abbrev pub after : Result ℕ Unfetched → Effect
  after = begun m.cpu m.cp0 m.regs m.tlb (read s o) lines

  -- what the fetch comes to where PC leads so
  abbrev pub fetch : Where → Result ℕ Unfetched
  fetch = word_at (vaddr m.cpu.pc) (read s o)

  pub at_fetch : Fetches m lines → effect m s o lines ≡ after (fetch (goes m 4 (vaddr m.cpu.pc)))
  unfolding effect_of
  at_fetch f = rw f.no_interrupt

  pub led : {x : Where} {p : PAddr} → LeadsTo x p → fetch x ≡ word_found p (read s o p)
  unfolding word_at
  led mapped = refl
  led unmapped = refl

  held : (p : PAddr) {x : Option Eight} {n : ℕ} → Holds x n → after (word_found p x) ≡ decoded m.cpu m.cp0 m.regs m.tlb (read s o) lines (lwu n p)
  unfolding word_found begun
  held p ram = refl
  held p rom = refl

  pub at_word : (w : ℕ) → Brings m s o lines w → effect m s o lines ≡ readied m.cpu m.cp0 m.regs m.tlb (read s o) lines w (readiness m w)
  unfolding decoded
  at_word w b =
      at_fetch b.fetches ∙ ap after (led b.leads_to) ∙ held b.at b.holds
      ∙ ap (decoded m.cpu m.cp0 m.regs m.tlb (read s o) lines) (sym b.word)

  pub at_executed : (x : Executed) (e : Executes m s o lines x) → effect m s o lines ≡ executed m.cpu m.cp0 m.tlb (read s o) lines (get_or m.regs (rt e.word) 0) x
  unfolding readied
  at_executed x e =
      at_word e.word e.brings
      ∙ ap (readied m.cpu m.cp0 m.regs m.tlb (read s o) lines e.word) e.may
      ∙ ap (executed m.cpu m.cp0 m.tlb (read s o) lines (get_or m.regs (rt e.word) 0)) e.comes
