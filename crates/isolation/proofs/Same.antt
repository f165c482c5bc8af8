-- What a step comes to is the same under two memories that agree on what is reached.
use Prim.Native.Nat.{ℕ}
use native.Mathlib.Omega.{arith}
use mathlib.Core.Path.{◌≡◌, refl}
use mathlib.Core.List.{List}
use mathlib.Core.Bool.{Bool, true}
use Rattle.std.specs.Prelude.{Option}
use Rattle.memory.specs.declared.PAddr.{PAddr}
use Rattle.memory.specs.declared.Eight.{Eight}
use Rattle.tlb.specs.declared.VAddr.{VAddr}
use Rattle.tlb.specs.declared.Where.{Where}
use Rattle.tlb.specs.declared.Where.TheVariants.{Mapped, Unmapped, Invalid, Refill, Double, AddressError}
use Rattle.tlb.specs.Slot.{asid_of}
use Rattle.tlb.specs.Translate.{vaddr}
use Rattle.cp0.specs.declared.Cp0.{Cp0}
use Rattle.cp0.specs.Status.{user}
use Rattle.decode.specs.declared.LoadOp.{LoadOp}
use Rattle.decode.specs.declared.StoreOp.{StoreOp}
use Rattle.effect.specs.declared.Cpu.{Cpu}
use Rattle.access.specs.Access.{loaded, saved}
use Rattle.access.specs.Fetch.{word_at}
use Rattle.effect.specs.Step as step
use Rattle.effect.specs.Step.{leads, asked, executed, readied, begun, effect_of}
use Rattle.isolation.specs.Reach.{Reached}
use Rattle.isolation.proofs.Near.{reaches, unmapped_not}

module _ (cpu : Cpu) (cp0 : Cp0) (regs tlb : List ℕ) (u : user cp0.status ≡ true) (r₁ r₂ : PAddr → Option Eight) (same : (p : PAddr) → Reached tlb (asid_of cp0.entryhi) p.0 → r₁ p ≡ r₂ p) where
  -- the two memories are alike where an address leads
  abbrev AlikeAt : Where → Type 0
  AlikeAt (Mapped p h) = r₁ p ≡ r₂ p
  AlikeAt (Unmapped p) = r₁ p ≡ r₂ p
  AlikeAt (Invalid h) = Unit {0}
  AlikeAt Refill = Unit {0}
  AlikeAt Double = Unit {0}
  AlikeAt AddressError = Unit {0}

  alike_at : (align : ℕ) (v : VAddr) (x : Where) → leads cp0 tlb align v ≡ x → AlikeAt x
  alike_at align v (Mapped p h) e = same p (reaches cp0.status (asid_of cp0.entryhi) tlb align v u p h e)
  alike_at align v (Unmapped p) e = unmapped_not cp0.status (asid_of cp0.entryhi) tlb align v u p e
  alike_at align v (Invalid h) e = tt
  alike_at align v Refill e = tt
  alike_at align v Double e = tt
  alike_at align v AddressError e = tt

  loads : (op : LoadOp) (reg old align : ℕ) (v : VAddr) → loaded op reg old v r₁ (leads cp0 tlb align v) ≡ loaded op reg old v r₂ (leads cp0 tlb align v)
  unfolding loaded
  loads op reg old align v = let a = alike_at align v _ refl in grind arith

  stores : (op : StoreOp) (reg value align : ℕ) (link : Bool) (v : VAddr) → saved op reg link value v r₁ (leads cp0 tlb align v) ≡ saved op reg link value v r₂ (leads cp0 tlb align v)
  unfolding saved
  stores op reg value align link v = let a = alike_at align v _ refl in grind arith

  word : word_at (vaddr cpu.pc) r₁ (leads cp0 tlb 4 (vaddr cpu.pc)) ≡ word_at (vaddr cpu.pc) r₂ (leads cp0 tlb 4 (vaddr cpu.pc))
  unfolding word_at
  word = let a = alike_at 4 (vaddr cpu.pc) _ refl in grind arith

  pub effect_same : (lines : ℕ) → effect_of cpu cp0 regs tlb r₁ lines ≡ effect_of cpu cp0 regs tlb r₂ lines
  unfolding effect_of begun step.decoded readied executed asked
  effect_same lines = grind (arith, word, loads, stores)
