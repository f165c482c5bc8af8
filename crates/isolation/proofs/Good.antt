-- What a step in User mode comes to: it leaves CP0 and the TLB alone or enters an exception, and writes only where a User may store.
use Prim.Native.Nat.{ℕ, ◌/◌}
use native.Mathlib.Omega.{arith}
use mathlib.Core.Path.{◌≡◌, refl}
use mathlib.Core.List.{List}
use mathlib.Core.Bool.{Bool, true, false}
use Rattle.std.specs.Prelude.{Option, Some, None, Result, Ok}
use Rattle.promise.specs.Pick.{pick}
use Rattle.memory.specs.declared.PAddr.{PAddr}
use Rattle.memory.specs.declared.Eight.{Eight}
use Rattle.memory.specs.declared.Store.{Store}
use Rattle.tlb.specs.declared.VAddr.{VAddr}
use Rattle.tlb.specs.declared.Where.{Where}
use Rattle.tlb.specs.declared.Where.TheVariants.{Mapped, Unmapped, Invalid, Refill, Double, AddressError}
use Rattle.tlb.specs.Slot.{asid_of}
use Rattle.cp0.specs.declared.Cp0.{Cp0}
use Rattle.cp0.specs.declared.Exception.{Exception}
use Rattle.cp0.specs.declared.Exception.TheVariants.{Mod}
use Rattle.cp0.specs.Status.{CU0, user}
use Rattle.decode.specs.declared.Instr.{Instr}
use Rattle.decode.specs.declared.Undecoded.{Undecoded}
use Rattle.decode.specs.declared.StoreOp.{StoreOp}
use Rattle.usability.specs.Ready.{is_cp0, in_place, allowed, usable, reserved_cop0, ready}
use Rattle.execute.specs.declared.Command.{Command}
use Rattle.execute.specs.declared.Executed.{Executed}
use Rattle.execute.specs.declared.Executed.TheVariants as done
use Rattle.flow.specs.declared.Act.{Act}
use Rattle.execute.specs.LoadStore.{goes_out}
use Rattle.execute.specs.Execute.{execute}
use Rattle.effect.specs.declared.Cpu.{Cpu}
use Rattle.access.specs.declared.Turn.{Turn}
use Rattle.access.specs.declared.Turn.TheVariants as turn
use Rattle.access.specs.declared.Effect.{Effect}
use Rattle.access.specs.Effect.{turned, wrote, raised, stopped}
use Rattle.access.specs.Access.{linking, got, loaded, sending, sent, saved}
use Rattle.effect.specs.Step as step
use Rattle.effect.specs.Step.{leads, asked, executed, readied, begun, fetched, effect_of}
use Rattle.isolation.specs.Reach.{ReachedDirty}
use Rattle.isolation.proofs.Near.{reaches_dirty, unmapped_not, dirty_near}

-- the turns that leave CP0's mode, ASID and TLB alone, or enter an exception
pub data Calm : Turn → Type 0 where
  next : Calm turn.Next
  branch : {to : ℕ} → Calm (turn.Branch to)
  skip : Calm turn.Skip
  hilo : {hi lo : ℕ} → Calm (turn.HiLo hi lo)
  link : {p : PAddr} → Calm (turn.Link p)
  enter : {e : Exception} → Calm (turn.Enter e)
  stay : Calm turn.Stay

-- a store within the eight bytes of a place that a User may store to
pub data Confined (tlb : List ℕ) (asid : ℕ) : Option Store → Type 0 where
  nowhere : Confined tlb asid None
  within : {s : Store} → ReachedDirty tlb asid s.to.0 → Confined tlb asid (Some s)

pub record Good (cp0 : Cp0) (tlb : List ℕ) (e : Effect) : Type 0 where
  pub turn : Calm e.turn
  pub slot : e.slot ≡ None
  pub store : Confined tlb (asid_of cp0.entryhi) e.store

-- it came to an act, and not to a command
pub data Plainly : Executed → Type 0 where
  plain : {a : Act} → Plainly (done.Plain a)

-- every instruction but CP0's is plain
pub plainly : (i : Instr) (pc a b hi lo : ℕ) → is_cp0 i ≡ false → Plainly (execute i pc a b hi lo)
unfolding execute
plainly i pc a b hi lo f = grind (arith, plain)

-- where CP0 is locked no CP0 instruction goes on
pub goes_plain : (slot : Bool) (d : Result Instr Undecoded) (i : Instr) → ready true false slot d ≡ Ok i → is_cp0 i ≡ false
unfolding ready usable allowed in_place reserved_cop0
goes_plain slot d i e = grind arith

-- so none comes to a command
pub no_command : (slot : Bool) (d : Result Instr Undecoded) (i : Instr) (pc a b hi lo : ℕ) (c : Command) → ready true false slot d ≡ Ok i → execute i pc a b hi lo ≡ done.Command c → ⊥
no_command slot d i pc a b hi lo c e f =
    let p : Plainly (done.Command c) = rw f at (plainly i pc a b hi lo (goes_plain slot d i e)) in
    elim p [ ]

-- what a store sends out stays in the eight bytes of its address
out_near : (op : StoreOp) (p : PAddr) (value : ℕ) → (goes_out op p value).to.0 / 8 ≡ p.0 / 8
unfolding goes_out
out_near op p value = grind arith

module _ (cpu : Cpu) (cp0 : Cp0) (regs tlb : List ℕ) (u : user cp0.status ≡ true) (l : CU0 cp0.status ≡ false) (look : PAddr → Option Eight) where
  -- so what goes out, where its address is translated, stays in what a User may store to
  sent_confined : (op : StoreOp) (reg value : ℕ) (b : Bool) (p : PAddr) (x : Option Eight) → ReachedDirty tlb (asid_of cp0.entryhi) p.0 → Confined tlb (asid_of cp0.entryhi) (sent op reg b value p x).store
  unfolding sent sending raised turned
  sent_confined op reg value b p x d = let o = within {s = goes_out op p value} (dirty_near _ (out_near op p value) d) in grind (arith, nowhere, o)

  saved_confined : (op : StoreOp) (reg value align : ℕ) (b : Bool) (v : VAddr) (x : Where) → leads cp0 tlb align v ≡ x → Confined tlb (asid_of cp0.entryhi) (saved op reg b value v look x).store
  unfolding saved raised turned stopped
  saved_confined op reg value align b v (Mapped p h) e = go h.dirty refl
    where
      go : (d : Bool) → h.dirty ≡ d → Confined tlb (asid_of cp0.entryhi) (pick d (sent op reg b value p (look p)) (raised (Mod v))).store
      go true t = sent_confined op reg value b p (look p) (reaches_dirty cp0.status (asid_of cp0.entryhi) tlb align v u p h e t)
      go false t = nowhere
  saved_confined op reg value align b v (Unmapped p) e = unmapped_not cp0.status (asid_of cp0.entryhi) tlb align v u p e
  saved_confined op reg value align b v (Invalid h) e = nowhere
  saved_confined op reg value align b v Refill e = nowhere
  saved_confined op reg value align b v Double e = nowhere
  saved_confined op reg value align b v AddressError e = nowhere

  -- what a plain instruction comes to
  executed_good : (lines value : ℕ) (x : Executed) → Plainly x → Good cp0 tlb (executed cpu cp0 tlb look lines value x)
  unfolding executed asked wrote loaded saved sent sending got linking raised turned stopped
  executed_good lines value (done.Plain a) p = record { turn = grind (arith, next, branch, skip, hilo, link, enter, stay); slot = grind arith; store = confined a }
    where
      confined : (a : Act) → Confined tlb (asid_of cp0.entryhi) (asked cpu cp0 tlb look value a).store
      confined a = grind (arith, nowhere, saved_confined)
  executed_good lines value (done.Command _) p = elim p [ ]

  -- a step in User mode
  effect_calm : (lines : ℕ) → Calm (effect_of cpu cp0 regs tlb look lines).turn
  unfolding effect_of begun step.decoded readied executed asked wrote loaded saved sent sending got linking raised turned stopped
  effect_calm lines = grind (arith, next, branch, skip, hilo, link, enter, stay, no_command)

  effect_keep : (lines : ℕ) → (effect_of cpu cp0 regs tlb look lines).slot ≡ None
  unfolding effect_of begun step.decoded readied executed asked wrote loaded saved sent sending got raised turned stopped
  effect_keep lines = grind (arith, no_command)

  effect_confined : (lines : ℕ) → Confined tlb (asid_of cp0.entryhi) (effect_of cpu cp0 regs tlb look lines).store
  unfolding effect_of begun step.decoded readied executed asked wrote loaded got raised turned stopped
  effect_confined lines = grind (arith, nowhere, saved_confined, no_command)

  pub effect_good : (lines : ℕ) → Good cp0 tlb (effect_of cpu cp0 regs tlb look lines)
  effect_good lines = record { turn = effect_calm lines; slot = effect_keep lines; store = effect_confined lines }
