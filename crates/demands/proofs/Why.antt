-- Why a step has its effect: each stage either goes on, enters the one exception of its case, or is the one stop of its case.
use Prim.Native.Nat.{ℕ, ◌%◌, ◌^◌}
use mathlib.Core.Path.{◌≡◌, refl, sym, subst}
use mathlib.Core.Bool.{Bool, true, false}
use mathlib.Core.List.{List}
use Rattle.std.specs.Prelude.{Option, Some, None, Result, Ok, Err}
use Rattle.promise.specs.Pick.{pick}
use Rattle.memory.specs.declared.PAddr.{PAddr}
use Rattle.memory.specs.declared.Eight.{Eight}
use Rattle.memory.specs.declared.Eight.TheVariants.{Ram, Rom}
use Rattle.memory.specs.Memory.{read}
use Rattle.memory.specs.Landings.{ram_read}
use Rattle.tlb.specs.declared.VAddr.{VAddr}
use Rattle.tlb.specs.declared.Half.{Half}
use Rattle.tlb.specs.declared.Where.{Where}
use Rattle.tlb.specs.declared.Where.TheVariants.{Mapped, Unmapped, Invalid, Refill, Double, AddressError}
use Rattle.tlb.specs.declared.SlotWrite.{SlotWrite}
use Rattle.tlb.specs.declared.Slot.{Slot}
use Rattle.tlb.specs.declared.DoubleMatch.{DoubleMatch}
use Rattle.tlb.specs.Probe.{probe}
use Rattle.tlb.specs.Translate.{vaddr}
use Rattle.cp0.specs.declared.Exception.{Exception}
use Rattle.cp0.specs.declared.Exception.TheVariants.{Int, Mod}
use Rattle.cp0.specs.declared.NotBuilt.{NotBuilt}
use Rattle.cp0.specs.Status.{CU0, user, interrupted}
use Rattle.cp0.specs.Moves.{check_move}
use Rattle.decode.specs.declared.LoadOp.{LoadOp}
use Rattle.decode.specs.declared.StoreOp.{StoreOp}
use Rattle.decode.specs.declared.TlbOp.{TlbOp}
use Rattle.decode.specs.declared.TlbOp.TheVariants.{TLBR, TLBWI, TLBWR, TLBP}
use Rattle.decode.specs.declared.Instr.{Instr}
use Rattle.usability.specs.declared.Unready.{Unready}
use Rattle.usability.specs.declared.Unready.TheVariants.{Unusable, Reserved, InSlot}
use Rattle.decode.specs.Decode.{decode}
use Rattle.flow.specs.declared.Act.{Act}
use Rattle.flow.specs.declared.Act.TheVariants as act
use Rattle.execute.specs.declared.Command.{Command}
use Rattle.execute.specs.declared.Command.TheVariants as command
use Rattle.execute.specs.declared.Executed.{Executed}
use Rattle.execute.specs.declared.Executed.TheVariants as done
use Rattle.execute.specs.LoadStore.{load_align, store_align}
use Rattle.access.specs.declared.Turn.{Turn}
use Rattle.access.specs.declared.Stop.TheVariants as halt
use Rattle.access.specs.declared.Effect.{Effect}
use Rattle.access.specs.Effect.{effects, turned, wrote, raised, stopped}
use Rattle.access.specs.Access.{got, loaded, sent, saved}
use Rattle.access.specs.Fetch.{word_found, word_at}
use Rattle.effect.specs.Step as step
use Rattle.effect.specs.Step.{from_slot, from_probe, tlb_done, moved_to, asked, commanded, executed, readied, begun, effect_of}
use Rattle.card.specs.declared.Machine.{Machine}
use Rattle.demands.specs.StepStops.{effect, goes, Fetches, LeadsTo, Holds, Brings, readiness, Executes, Twice, BranchInSlot, MoveNotBuilt}
use Rattle.demands.specs.StepStops.LeadsTo.{mapped, unmapped}
use Rattle.demands.specs.StepStops.Holds.{ram, rom}
use Rattle.demands.specs.StepStops.Twice.{at_fetch, at_load, at_store, at_probe}
use Rattle.demands.specs.StepRaises.{ReadFault, WriteFault, MayStore, NoRam, Raises}
use Rattle.demands.specs.StepRaises.Raises.{interrupt, fetch_fault, fetch_bus, unusable, reserved, load_fault, load_bus, store_fault, store_bus}
use Rattle.demands.proofs.Onward.{entering, On, quiet, linking_on, sending_on, led_on, out_lands}
use Rattle.demands.proofs.Acts.{raises_own}
use Rattle.demands.proofs.Checks.{Checked, checked}
use Rattle.demands.proofs.Stages as stages

module _ (m : Machine) (s o : List ℕ) (lines : ℕ) where
  -- why a step has this effect: it goes on, it enters an exception, or it is the stop of one of the four cases
  pub data Why (e : Effect) : Type 0 where
    goes_on : On s e → Why e
    enters : (x : Exception) → Raises m s o lines x → e ≡ raised x → Why e
    twice : Twice m s o lines → e ≡ stopped halt.DoubleMatch → Why e
    in_a_slot : BranchInSlot m s o lines → e ≡ stopped halt.BranchInSlot → Why e
    not_built : MoveNotBuilt m s o lines → e ≡ stopped halt.NotBuilt → Why e

  -- it goes on and sends nothing out
  on : (t : Turn) (reg value : ℕ) (w : Option SlotWrite) → entering t ≡ false → Why (effects t reg value w None None)
  on t reg value w h = goes_on (quiet s t reg value w h)

  module _ (op : LoadOp) (reg old : ℕ) (v : VAddr) (x : Executes m s o lines (done.Plain (act.Load op reg v))) where
    got_why : (p : PAddr) → LeadsTo (goes m (load_align op) v) p → (y : Option Eight) → read s o p ≡ y → Why (got op reg old p y)
    unfolding got
    got_why p l (Some (Ram n)) e = on _ _ _ _ (linking_on op p)
    got_why p l (Some (Rom n)) e = on _ _ _ _ (linking_on op p)
    got_why p l None e = enters _ (load_bus op reg v p x l e) refl

    -- the address does not lead on
    load_raises : {w : Where} {e : Exception} → goes m (load_align op) v ≡ w → ReadFault v w e → Raises m s o lines e
    load_raises {w} {e} g f = load_fault op reg v x (subst (λ (y : Where). ReadFault v y e) (sym g) f)

    loaded_why : (w : Where) → goes m (load_align op) v ≡ w → Why (loaded op reg old v (read s o) w)
    unfolding loaded
    loaded_why (Mapped p h) e = got_why p (subst (λ (y : Where). LeadsTo y p) (sym e) mapped) _ refl
    loaded_why (Unmapped p) e = got_why p (subst (λ (y : Where). LeadsTo y p) (sym e) unmapped) _ refl
    loaded_why (Invalid h) e = enters _ (load_raises e ReadFault.invalid) refl
    loaded_why Refill e = enters _ (load_raises e ReadFault.refill) refl
    loaded_why Double e = twice (at_load op reg v x e) refl
    loaded_why AddressError e = enters _ (load_raises e ReadFault.address) refl

  module _ (op : StoreOp) (reg value : ℕ) (v : VAddr) (x : Executes m s o lines (done.Plain (act.Store op reg v))) where
    sent_why : (p : PAddr) → MayStore (goes m (store_align op) v) p → (v.0 % store_align op ≡ 0) × (p.0 % 2 ^ 12 ≡ v.0 % 2 ^ 12)
        → (y : Option Eight) → read s o p ≡ y → Why (sent op reg m.cpu.link value p y)
    unfolding sent
    sent_why p l a (Some (Ram n)) e = goes_on (sending_on s op reg m.cpu.link _ (out_lands s p v value (ram_read s o p n e) a.1 op a.0))
    sent_why p l a (Some (Rom n)) e = enters _ (store_bus op reg v p x l (subst NoRam (sym e) NoRam.rom)) refl
    sent_why p l a None e = enters _ (store_bus op reg v p x l (subst NoRam (sym e) NoRam.missing)) refl

    -- the address does not lead on, or the page may not be written
    store_raises : {w : Where} {e : Exception} → goes m (store_align op) v ≡ w → WriteFault v w e → Raises m s o lines e
    store_raises {w} {e} g f = store_fault op reg v x (subst (λ (y : Where). WriteFault v y e) (sym g) f)

    dirty_why : (p : PAddr) (h : Half) → goes m (store_align op) v ≡ Mapped p h → (b : Bool) → h.dirty ≡ b → Why (pick b (sent op reg m.cpu.link value p (read s o p)) (raised (Mod v)))
    dirty_why p h e true d =
        sent_why p (subst (λ (y : Where). MayStore y p) (sym e) (MayStore.mapped d))
        (led_on _ m.tlb v _ _ (Mapped p h) e (λ z. cc)) _ refl
    dirty_why p h e false d = enters _ (store_raises e (WriteFault.modified d)) refl

    saved_why : (w : Where) → goes m (store_align op) v ≡ w → Why (saved op reg m.cpu.link value v (read s o) w)
    unfolding saved
    saved_why (Mapped p h) e = dirty_why p h e _ refl
    saved_why (Unmapped p) e =
        sent_why p (subst (λ (y : Where). MayStore y p) (sym e) MayStore.unmapped)
        (led_on _ m.tlb v _ _ (Unmapped p) e (λ z. cc)) _ refl
    saved_why (Invalid h) e = enters _ (store_raises e WriteFault.invalid) refl
    saved_why Refill e = enters _ (store_raises e WriteFault.refill) refl
    saved_why Double e = twice (at_store op reg v x e) refl
    saved_why AddressError e = enters _ (store_raises e WriteFault.address) refl

  asked_why : (value : ℕ) (a : Act) → Executes m s o lines (done.Plain a) → Why (asked m.cpu m.cp0 m.tlb (read s o) value a)
  unfolding asked wrote turned
  asked_why value act.Nothing x = on _ _ _ _ refl
  asked_why value (act.Write reg v) x = on _ _ _ _ refl
  asked_why value (act.HiLo hi lo) x = on _ _ _ _ refl
  asked_why value (act.Branch to r) x = on _ _ _ _ refl
  asked_why value (act.Skip r) x = on _ _ _ _ refl
  asked_why value (act.Load op reg at) x = loaded_why op reg value at x _ refl
  asked_why value (act.Store op reg at) x = saved_why op reg value at x _ refl
  asked_why value (act.Raise e) x = enters e (Raises.executed (raises_own x.instr _ _ _ _ _ e x.comes) x) refl

  from_slot_why : (x : Option Slot) → Why (from_slot x)
  unfolding from_slot turned
  from_slot_why (Some s) = on _ _ _ _ refl
  from_slot_why None = on _ _ _ _ refl

  probe_why : Executes m s o lines (done.Command (command.Tlb TLBP)) → (p : Result ℕ DoubleMatch) → probe m.tlb m.cp0.entryhi ≡ p → Why (from_probe p)
  unfolding from_probe turned
  probe_why x (Ok i) e = on _ _ _ _ refl
  probe_why x (Err d) e = twice (at_probe x e) refl

  tlb_why : (op : TlbOp) → Executes m s o lines (done.Command (command.Tlb op)) → Why (tlb_done op m.cp0 m.tlb)
  unfolding tlb_done
  tlb_why TLBR x = from_slot_why _
  tlb_why TLBWI x = on _ _ _ _ refl
  tlb_why TLBWR x = on _ _ _ _ refl
  tlb_why TLBP x = probe_why x _ refl

  moved_why : (number value : ℕ) → Executes m s o lines (done.Command (command.MoveTo number value)) → (c : Result Unit NotBuilt) → check_move number value ≡ c → Why (moved_to number value c)
  unfolding moved_to turned
  moved_why number value x (Ok u) e = on _ _ _ _ refl
  moved_why number value x (Err n) e = not_built (record { number = number; value = value; executes = x; not_built = e }) refl

  commanded_why : (c : Command) → Executes m s o lines (done.Command c) → Why (commanded m.cp0 m.tlb lines c)
  unfolding commanded wrote turned
  commanded_why (command.MoveFrom reg number double) x = on _ _ _ _ refl
  commanded_why (command.MoveTo number v) x = moved_why number v x _ refl
  commanded_why (command.Tlb op) x = tlb_why op x
  commanded_why command.Eret x = on _ _ _ _ refl

  executed_why : (value : ℕ) (d : Executed) → Executes m s o lines d → Why (executed m.cpu m.cp0 m.tlb (read s o) lines value d)
  unfolding executed
  executed_why value (done.Plain a) x = asked_why value a x
  executed_why value (done.Command c) x = commanded_why c x

  readied_why : (w : ℕ) → Brings m s o lines w → (r : Result Instr Unready) → Checked (user m.cp0.status) (CU0 m.cp0.status) m.cpu.slot (decode w) r → readiness m w ≡ r
      → Why (readied m.cpu m.cp0 m.regs m.tlb (read s o) lines w r)
  unfolding readied
  readied_why w b (Ok i) k e = executed_why _ _ (record { word = w; instr = i; brings = b; may = e; comes = refl })
  readied_why w b (Err (Unusable u)) (Checked.unusable k) e = enters _ (unusable w u b k) refl
  readied_why w b (Err Reserved) (Checked.reserved k) e = enters _ (reserved w b k) refl
  readied_why w b (Err InSlot) (Checked.in_slot i d k t l) e = in_a_slot (record { word = w; instr = i; brings = b; is = d; branch = k; slot = t; usable = l }) refl

  decoded_why : (w : ℕ) → Brings m s o lines w → Why (step.decoded m.cpu m.cp0 m.regs m.tlb (read s o) lines w)
  unfolding step.decoded
  decoded_why w b = readied_why w b _ (checked _ _ _ (decode w)) refl

  -- the word that the fetch found
  word_why : Fetches m lines → (p : PAddr) → LeadsTo (goes m 4 (vaddr m.cpu.pc)) p → (x : Option Eight) → read s o p ≡ x → Why (stages.after m s o lines (word_found p x))
  unfolding word_found begun
  word_why f p l (Some (Ram n)) e = decoded_why _ (record { fetches = f; at = p; eight = n; leads_to = l; holds = subst (λ (y : Option Eight). Holds y n) (sym e) ram; word = refl })
  word_why f p l (Some (Rom n)) e = decoded_why _ (record { fetches = f; at = p; eight = n; leads_to = l; holds = subst (λ (y : Option Eight). Holds y n) (sym e) rom; word = refl })
  word_why f p l None e = enters _ (fetch_bus p f l e) refl

  -- PC does not lead on
  fetch_raises : Fetches m lines → {w : Where} {e : Exception} → goes m 4 (vaddr m.cpu.pc) ≡ w → ReadFault (vaddr m.cpu.pc) w e → Raises m s o lines e
  fetch_raises f {w} {e} g r = fetch_fault f (subst (λ (y : Where). ReadFault (vaddr m.cpu.pc) y e) (sym g) r)

  fetch_why : Fetches m lines → (x : Where) → goes m 4 (vaddr m.cpu.pc) ≡ x → Why (stages.after m s o lines (stages.fetch m s o lines x))
  unfolding word_at begun
  fetch_why f (Mapped p h) e = word_why f p (subst (λ (y : Where). LeadsTo y p) (sym e) mapped) _ refl
  fetch_why f (Unmapped p) e = word_why f p (subst (λ (y : Where). LeadsTo y p) (sym e) unmapped) _ refl
  fetch_why f (Invalid h) e = enters _ (fetch_raises f e ReadFault.invalid) refl
  fetch_why f Refill e = enters _ (fetch_raises f e ReadFault.refill) refl
  fetch_why f Double e = twice (at_fetch f e) refl
  fetch_why f AddressError e = enters _ (fetch_raises f e ReadFault.address) refl

  pub effect_why : Why (effect m s o lines)
  unfolding effect_of
  effect_why = go (interrupted m.cp0.status m.cp0.cause lines) refl
    where
      go : (b : Bool) → interrupted m.cp0.status m.cp0.cause lines ≡ b
          → Why (pick b (raised Int) (stages.after m s o lines (stages.fetch m s o lines (goes m 4 (vaddr m.cpu.pc)))))
      go true q = enters _ (interrupt q) refl
      go false q = fetch_why (record { no_interrupt = q }) _ refl
