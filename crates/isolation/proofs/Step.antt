-- One step of a User program: two worlds that it cannot tell apart stay so, only what it may store to changes, and other neighbours' slots make no difference.
use Prim.Native.Nat.{ℕ, ◌+◌, ◌-◌, ◌*◌, ◌/◌}
use native.Mathlib.Omega.{arith}
use mathlib.Core.Path.{◌≡◌, refl, sym, ◌∙◌, ap}
use mathlib.Core.List.{List}
use mathlib.Core.Bool.{Bool, true, false}
use lib.ListN.{get_or}
use Rattle.std.specs.Prelude.{Option, Some, None}
use Rattle.memory.specs.declared.PAddr.{PAddr}
use Rattle.memory.specs.declared.Store.{Store}
use Rattle.memory.specs.Memory.{rom_base, read}
use Rattle.memory.proofs.MemoryLaws.{read_same}
use Rattle.memory.specs.Stores.{lands, put_bytes}
use Rattle.memory.specs.StoreLaws.{length_put, put_agree, put_other, put_refused, landing}
use Rattle.tlb.specs.Slot.{asid_of, put_slot}
use Rattle.cp0.specs.declared.Cp0.{Cp0}
use Rattle.cp0.specs.Status.{CU0, user}
use Rattle.cp0.proofs.Modes.{entered_not_user, entered_asid, ended_status, ended_entryhi, linked_status, linked_entryhi}
use Rattle.access.specs.declared.Turn.{Turn}
use Rattle.access.specs.declared.Effect.{Effect}
use Rattle.effect.specs.Step.{effect_of}
use Rattle.effect.specs.After.{cp0_after}
use Rattle.card.specs.declared.Machine.{Machine}
use Rattle.card.specs.Machine.{machine}
use Rattle.card.specs.Step.{Out, out, apply, step_of}
use Rattle.isolation.specs.Reach.{Reached, ReachedDirty, SameReached, OnlyDirtyChanged}
use Rattle.isolation.specs.Neighbour.{SameSlots}
use Rattle.isolation.specs.Isolation.{in_user, asid}
use Rattle.isolation.proofs.Near.{reached_near, dirty_near}
use Rattle.isolation.proofs.Same.{effect_same}
use Rattle.isolation.proofs.Neighbour.{effect_swap}
use Rattle.isolation.proofs.Good.{Calm, Confined, Good, effect_good}
use Rattle.isolation.proofs.Good.Confined.{nowhere, within}

-- ---- memory

-- memories that agree on what is reached read alike there
reads_same : {tlb : List ℕ} {a : ℕ} {ram₁ ram₂ rom₁ rom₂ : List ℕ} → SameReached tlb a 0 ram₁ ram₂ → SameReached tlb a rom_base rom₁ rom₂
    → (p : PAddr) → Reached tlb a p.0 → read ram₁ rom₁ p ≡ read ram₂ rom₂ p
reads_same {tlb} {a} {ram₁} {ram₂} {rom₁} {rom₂} A B p r =
    read_same ram₁ ram₂ rom₁ rom₂ p A.long B.long
    (λ i l. A.same (p.0 / 8 * 8 + i) (reached_near (0 + (p.0 / 8 * 8 + i)) (omega arith) r))
    (λ up i l. B.same ((p.0 - rom_base) / 8 * 8 + i) (reached_near (rom_base + ((p.0 - rom_base) / 8 * 8 + i)) (omega arith) r))

-- and after the same store they agree again
stored_same : {tlb : List ℕ} {a : ℕ} {ram₁ ram₂ : List ℕ} (s : Option Store) → SameReached tlb a 0 ram₁ ram₂ → SameReached tlb a 0 (put_bytes ram₁ s) (put_bytes ram₂ s)
stored_same {tlb} {a} {ram₁} {ram₂} s A =
    record {
      long = length_put ram₁ s ∙ A.long ∙ sym (length_put ram₂ s);
      same = λ k r. put_agree ram₁ ram₂ s k A.long (A.same k r);
    }

stored_kept : (tlb : List ℕ) (a : ℕ) (ram : List ℕ) (s : Option Store) → Confined tlb a s → OnlyDirtyChanged tlb a ram (put_bytes ram s)
unfolding put_bytes
stored_kept tlb a ram s c = record { long = length_put ram s; same = λ k n. unchanged s c k n }
  where
    unchanged : (s : Option Store) → Confined tlb a s → (k : ℕ) → (ReachedDirty tlb a k → ⊥) → get_or (put_bytes ram s) k 0 ≡ get_or ram k 0
    unchanged None nowhere k n = refl
    unchanged (Some t) (within d) k n = go (lands ram t) refl
      where
        go : (b : Bool) → lands ram t ≡ b → get_or (put_bytes ram (Some t)) k 0 ≡ get_or ram k 0
        go true l = put_other ram t k (λ j h e. n (dirty_near k (let w = landing ram t l in omega arith) d))
        go false l = ap (λ (x : List ℕ). get_or x k 0) (put_refused ram t l)

-- ---- CP0

-- a calm turn that ends in User mode leaves Status
calm_status : (pc : ℕ) (slot : Bool) (c : Cp0) (t : Turn) → Calm t → user (cp0_after pc slot c t).status ≡ true → (cp0_after pc slot c t).status ≡ c.status
unfolding cp0_after
calm_status pc slot c t k u = grind (arith, ended_status, linked_status, entered_not_user)

-- and whether it does or not, the ASID
calm_asid : (pc : ℕ) (slot : Bool) (c : Cp0) (t : Turn) → Calm t → asid_of (cp0_after pc slot c t).entryhi ≡ asid_of c.entryhi
unfolding cp0_after
calm_asid pc slot c t k = grind (arith, ended_entryhi, linked_entryhi, entered_asid)

-- ---- a step

-- what two outcomes have in common that a User program cannot tell apart
pub record SameOut (tlb : List ℕ) (a : ℕ) (o₁ o₂ : Out) : Type 0 where
  pub machine : o₁.machine ≡ o₂.machine
  pub stop : o₁.stop ≡ o₂.stop
  pub ram : SameReached tlb a 0 o₁.ram o₂.ram

apply_same : {tlb : List ℕ} {a : ℕ} {ram₁ ram₂ : List ℕ} (m : Machine) (e : Effect) → SameReached tlb a 0 ram₁ ram₂ → SameOut tlb a (apply m ram₁ e) (apply m ram₂ e)
unfolding apply
apply_same m e A = record { machine = refl; stop = refl; ram = stored_same e.store A }

-- a machine with another TLB
abbrev pub with_tlb : Machine → List ℕ → Machine
with_tlb m t = machine m.cpu m.cp0 m.regs t

-- an outcome with another TLB
abbrev pub out_with : Out → List ℕ → Out
out_with o t = out (with_tlb o.machine t) o.ram o.stop

module _ (lines : ℕ) (m : Machine) (u : in_user m ≡ true) where
  pub step_same : (ram₁ ram₂ rom₁ rom₂ : List ℕ) → SameReached m.tlb (asid m) 0 ram₁ ram₂ → SameReached m.tlb (asid m) rom_base rom₁ rom₂
      → SameOut m.tlb (asid m) (step_of m ram₁ rom₁ lines) (step_of m ram₂ rom₂ lines)
  unfolding step_of
  step_same ram₁ ram₂ rom₁ rom₂ A B =
      rw (effect_same m.cpu m.cp0 m.regs m.tlb u (read ram₁ rom₁) (read ram₂ rom₂) (reads_same A B) lines)
      (apply_same m (effect_of m.cpu m.cp0 m.regs m.tlb (read ram₂ rom₂) lines) A)

  module _ (l : CU0 m.cp0.status ≡ false) (ram rom : List ℕ) where
    good : Good m.cp0 m.tlb (effect_of m.cpu m.cp0 m.regs m.tlb (read ram rom) lines)
    good = effect_good m.cpu m.cp0 m.regs m.tlb u l (read ram rom) lines

    pub step_kept : OnlyDirtyChanged m.tlb (asid m) ram (step_of m ram rom lines).ram
    unfolding step_of apply
    step_kept = stored_kept m.tlb (asid m) ram _ good.store

    -- the TLB and the ASID stay, whether it leaves User mode or not
    pub step_tlb : (step_of m ram rom lines).machine.tlb ≡ m.tlb
    unfolding step_of apply put_slot
    step_tlb = let k = good.slot in grind arith

    pub step_asid : asid (step_of m ram rom lines).machine ≡ asid m
    unfolding step_of apply
    step_asid = calm_asid m.cpu.pc m.cpu.slot m.cp0 _ good.turn

    -- while it is in User mode CU0 stays too
    pub step_locked : in_user (step_of m ram rom lines).machine ≡ true → CU0 (step_of m ram rom lines).machine.cp0.status ≡ false
    unfolding step_of apply
    step_locked v = ap CU0 (calm_status m.cpu.pc m.cpu.slot m.cp0 _ good.turn v) ∙ l

    -- a step with a neighbour's slots changed is the same step
    pub step_swap : (t : List ℕ) → SameSlots (asid m) m.tlb t → step_of (with_tlb m t) ram rom lines ≡ out_with (step_of m ram rom lines) t
    unfolding step_of apply put_slot
    step_swap t S =
        let w = effect_swap m.cpu m.cp0 m.regs m.tlb t u l (read ram rom) S lines in
        let k = good.slot in
        grind arith
