-- A neighbour's slots match no address, so where an address leads, and what a step in User mode comes to, does not depend on them.
use Prim.Native.Nat.{ℕ, zero, suc, ◌+◌, ◌<◌, ◌≤◌}
use native.Mathlib.Omega.{arith}
use mathlib.Core.Path.{◌≡◌, refl, sym, ◌∙◌, ap}
use mathlib.Core.List.{List}
use mathlib.Core.Bool.{true, false}
use borrow.Author.Tests.{ne_eqb}
use Rattle.std.specs.Prelude.{Option}
use Rattle.promise.specs.Pick.{both_false}
use Rattle.memory.specs.declared.PAddr.{PAddr}
use Rattle.memory.specs.declared.Eight.{Eight}
use Rattle.tlb.specs.declared.VAddr.{VAddr}
use Rattle.tlb.specs.declared.Found.{Found}
use Rattle.tlb.specs.declared.Found.TheVariants.{Absent, One, Many}
use Rattle.tlb.specs.declared.Mode.{Mode}
use Rattle.tlb.specs.Slot.{slot_at, asid_of}
use Rattle.tlb.specs.Match.{agree, page_width, same_space, hits, matches_at, more, seek, lookup}
use Rattle.tlb.specs.Translate.{vaddr, through_found, mapped}
use Rattle.tlb.specs.Segments.{translate, segment, upper}
use Rattle.tlb.proofs.Tells.{one_only}
use Rattle.cp0.specs.declared.Cp0.{Cp0}
use Rattle.cp0.specs.Status.{CU0, user, mode_of}
use Rattle.execute.specs.declared.Executed.{Executed}
use Rattle.execute.specs.declared.Executed.TheVariants as done
use Rattle.effect.specs.declared.Cpu.{Cpu}
use Rattle.effect.specs.Step as step
use Rattle.effect.specs.Step.{leads, asked, executed, readied, begun, effect_of}
use Rattle.isolation.specs.Reach.{Reached, ReachedDirty}
use Rattle.isolation.specs.Neighbour.{SameSlots, MatchesNothing, ReachedAlike}
use Rattle.isolation.proofs.Good.{Plainly, no_command}

pub matches_nothing : MatchesNothing
unfolding matches_at hits same_space
matches_nothing tlb asid i v n =
    both_false (agree page_width _ _ _) _
    (rw (n.not_global, ne_eqb (asid_of (slot_at tlb i).hi) asid n.other) refl)

module _ (tlb₁ tlb₂ : List ℕ) (asid : ℕ) (S : SameSlots asid tlb₁ tlb₂) where
  matches_same : (v : VAddr) (i : ℕ) → i < 48 → matches_at tlb₁ asid v i ≡ matches_at tlb₂ asid v i
  unfolding matches_at
  matches_same v i h = let s = S.same i h in grind (arith, matches_nothing)

  seek_same : (left i : ℕ) (v : VAddr) (f : Found) → i + left ≤ 48 → seek left i tlb₁ asid v f ≡ seek left i tlb₂ asid v f
  unfolding seek
  seek_same zero i v f h = refl
  seek_same (suc left) i v f h =
      rw (matches_same v i (omega arith)) (seek_same left (i + 1) v (more (matches_at tlb₂ asid v i) i f) (omega arith))

  lookup_same : (v : VAddr) → lookup tlb₁ asid v ≡ lookup tlb₂ asid v
  unfolding lookup
  lookup_same v = seek_same 48 0 v Absent (omega arith)

  -- a slot that matches is the same in both
  found_same : (v : VAddr) (f : Found) → lookup tlb₁ asid v ≡ f → through_found tlb₁ v f ≡ through_found tlb₂ v f
  unfolding through_found
  found_same v Absent e = refl
  found_same v Many e = refl
  found_same v (One i) e =
      let o = one_only tlb₁ asid v i e in
      let s = S.same i o.below in
      grind (arith, matches_nothing)

  mapped_same : (v : VAddr) → mapped tlb₁ asid v ≡ mapped tlb₂ asid v
  unfolding mapped
  mapped_same v = found_same v (lookup tlb₁ asid v) refl ∙ ap (through_found tlb₂ v) (lookup_same v)

  translate_same : (mode : Mode) (align : ℕ) (v : VAddr) → translate mode asid tlb₁ align v ≡ translate mode asid tlb₂ align v
  unfolding translate segment upper
  translate_same mode align v = let e = mapped_same v in grind arith

-- ---- what is reached

pub turned_slots : {asid : ℕ} {tlb₁ tlb₂ : List ℕ} → SameSlots asid tlb₁ tlb₂ → SameSlots asid tlb₂ tlb₁
turned_slots {asid} {tlb₁} {tlb₂} S = record { same = λ i h. let s = S.same i h in grind arith }

pub reached_by : {asid : ℕ} {tlb₁ tlb₂ : List ℕ} → SameSlots asid tlb₁ tlb₂ → (p : ℕ) → Reached tlb₁ asid p → Reached tlb₂ asid p
reached_by {asid} {tlb₁} {tlb₂} S p r =
    record { from = r.from; half = r.half; below = r.below; leads = sym (mapped_same tlb₁ tlb₂ asid S (vaddr r.from)) ∙ r.leads }

dirty_by : {asid : ℕ} {tlb₁ tlb₂ : List ℕ} → SameSlots asid tlb₁ tlb₂ → (p : ℕ) → ReachedDirty tlb₁ asid p → ReachedDirty tlb₂ asid p
unfolding reached_by
dirty_by S p d = record { reached = reached_by S p d.reached; dirty = d.dirty }

pub reached_alike : ReachedAlike
reached_alike asid tlb₁ tlb₂ S =
    record {
      reached = λ p. (reached_by S p, reached_by (turned_slots S) p);
      dirty = λ p. (dirty_by S p, dirty_by (turned_slots S) p);
    }

-- ---- a step

module _ (cpu : Cpu) (cp0 : Cp0) (regs tlb₁ tlb₂ : List ℕ) (u : user cp0.status ≡ true) (l : CU0 cp0.status ≡ false) (look : PAddr → Option Eight) (S : SameSlots (asid_of cp0.entryhi) tlb₁ tlb₂) where
  leads_swap : (align : ℕ) (v : VAddr) → leads cp0 tlb₁ align v ≡ leads cp0 tlb₂ align v
  leads_swap align v = translate_same tlb₁ tlb₂ (asid_of cp0.entryhi) S (mode_of cp0.status) align v

  executed_swap : (lines value : ℕ) (x : Executed) → Plainly x → executed cpu cp0 tlb₁ look lines value x ≡ executed cpu cp0 tlb₂ look lines value x
  unfolding executed asked
  executed_swap lines value (done.Plain a) p = grind (arith, leads_swap)
  executed_swap lines value (done.Command _) p = elim p [ ]

  pub effect_swap : (lines : ℕ) → effect_of cpu cp0 regs tlb₁ look lines ≡ effect_of cpu cp0 regs tlb₂ look lines
  unfolding effect_of begun step.decoded readied executed asked
  effect_swap lines = grind (arith, no_command, leads_swap)
