-- Many steps of a User program: what two memories, a neighbour's slots and the span leave alike, by induction.
use Prim.Native.Nat.{ℕ, zero, suc, ◌<◌}
use native.Mathlib.Omega.{arith}
use mathlib.Core.Path.{◌≡◌, refl, sym, ◌∙◌, subst₂}
use mathlib.Core.List.{List}
use mathlib.Core.Bool.{true, false}
use lib.Dec.{eqb}
use Rattle.memory.specs.Memory.{rom_base}
use Rattle.cp0.specs.Status.{CU0}
use Rattle.card.specs.declared.Machine.{Machine}
use Rattle.card.specs.Step.{step_of}
use Rattle.card.specs.Run.{Whole, whole, plus, steps}
use Rattle.isolation.specs.Reach.{SameReached, OnlyDirtyChanged}
use Rattle.isolation.specs.Neighbour.{SameSlots}
use Rattle.isolation.specs.Isolation.{in_user, asid}
use Rattle.isolation.proofs.Step.{SameOut, with_tlb, step_same, step_kept, step_tlb, step_asid, step_locked, step_swap}

-- each of the first n steps begins in User mode
abbrev pub UserSteps : List ℕ → ℕ → ℕ → Machine → List ℕ → Type 0
UserSteps rom lines n m s = (k : ℕ) → k < n → ((steps rom lines k m s).stop ≡ 0) × (in_user (steps rom lines k m s).machine ≡ true)

-- what is known of the steps holds of those after the first
later : (rom : List ℕ) (lines n : ℕ) (m : Machine) (s : List ℕ) → eqb (step_of m s rom lines).stop 0 ≡ true
    → UserSteps rom lines (suc n) m s → UserSteps rom lines n (step_of m s rom lines).machine (step_of m s rom lines).ram
unfolding steps
later rom lines n m s e U k l = let u = U (suc k) (omega arith) in grind arith

-- no step yet: the machine itself
starts : (rom : List ℕ) (lines n : ℕ) (m : Machine) (s : List ℕ) → UserSteps rom lines (suc n) m s → in_user m ≡ true
unfolding steps
starts rom lines n m s U = grind arith

-- a machine has this TLB and ASID, and while it is in User mode CU0 is clear
abbrev pub Views : List ℕ → ℕ → Machine → Type 0
Views tlb a m = (m.tlb ≡ tlb) × (asid m ≡ a) × (in_user m ≡ true → CU0 m.cp0.status ≡ false)

views_next : (tlb : List ℕ) (a : ℕ) (rom : List ℕ) (lines : ℕ) (m : Machine) (s : List ℕ) → in_user m ≡ true → Views tlb a m → Views tlb a (step_of m s rom lines).machine
views_next tlb a rom lines m s u Q = (step_tlb lines m u l s rom ∙ Q.0, step_asid lines m u l s rom ∙ Q.1, step_locked lines m u l s rom)
  where
    l : CU0 m.cp0.status ≡ false
    l = Q.2 u

-- what two runs have in common that a User program cannot tell apart
pub record SameWhole (tlb : List ℕ) (a : ℕ) (w₁ w₂ : Whole) : Type 0 where
  pub machine : w₁.machine ≡ w₂.machine
  pub steps : w₁.steps ≡ w₂.steps
  pub stop : w₁.stop ≡ w₂.stop
  pub ram : SameReached tlb a 0 w₁.ram w₂.ram

plus_same : {tlb : List ℕ} {a : ℕ} (w₁ w₂ : Whole) → SameWhole tlb a w₁ w₂ → SameWhole tlb a (plus 1 w₁) (plus 1 w₂)
plus_same w₁ w₂ s = grind arith

module _ (tlb : List ℕ) (a : ℕ) (rom₁ rom₂ : List ℕ) (lines : ℕ) (B : SameReached tlb a rom_base rom₁ rom₂) where
  -- a step of a machine with this view
  first_same : (m : Machine) (s₁ s₂ : List ℕ) → in_user m ≡ true → Views tlb a m → SameReached tlb a 0 s₁ s₂
      → SameOut tlb a (step_of m s₁ rom₁ lines) (step_of m s₂ rom₂ lines)
  first_same m s₁ s₂ u Q A =
      subst₂ (λ (t : List ℕ) (b : ℕ). SameOut t b (step_of m s₁ rom₁ lines) (step_of m s₂ rom₂ lines)) Q.0 Q.1
      (step_same lines m u s₁ s₂ rom₁ rom₂
      (subst₂ (λ (t : List ℕ) (b : ℕ). SameReached t b 0 s₁ s₂) (sym Q.0) (sym Q.1) A)
      (subst₂ (λ (t : List ℕ) (b : ℕ). SameReached t b rom_base rom₁ rom₂) (sym Q.0) (sym Q.1) B))

  -- a step, and the rest if it goes on
  and_rest : (n : ℕ) (m : Machine) (s₁ s₂ : List ℕ) → SameOut tlb a (step_of m s₁ rom₁ lines) (step_of m s₂ rom₂ lines)
      → (eqb (step_of m s₁ rom₁ lines).stop 0 ≡ true
      → SameWhole tlb a (steps rom₁ lines n (step_of m s₁ rom₁ lines).machine (step_of m s₁ rom₁ lines).ram) (steps rom₂ lines n (step_of m s₁ rom₁ lines).machine (step_of m s₂ rom₂ lines).ram))
      → SameWhole tlb a (steps rom₁ lines (suc n) m s₁) (steps rom₂ lines (suc n) m s₂)
  unfolding steps
  and_rest n m s₁ s₂ S rest = grind arith

  pub steps_same : (n : ℕ) (m : Machine) (s₁ s₂ : List ℕ) → Views tlb a m → SameReached tlb a 0 s₁ s₂ → UserSteps rom₁ lines n m s₁
      → SameWhole tlb a (steps rom₁ lines n m s₁) (steps rom₂ lines n m s₂)
  unfolding steps
  steps_same zero m s₁ s₂ Q A U = record { machine = refl; steps = refl; stop = refl; ram = A }
  steps_same (suc n) m s₁ s₂ Q A U =
      let u = starts rom₁ lines n m s₁ U in
      let S = first_same m s₁ s₂ u Q A in
      and_rest n m s₁ s₂ S (λ e. steps_same n _ _ _ (views_next tlb a rom₁ lines m s₁ u Q) S.ram (later rom₁ lines n m s₁ e U))

-- what a User program leaves of what it started with
pub record Kept (tlb : List ℕ) (a : ℕ) (s : List ℕ) (w : Whole) : Type 0 where
  pub views : Views tlb a w.machine
  pub ram : OnlyDirtyChanged tlb a s w.ram

kept_trans : {tlb : List ℕ} {a : ℕ} {l₁ l₂ l₃ : List ℕ} → OnlyDirtyChanged tlb a l₁ l₂ → OnlyDirtyChanged tlb a l₂ l₃ → OnlyDirtyChanged tlb a l₁ l₃
kept_trans f g = grind arith

module _ (tlb : List ℕ) (a : ℕ) (rom : List ℕ) (lines : ℕ) where
  and_rest_kept : (n : ℕ) (m : Machine) (s : List ℕ) → Views tlb a (step_of m s rom lines).machine → OnlyDirtyChanged tlb a s (step_of m s rom lines).ram
      → (eqb (step_of m s rom lines).stop 0 ≡ true → Kept tlb a (step_of m s rom lines).ram (steps rom lines n (step_of m s rom lines).machine (step_of m s rom lines).ram))
      → Kept tlb a s (steps rom lines (suc n) m s)
  unfolding steps
  and_rest_kept n m s Q K rest = grind arith

  pub steps_kept : (n : ℕ) (m : Machine) (s : List ℕ) → Views tlb a m → UserSteps rom lines n m s → Kept tlb a s (steps rom lines n m s)
  unfolding steps
  steps_kept zero m s Q U = record { views = Q; ram = record { long = refl; same = λ k n. refl } }
  steps_kept (suc n) m s Q U =
      let u = starts rom lines n m s U in
      let next = views_next tlb a rom lines m s u Q in
      and_rest_kept n m s next
      (subst₂ (λ (t : List ℕ) (b : ℕ). OnlyDirtyChanged t b s (step_of m s rom lines).ram) Q.0 Q.1 (step_kept lines m u (Q.2 u) s rom))
      (λ e. steps_kept n _ _ next (later rom lines n m s e U))

-- ---- a neighbour's slots

-- a run's end with another TLB
abbrev pub swapped : List ℕ → Whole → Whole
swapped t w = whole (with_tlb w.machine t) w.ram w.steps w.stop

module _ (tlb : List ℕ) (a : ℕ) (rom : List ℕ) (lines : ℕ) where
  pub steps_swap : (t : List ℕ) → SameSlots a tlb t → (n : ℕ) (m : Machine) (s : List ℕ) → Views tlb a m → UserSteps rom lines n m s
      → steps rom lines n (with_tlb m t) s ≡ swapped t (steps rom lines n m s)
  unfolding steps
  steps_swap t S zero m s Q U = refl
  steps_swap t S (suc n) m s Q U =
      let u = starts rom lines n m s U in
      let e = step_swap lines m u (Q.2 u) s rom t (subst₂ (λ (l : List ℕ) (b : ℕ). SameSlots b l t) (sym Q.0) (sym Q.1) S) in
      let rest = λ (g : eqb (step_of m s rom lines).stop 0 ≡ true). steps_swap t S n (step_of m s rom lines).machine (step_of m s rom lines).ram (views_next tlb a rom lines m s u Q) (later rom lines n m s g U) in
      rw e (grind arith)
