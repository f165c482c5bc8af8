-- Isolation, confinement and what follows, of the card's accepted runs.
use Prim.Native.Nat.{ℕ, zero, suc, ◌+◌, ◌≤◌}
use native.Mathlib.Omega.{arith}
use mathlib.Core.Path.{◌≡◌, refl, sym, ◌∙◌, ap, subst, subst₂}
use mathlib.Core.List.{List}
use Rattle.memory.specs.Memory.{rom_base}
use Rattle.tlb.specs.Slot.{asid_of}
use Rattle.cp0.specs.declared.Cp0.{Cp0}
use Rattle.cp0.specs.Status.{user}
use Rattle.card.specs.declared.Machine.{Machine}
use Rattle.card.specs.Machine.{machine}
use Rattle.card.specs.Run.{Whole, refusal, steps, run_of}
use Rattle.isolation.specs.Reach.{SameReached}
use Rattle.isolation.specs.Neighbour.{SameSlots}
use Rattle.isolation.specs.Isolation.{in_user, asid, World, run, UserWorld, UserFor, SameRun, Isolation, Confinement, Still, Turned, SameSpan}
use Rattle.isolation.proofs.Neighbour.{turned_slots, reached_by}
use Rattle.isolation.proofs.Steps.{UserSteps, Views, SameWhole, steps_same, Kept, steps_kept, swapped, steps_swap}

-- an accepted run is its steps
accepted_run : (w : World) → refusal w.machine w.ram w.rom w.lines ≡ 0 → (n : ℕ) → run w n ≡ steps w.rom w.lines n w.machine w.ram
unfolding run_of
accepted_run w r n = rw r

user_steps : (w : World) → refusal w.machine w.ram w.rom w.lines ≡ 0 → (n : ℕ) → UserFor n w → UserSteps w.rom w.lines n w.machine w.ram
user_steps w r n U k l =
    let u = U k l in
    let g = accepted_run w r k in
    (ap (λ (x : Whole). x.stop) (sym g) ∙ u.0, ap (λ (x : Whole). in_user x.machine) (sym g) ∙ u.1)

starts_viewed : (w : World) → UserWorld w → Views w.machine.tlb (asid w.machine) w.machine
starts_viewed w W = (refl, refl, λ u. W.locked)

-- a first step begins in User mode
pub begins : (w : World) → UserWorld w → UserFor 1 w
unfolding steps
begins w W zero l =
    let g = accepted_run w W.accepted 0 in
    (ap (λ (x : Whole). x.stop) g, ap (λ (x : Whole). in_user x.machine) g ∙ W.user)
begins w W (suc k) l = let y : ⊥ = omega arith in absurd y

-- what it keeps of its world
kept : (w : World) → UserWorld w → (n : ℕ) → UserFor n w → Kept w.machine.tlb (asid w.machine) w.ram (run w n)
kept w W n U =
    rw (accepted_run w W.accepted n)
    (steps_kept w.machine.tlb (asid w.machine) w.rom w.lines n w.machine w.ram (starts_viewed w W) (user_steps w W.accepted n U))

pub isolation : Isolation
isolation w₁ w₂ W₁ W₂ A n U = together (accepted_run w₁ W₁.accepted n) run₂
  where
    m : Machine
    m = w₁.machine

    t : List ℕ
    t = w₂.machine.tlb

    views : Views m.tlb (asid m) m
    views = starts_viewed w₁ W₁

    U₁ : UserSteps w₁.rom w₁.lines n m w₁.ram
    U₁ = user_steps w₁ W₁.accepted n U

    -- the first machine with either memory
    S : (k : ℕ) → k ≤ n → SameWhole m.tlb (asid m) (steps w₁.rom w₁.lines k m w₁.ram) (steps w₂.rom w₁.lines k m w₂.ram)
    S k h =
        steps_same m.tlb (asid m) w₁.rom w₂.rom w₁.lines A.rom k m w₁.ram w₂.ram views A.ram
        (λ j l. U₁ j (omega arith))

    U₂ : UserSteps w₂.rom w₁.lines n m w₂.ram
    U₂ k l =
        let x = S k (omega arith) in
        let y = U₁ k l in
        (sym x.stop ∙ y.0, ap in_user (sym x.machine) ∙ y.1)

    -- the second machine is the first with its own slots
    run₂ : run w₂ n ≡ swapped t (steps w₂.rom w₁.lines n m w₂.ram)
    run₂ =
        accepted_run w₂ W₂.accepted n
        ∙ (λ i. steps w₂.rom (sym A.lines i) n (machine (sym A.cpu i) (sym A.cp0 i) (sym A.regs i) t) w₂.ram)
        ∙ steps_swap m.tlb (asid m) w₂.rom w₁.lines t A.slots n m w₂.ram views U₂

    own₁ : (run w₁ n).machine.tlb ≡ m.tlb
    own₁ = (kept w₁ W₁ n U).views.0

    own₂ : (run w₂ n).machine.tlb ≡ t
    own₂ = rw run₂ refl

    together : run w₁ n ≡ steps w₁.rom w₁.lines n m w₁.ram → run w₂ n ≡ swapped t (steps w₂.rom w₁.lines n m w₂.ram) → SameRun w₁ w₂ n
    together d e =
        let x = S n (omega arith) in
        record {
          cpu = rw (d, e) (ap (λ (m : Machine). m.cpu) x.machine);
          cp0 = rw (d, e) (ap (λ (m : Machine). m.cp0) x.machine);
          regs = rw (d, e) (ap (λ (m : Machine). m.regs) x.machine);
          slots = subst₂ (SameSlots (asid m)) (sym own₁) (sym own₂) A.slots;
          own₁ = own₁;
          own₂ = own₂;
          steps = rw (d, e) x.steps;
          stop = rw (d, e) x.stop;
          ram = rw (d, e) x.ram;
        }

pub confinement : Confinement
confinement w W n U = (kept w W n U).ram

pub still : Still
still w W n U = let v = (kept w W n U).views in (v.0, v.1)

-- ---- either first

same_turned : {tlb₁ tlb₂ : List ℕ} {a base : ℕ} {l₁ l₂ : List ℕ} → SameSlots a tlb₁ tlb₂ → SameReached tlb₁ a base l₁ l₂ → SameReached tlb₂ a base l₂ l₁
same_turned {base = base} S A = record { long = sym A.long; same = λ k r. sym (A.same k (reached_by (turned_slots S) (base + k) r)) }

pub turned : Turned
turned w₁ w₂ A =
    record {
      cpu = sym A.cpu;
      cp0 = sym A.cp0;
      regs = sym A.regs;
      slots = subst (λ (c : Cp0). SameSlots (asid_of c.entryhi) w₂.machine.tlb w₁.machine.tlb) A.cp0 (turned_slots A.slots);
      lines = sym A.lines;
      ram = subst (λ (c : Cp0). SameReached w₂.machine.tlb (asid_of c.entryhi) 0 w₂.ram w₁.ram) A.cp0 (same_turned A.slots A.ram);
      rom = subst (λ (c : Cp0). SameReached w₂.machine.tlb (asid_of c.entryhi) rom_base w₂.rom w₁.rom) A.cp0 (same_turned A.slots A.rom);
    }

pub same_span : SameSpan
same_span w₁ w₂ W₁ W₂ A n U k l =
    let S = isolation w₁ w₂ W₁ W₂ A k (λ j h. U j (omega arith)) in
    let u = U k l in
    (sym S.stop ∙ u.0, ap (λ (c : Cp0). user c.status) (sym S.cp0) ∙ u.1)
