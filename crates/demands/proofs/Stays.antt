-- A step and a run of a machine in its range leave one, so a run may be resumed and r0 is 0 before every step.
use Prim.Native.Nat.{ℕ, zero, suc}
use native.Mathlib.Omega.{arith}
use mathlib.Core.Path.{◌≡◌, refl, ◌∙◌, ap}
use mathlib.Core.Bool.{true, false}
use mathlib.Core.List.{List}
use lib.ListN.{get_or, length, length-set}
use lib.Seq.{get_or-set_other}
use Rattle.memory.specs.Memory.{read}
use Rattle.memory.specs.StoreLaws.{length_put}
use Rattle.tlb.specs.Range.{tlb_in_range}
use Rattle.tlb.proofs.Written.{put_length}
use Rattle.tlb.proofs.StaysInRange.{put_in_range}
use Rattle.cp0.specs.declared.Cp0.{Cp0}
use Rattle.cp0.specs.Range.{cp0_in_range}
use Rattle.effect.specs.declared.Cpu.{Cpu}
use Rattle.access.specs.declared.Turn.{Turn}
use Rattle.access.specs.declared.Effect.{Effect}
use Rattle.effect.specs.After.{onward, pending, arrived, cpu_after}
use Rattle.card.specs.declared.Machine.{Machine}
use Rattle.card.specs.Machine.{cpu_in_range, in_range}
use Rattle.card.specs.Step.{put_reg, apply, step_of}
use Rattle.card.specs.Run.{Whole, whole, refusal, steps, run_of}
use Rattle.demands.specs.Call.{run}
use Rattle.demands.specs.Runs.{after}
use Rattle.demands.specs.Range.{r0, Good, StepStays, RunStays, R0IsZero, R0Refused, RunInParts}
use Rattle.demands.proofs.Runs.{stops, parts}
use Rattle.demands.proofs.Refusals.{no_number, refused_kept, refusals}
use Rattle.demands.proofs.Range.{Keeps, effect_keeps}

-- ---- one step

-- no target without a slot
cpu_stays : (cpu : Cpu) (cp0 : Cp0) (x : Turn) → cpu_in_range cpu ≡ true → cpu_in_range (cpu_after cpu cp0 x) ≡ true
unfolding cpu_in_range cpu_after onward pending arrived
cpu_stays cpu cp0 x h = grind arith

-- r0 is never written
r0_stays : (regs : List ℕ) (i v : ℕ) → get_or regs 0 0 ≡ 0 → get_or (put_reg regs i v) 0 0 ≡ 0
unfolding put_reg
r0_stays regs i v h = grind (arith, get_or-set_other {A = ℕ})

length_reg : (regs : List ℕ) (i v : ℕ) → length (put_reg regs i v) ≡ length regs
unfolding put_reg
length_reg regs i v = grind (arith, length-set {A = ℕ})

module _ (m : Machine) (g : Good m) where
  -- what is known of each part of the machine
  known : (r0 m ≡ 0) × (cpu_in_range m.cpu ≡ true) × (cp0_in_range m.cp0 ≡ true) × (tlb_in_range m.tlb ≡ true)
  unfolding in_range
  known = let h = g.is_in_range in grind arith

  applied_good : (ram : List ℕ) (e : Effect) → Keeps m.cp0 e → Good (apply m ram e).machine
  unfolding apply in_range
  applied_good ram e k =
      let h = known in
      let t = k.turn m.cpu.pc m.cpu.slot in
      grind (arith, length_reg, put_length, r0_stays, cpu_stays, put_in_range)

  step_good : (ram rom : List ℕ) (lines : ℕ) → Good (step_of m ram rom lines).machine
  unfolding step_of
  step_good ram rom lines = applied_good ram _ (effect_keeps m.cpu m.cp0 m.regs m.tlb (read ram rom) known.2 known.3 lines)

step_long : (m : Machine) (ram rom : List ℕ) (lines : ℕ) → length (step_of m ram rom lines).ram ≡ length ram
unfolding step_of apply
step_long m ram rom lines = length_put ram _

pub step_stays : StepStays
step_stays m ram rom lines g = (step_good m g ram rom lines, step_long m ram rom lines)

-- ---- a run

-- a machine in range, and RAM of this length
record Stays (n : ℕ) (w : Whole) : Type 0 where
  good : Good w.machine
  long : length w.ram ≡ n

module _ (rom : List ℕ) (lines : ℕ) where
  steps_stay : (k : ℕ) (m : Machine) (s : List ℕ) → Good m → Stays (length s) (steps rom lines k m s)
  unfolding steps
  steps_stay zero m s g = record { good = g; long = refl }
  steps_stay (suc k) m s g =
      let w = steps_stay k (step_of m s rom lines).machine (step_of m s rom lines).ram (step_good m g s rom lines) in
      let e = step_long m s rom lines in
      let t = stops rom lines k m s in
      grind arith

  run_stay : (k : ℕ) (m : Machine) (s : List ℕ) → Good m → Stays (length s) (run_of rom lines k m s)
  unfolding run_of
  run_stay k m s g = let w = steps_stay k m s g in grind arith

pub run_stays : RunStays
run_stays c g = let w = run_stay c.rom c.lines c.budget c.machine c.ram g in (w.good, w.long)

-- ---- r0

pub r0_is_zero : R0IsZero
r0_is_zero c registers slots a k =
    let g : Good c.machine = record { registers = registers; slots = slots; is_in_range = a.machine } in
    (known (after c k).machine (steps_stay c.rom c.lines k c.machine c.ram g).good).0

out_of_range : (m : Machine) → (r0 m ≡ 0 → ⊥) → in_range m ≡ false
unfolding in_range
out_of_range m n = grind arith

pub r0_refused : R0Refused
r0_refused c ram rom lines n =
    let e : (run c).stop ≡ 4 = (refusals c).four.1 (ram, rom, lines, out_of_range c.machine n) in
    refused_kept c (omega arith) (omega arith) ∙ ap (λ (k : ℕ). whole c.machine c.ram 0 k) e

-- ---- a run in parts

module _ (rom : List ℕ) (lines a : ℕ) (m : Machine) (s : List ℕ) (registers : length m.regs ≡ 32) (slots : length m.tlb ≡ 192) where
  -- where no refusal applies to a call, none applies to what its steps leave
  next_verdict : refusal m s rom lines ≡ 0 → refusal (steps rom lines a m s).machine (steps rom lines a m s).ram rom lines ≡ 0
  next_verdict e =
      let c = (no_number (record { rom = rom; lines = lines; budget = 0; machine = m; ram = s })).0 e in
      let w = steps_stay rom lines a m s (record { registers = registers; slots = slots; is_in_range = c.machine }) in
      let i = w.good.is_in_range in
      let l = w.long in
      (no_number (record { rom = rom; lines = lines; budget = 0; machine = (steps rom lines a m s).machine; ram = (steps rom lines a m s).ram })).1 (grind arith)

pub run_in_parts : RunInParts
unfolding run_of
run_in_parts rom lines a b m s registers slots =
    let p = parts rom lines a b m s in
    let v = next_verdict rom lines a m s registers slots in
    grind arith
