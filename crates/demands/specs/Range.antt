-- Accepted machines stay accepted: no step and no run leads out of the range of refusal 4 (N21 to N25), so r0 is 0 before every step.
use Rattle.std.specs.Prelude.{ℕ, ◌+◌, ◌≤◌, ◌≡◌, true, List, eqb, get_or, length}
use Rattle.promise.specs.Pick.{pick}
use Rattle.card.specs.declared.Machine.{Machine}
use Rattle.card.specs.Machine.{in_range}
use Rattle.card.specs.Step.{step_of}
use Rattle.card.specs.Run.{whole, plus, run_of}
use Rattle.demands.specs.Call.{Call, run}
use Rattle.demands.specs.Refusals.{RamFits, RomFits, Accepted}
use Rattle.demands.specs.Runs.{after}

-- a machine in its range; 32 registers and 48 slots of four numbers are what every machine of the card has
pub record Good (m : Machine) : Type 0 where
  pub registers : length m.regs ≡ 32
  pub slots : length m.tlb ≡ 192
  pub is_in_range : in_range m ≡ true

-- a step of a machine in its range leaves one, and RAM as long as it was
abbrev pub StepStays : Type 0
StepStays =
    (m : Machine) (ram rom : List ℕ) (lines : ℕ) → Good m
    → Good (step_of m ram rom lines).machine × (length (step_of m ram rom lines).ram ≡ length ram)

-- so does a run
abbrev pub RunStays : Type 0
RunStays = (c : Call) → Good c.machine → Good (run c).machine × (length (run c).ram ≡ length c.ram)

-- the value of r0
abbrev pub r0 : Machine → ℕ
r0 m = get_or m.regs 0 0

-- r0 is 0 after any number of an accepted call's steps
abbrev pub R0IsZero : Type 0
R0IsZero = (c : Call) → length c.machine.regs ≡ 32 → length c.machine.tlb ≡ 192 → Accepted c → (k : ℕ) → r0 (after c k).machine ≡ 0

-- a machine whose r0 is not 0 is refused with 4, be it run or stepped: no step is counted and nothing changes
abbrev pub R0Refused : Type 0
R0Refused = (c : Call) → RamFits c → RomFits c → c.lines ≤ 31 → (r0 c.machine ≡ 0 → ⊥) → run c ≡ whole c.machine c.ram 0 4

-- a run of a + b steps is a run of a steps and then, if that did not stop, a run of b steps from where it ended
abbrev pub RunInParts : Type 0
RunInParts =
    (rom : List ℕ) (lines a b : ℕ) (m : Machine) (ram : List ℕ) → length m.regs ≡ 32 → length m.tlb ≡ 192
    → run_of rom lines (a + b) m ram ≡ pick (eqb (run_of rom lines a m ram).stop 0) (plus (run_of rom lines a m ram).steps (run_of rom lines b (run_of rom lines a m ram).machine (run_of rom lines a m ram).ram)) (run_of rom lines a m ram)
