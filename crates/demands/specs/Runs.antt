-- How a run ends, how many steps it counts, and that it may be made in parts (N1, N10 to N12, N14, N17, N20).
use Rattle.std.specs.Prelude.{ℕ, ◌+◌, ◌<◌, ◌≤◌, ◌≡◌, List, ◌↔◌, ◌⊎◌, eqb}
use Rattle.promise.specs.Pick.{pick}
use Rattle.card.specs.declared.Machine.{Machine}
use Rattle.card.specs.Step.{Out, step_of}
use Rattle.card.specs.Run.{Whole, plus, steps}
use Rattle.demands.specs.Call.{Call, run}
use Rattle.demands.specs.Refusals.{Accepted}

-- what k steps of a call leave
abbrev pub after : Call → ℕ → Whole
after c k = steps c.rom c.lines k c.machine c.ram

-- the first k steps go on: none of them stops, and all k are counted
pub record GoOn (c : Call) (k : ℕ) : Type 0 where
  pub no_stop : (after c k).stop ≡ 0
  pub all_counted : (after c k).steps ≡ k

-- the step after these k
abbrev pub next : Call → ℕ → Out
next c k = step_of (after c k).machine (after c k).ram c.rom c.lines

-- the call is accepted and all of its budget is used up (N1)
pub record UsesBudget (c : Call) : Type 0 where
  pub accepted : Accepted c
  pub go_on : GoOn c c.budget

-- the call is accepted, and within its budget some steps go on and the one after them stops with n (N10 to N12)
pub record StopsWith (c : Call) (n : ℕ) : Type 0 where
  pub accepted : Accepted c
  pub before : ℕ
  pub within : before < c.budget
  pub go_on : GoOn c before
  pub stops : (next c before).stop ≡ n

-- of every call: its stop is given just in its case and there is no other than these and the refusals; the steps that it counts are those that went on, at most the budget; where it stops, the step after these is the one that stopped, so none is left out; and what it leaves is what they left
pub record Runs (c : Call) : Type 0 where
  pub zero : ((run c).stop ≡ 0) ↔ UsesBudget c
  pub sixteen : ((run c).stop ≡ 16) ↔ StopsWith c 16
  pub seventeen : ((run c).stop ≡ 17) ↔ StopsWith c 17
  pub eighteen : ((run c).stop ≡ 18) ↔ StopsWith c 18
  pub no_other : ((run c).stop ≤ 4) ⊎ ((16 ≤ (run c).stop) × ((run c).stop ≤ 18))
  pub within_budget : (run c).steps ≤ c.budget
  pub all_used : (run c).stop ≡ 0 → (run c).steps ≡ c.budget
  pub counted : Accepted c → GoOn c (run c).steps
  pub stopped_next : Accepted c → 1 ≤ (run c).stop → (next c (run c).steps).stop ≡ (run c).stop
  pub machine_left : Accepted c → (run c).machine ≡ (after c (run c).steps).machine
  pub ram_left : Accepted c → (run c).ram ≡ (after c (run c).steps).ram

-- steps that are resumed where w left off, with b steps more: nothing more where w stopped
abbrev pub resumed : List ℕ → ℕ → ℕ → Whole → Whole
resumed rom lines b w = pick (eqb w.stop 0) (plus w.steps (steps rom lines b w.machine w.ram)) w

-- a + b steps are a steps and then, if these did not stop, b steps from where they ended
abbrev pub InParts : Type 0
InParts = (rom : List ℕ) (lines a b : ℕ) (m : Machine) (ram : List ℕ) → steps rom lines (a + b) m ram ≡ resumed rom lines b (steps rom lines a m ram)
