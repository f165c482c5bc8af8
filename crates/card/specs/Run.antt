-- A run: the refusals 1 to 4 in order, then at most `budget` steps; the numbers that a call gives back (N1 to N25).
use Rattle.std.specs.Prelude.{ℕ, suc, zero, ◌+◌, ◌%◌, Bool, List, eqb, leb, length}
use Rattle.promise.specs.Pick.{pick, both}
use Rattle.card.specs.declared.Machine.{Machine}
use Rattle.card.specs.declared.Ran.{Ran}
use Rattle.card.specs.declared.Stepped.{Stepped}
use Rattle.card.specs.Machine.{in_range}
use Rattle.card.specs.Step.{Out, step_of}

-- a multiple of 8 from `least` to `most`
abbrev pub eights : ℕ → ℕ → ℕ → Bool
eights least most n = both (eqb (n % 8) 0) (both (leb least n) (leb n most))

-- RAM's length (N2)
abbrev pub ram_fits : ℕ → Bool
ram_fits n = eights 8 16777216 n

-- ROM's length (N3)
abbrev pub rom_fits : ℕ → Bool
rom_fits n = eights 0 4194304 n

-- the interrupt lines (N4)
abbrev pub lines_fit : ℕ → Bool
lines_fit lines = leb lines 31

-- the first refusal that applies, 0 for none (N16)
unfoldable pub refusal_by : Machine → ℕ → ℕ → ℕ → ℕ
refusal_by m ram rom lines = pick (ram_fits ram) (pick (rom_fits rom) (pick (lines_fit lines) (pick (in_range m) 0 4) 3) 2) 1

-- of a machine with its memories: their lengths are what counts
abbrev pub refusal : Machine → List ℕ → List ℕ → ℕ → ℕ
refusal m ram rom lines = refusal_by m (length ram) (length rom) lines

-- all that a run leaves: the machine, RAM, the counted steps and the number of the table
pub record Whole : Type 0 where
  pub machine : Machine
  pub ram : List ℕ
  pub steps : ℕ
  pub stop : ℕ

-- the same, field by field
abbrev pub whole : Machine → List ℕ → ℕ → ℕ → Whole
whole m s k e = record { machine = m; ram = s; steps = k; stop = e }

-- the same with k steps before it
abbrev pub plus : ℕ → Whole → Whole
plus k w = whole w.machine w.ram (k + w.steps) w.stop

-- what comes after a step: w with the step counted, or the stop, which is not counted (N17)
abbrev pub following : Out → Whole → Whole
following o w = pick (eqb o.stop 0) (plus 1 w) (whole o.machine o.ram 0 o.stop)

-- at most so many steps
unfoldable pub steps : List ℕ → ℕ → ℕ → Machine → List ℕ → Whole
steps rom lines zero m s = whole m s 0 0
steps rom lines (suc f) m s = following (step_of m s rom lines) (steps rom lines f (step_of m s rom lines).machine (step_of m s rom lines).ram)

-- a refusal takes no step and changes nothing; else the steps
unfoldable pub run_of : List ℕ → ℕ → ℕ → Machine → List ℕ → Whole
run_of rom lines budget m ram = pick (eqb (refusal m ram rom lines) 0) (steps rom lines budget m ram) (whole m ram 0 (refusal m ram rom lines))

-- a run as the code returns it
abbrev pub ran : Whole → Ran
ran w = record { machine = w.machine; steps = w.steps; stop = w.stop }

-- a single step is a run with budget 1 (row 1 of docs/DECISIONS.md)
abbrev pub stepped : Whole → Stepped
stepped w = record { machine = w.machine; stop = w.stop }
