-- A call of the card: what it is given, and the run that the definitions make of it.
use Rattle.std.specs.Prelude.{ℕ, List}
use Rattle.card.specs.declared.Machine.{Machine}
use Rattle.card.specs.Run.{Whole, run_of}

-- ROM, the interrupt lines, the budget, the machine and RAM
pub record Call : Type 0 where
  pub rom : List ℕ
  pub lines : ℕ
  pub budget : ℕ
  pub machine : Machine
  pub ram : List ℕ

-- what it gives back: the machine and RAM after it, the counted steps and the number of the table
abbrev pub run : Call → Whole
run c = run_of c.rom c.lines c.budget c.machine c.ram
