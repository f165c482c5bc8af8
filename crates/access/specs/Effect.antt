-- The effect of a step, as numbers only: what is written where, and how Cpu and CP0 go on.
use Rattle.std.specs.Prelude.{ℕ, Option, Some, None}
use Rattle.memory.specs.declared.Store.{Store}
use Rattle.tlb.specs.declared.SlotWrite.{SlotWrite}
use Rattle.cp0.specs.declared.Exception.{Exception}
use Rattle.access.specs.declared.Turn.{Turn}
use Rattle.access.specs.declared.Turn.TheVariants.{Next, Enter, Stay}
use Rattle.access.specs.declared.Stop.{Stop}
use Rattle.access.specs.declared.Stop.TheVariants.{DoubleMatch, BranchInSlot, NotBuilt}
use Rattle.access.specs.declared.Effect.{Effect}

-- the number of document 01's table (N10 to N13)
abbrev pub number : Stop → ℕ
number DoubleMatch = 16
number BranchInSlot = 17
number NotBuilt = 18

-- the same, 0 where nothing stops
abbrev pub number_of : Option Stop → ℕ
number_of None = 0
number_of (Some why) = number why

-- an effect, field by field
abbrev pub effects : Turn → ℕ → ℕ → Option SlotWrite → Option Store → Option Stop → Effect
effects t r v s w n = record { turn = t; reg = r; value = v; slot = s; store = w; stop = n }

-- Cpu and CP0 go on, and nothing else is written
unfoldable pub turned : Turn → Effect
turned t = effects t 0 0 None None None

-- a register is written; number 0 means none, since r0 is never written
unfoldable pub wrote : ℕ → ℕ → Effect
wrote reg value = effects Next reg value None None None

-- the step is an exception or an interrupt
unfoldable pub raised : Exception → Effect
raised e = turned (Enter e)

-- the run stops and the state is the one before the step (N10 to N13, N17)
unfoldable pub stopped : Stop → Effect
stopped why = effects Stay 0 0 None None (Some why)
