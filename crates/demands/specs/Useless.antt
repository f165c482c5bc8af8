-- The useless emulators that demand 2 shuts out: none of them does what the definitions say, of the calls that there are (P2, P3).
use Rattle.std.specs.Prelude.{ℕ, ◌+◌, ◌≤◌, ◌≡◌}
use Rattle.card.specs.Machine.{fresh}
use Rattle.card.specs.Run.{Whole}
use Rattle.demands.specs.Call.{Call, run}
use Rattle.demands.specs.Given.{Given}

-- an emulator: from what a call is given to what it leaves
abbrev pub Emulator : Type 0
Emulator = Call → Whole

-- it does what the definitions say, for every call that can be given
abbrev pub Right : Emulator → Type 0
Right f = (c : Call) → Given c → f c ≡ run c

-- the same call with another budget
abbrev pub with_budget : Call → ℕ → Call
with_budget c n = record { rom = c.rom; lines = c.lines; budget = n; machine = c.machine; ram = c.ram }

-- it refuses every machine, by whatever number
abbrev pub RefusesAll : Emulator → Type 0
RefusesAll f = (c : Call) → Given c → (1 ≤ (f c).stop) × ((f c).stop ≤ 4)

-- it always reports the fresh machine
abbrev pub AlwaysFresh : Emulator → Type 0
AlwaysFresh f = (c : Call) → Given c → (f c).machine ≡ fresh

-- it returns its machine untouched
abbrev pub Untouched : Emulator → Type 0
Untouched f = (c : Call) → Given c → (f c).machine ≡ c.machine

-- it does the whole run in step one and idles after: any budget leaves what a budget of one leaves
abbrev pub AllAtOnce : Emulator → Type 0
AllAtOnce f = (c : Call) (n : ℕ) → Given (with_budget c (1 + n)) → (f (with_budget c (1 + n))).machine ≡ (f (with_budget c 1)).machine

-- its step count is made up from the budget and the stop alone, as the budget where the stop is 0 and else 0
abbrev pub MadeUp : Emulator → Type 0
MadeUp f = (count : ℕ → ℕ → ℕ) × ((c : Call) → Given c → (f c).steps ≡ count c.budget (f c).stop)

-- no emulator that behaves so is right
abbrev pub Refuted : (Emulator → Type 0) → Type 0
Refuted P = (f : Emulator) → P f → Right f → ⊥

pub record Useless : Type 0 where
  pub refuses_all : Refuted RefusesAll
  pub always_fresh : Refuted AlwaysFresh
  pub untouched : Refuted Untouched
  pub all_at_once : Refuted AllAtOnce
  pub made_up : Refuted MadeUp
