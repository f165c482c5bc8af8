-- A step's store lands: what goes out lies within eight aligned bytes that RAM has, and RAM gains just these bytes (D9).
use Rattle.std.specs.Prelude.{ℕ, ◌≡◌, true, List, Some}
use Rattle.std.proofs.lemmas.List.Edits.{sets}
use Rattle.memory.specs.declared.Store.{Store}
use Rattle.memory.specs.Bytes.{bytes_of}
use Rattle.memory.specs.Stores.{lands}
use Rattle.card.specs.declared.Machine.{Machine}
use Rattle.card.specs.Step.{step_of}
use Rattle.demands.specs.StepStops.{effect}

-- a store that a step sends out lands, so none is dropped, and RAM after it is as it was but for the store's bytes
pub record Lands (m : Machine) (ram rom : List ℕ) (lines : ℕ) (s : Store) : Type 0 where
  pub place : lands ram s ≡ true
  pub ram_after : (step_of m ram rom lines).ram ≡ sets ram s.to.0 (bytes_of s.size s.value)

-- of every step: whatever it sends out lands (D9)
abbrev pub StoresLand : Type 0
StoresLand = (m : Machine) (ram rom : List ℕ) (lines : ℕ) (s : Store) → (effect m ram rom lines).store ≡ Some s → Lands m ram rom lines s
