-- A step that goes on sends out only what lands, and one that raises or stops sends out nothing.
use Prim.Native.Nat.{ℕ}
use native.Mathlib.Omega.{arith}
use mathlib.Core.Path.{◌≡◌, sym, ◌∙◌, ap}
use mathlib.Core.Bool.{true}
use mathlib.Core.List.{List}
use Rattle.std.specs.Prelude.{Some, Ok}
use Rattle.memory.specs.declared.Store.{Store}
use Rattle.memory.specs.Stores.{lands, put_bytes, put_answer}
use Rattle.access.specs.Effect.{turned, raised, stopped}
use Rattle.card.specs.declared.Machine.{Machine}
use Rattle.card.specs.Step.{apply, step_of}
use Rattle.demands.specs.StepStops.{effect}
use Rattle.demands.specs.Lands.{StoresLand}
use Rattle.demands.proofs.Why.{effect_why}

-- the bus has nothing against a step's store
done : (m : Machine) (s o : List ℕ) (lines : ℕ) → put_answer s (effect m s o lines).store ≡ Ok tt
unfolding raised turned stopped put_answer
done m s o lines = let w = effect_why m s o lines in grind arith

landed : (ram : List ℕ) (s : Store) → put_answer ram (Some s) ≡ Ok tt → lands ram s ≡ true
unfolding put_answer
landed ram s e = grind arith

pub stores_land : StoresLand
unfolding step_of apply put_bytes
stores_land m ram o lines s e =
    let l = landed ram s (ap (put_answer ram) (sym e) ∙ done m ram o lines) in
    record { place = l; ram_after = ap (put_bytes ram) e ∙ rw l }
