-- What a store leaves as it was, of what is read.
use Rattle.std.specs.Prelude.{ℕ, ◌+◌, ◌*◌, ◌/◌, ◌≡◌, ◌≢◌, List, Bool, Some}
use Rattle.std.proofs.Common.{arith}
use Rattle.std.proofs.Math.Path.{refl}
use Rattle.std.proofs.Math.Bool.{true, false}
use Rattle.memory.specs.declared.PAddr.{PAddr}
use Rattle.memory.specs.declared.Store.{Store}
use Rattle.memory.specs.Memory.{part, read}
use Rattle.memory.proofs.MemoryLaws.{SameEight, part_same, read_same}
use Rattle.memory.specs.Stores.{lands, put_bytes}
use Rattle.memory.specs.StoreLaws.{length_put, landing, put_other, put_refused}

-- a store leaves what is read elsewhere
module _ (ram rom : List ℕ) (s : Store) (p : PAddr) (away : s.to.0 / 8 ≢ p.0 / 8) where
  eight_elsewhere : (b : Bool) → lands ram s ≡ b → SameEight (put_bytes ram (Some s)) ram p.0
  eight_elsewhere false e i h = rw (put_refused ram s e)
  eight_elsewhere true e i h =
      put_other ram s (p.0 / 8 * 8 + i) (λ j l q. away (omega (arith, (landing ram s e).2)))

  pub part_elsewhere : part (put_bytes ram (Some s)) rom p ≡ part ram rom p
  part_elsewhere =
      part_same (put_bytes ram (Some s)) ram rom rom p (length_put ram (Some s)) refl
      (eight_elsewhere (lands ram s) refl) (λ l i h. refl)

  pub read_elsewhere : read (put_bytes ram (Some s)) rom p ≡ read ram rom p
  read_elsewhere =
      read_same (put_bytes ram (Some s)) ram rom rom p (length_put ram (Some s)) refl
      (eight_elsewhere (lands ram s) refl) (λ l i h. refl)
