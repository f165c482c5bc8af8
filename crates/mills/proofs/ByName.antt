-- Isolation speaks of what is not reached, and what is reached is one's own.
use Prim.Native.Nat.{ℕ, ◌/◌}
use native.Mathlib.Omega.{arith}
use mathlib.Core.Path.{◌≡◌, sym, ap, subst}
use mathlib.Core.List.{List}
use lib.ListN.{length, get_or}
use Rattle.isolation.specs.Reach.{Reached}
use Rattle.isolation.specs.Neighbour.{SameSlots}
use Rattle.isolation.specs.Isolation.{World, Alike, asid}
use Rattle.isolation.proofs.Isolation.{isolation, confinement}
use Rattle.mills.specs.Mills as spec
use Rattle.mills.specs.Mills.{Image}
use Rattle.mills.specs.ByName.{Runs, Unseen, Unharmed}
use Rattle.mills.proofs.Mills.{mills}

-- what mill a reaches is its own
reached_own : (file : ℕ → List ℕ) (n : ℕ) (settings : List ℕ) → Image file n settings → (a : ℕ) (w : World) → Runs file n settings a w → (p : ℕ) → Reached w.machine.tlb (asid w.machine) p → spec.owner_of file n settings (p / 4096) ≡ a
reached_own file n settings I a w R p r =
    (mills file n settings I).apart.own a p R.one
    (subst (λ (t : List ℕ). Reached t a p) R.slots (subst (λ (x : ℕ). Reached w.machine.tlb x p) R.under r))

pub unseen : Unseen
unseen file n settings I a w₁ w₂ R U₂ B k U = isolation w₁ w₂ R.world U₂ alike k U
  where
    alike : Alike w₁ w₂
    alike =
        record {
          cpu = B.cpu;
          cp0 = B.cp0;
          regs = B.regs;
          slots = subst (λ (x : ℕ). SameSlots x w₁.machine.tlb w₂.machine.tlb) (sym R.under) B.slots;
          lines = B.lines;
          ram = record { long = B.long; same = λ i r. B.same i (reached_own file n settings I a w₁ R i (subst (λ (x : ℕ). Reached w₁.machine.tlb (asid w₁.machine) x) (omega arith) r)) };
          rom = record { long = ap length B.roms; same = λ i r. ap (λ (l : List ℕ). get_or l i 0) B.roms };
        }

pub unharmed : Unharmed
unharmed file n settings I a w R k U p other =
    (confinement w R.world k U).same p (λ r. other (reached_own file n settings I a w R p r.reached))
