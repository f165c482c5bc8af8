-- A search that finds slot i is one in which slot i matches and no other, so what is reached is what the demand says.
use Prim.Native.Nat.{ℕ}
use native.Mathlib.Omega.{arith}
use mathlib.Core.Path.{◌≡◌, refl, ap, ◌∙◌}
use mathlib.Core.Bool.{true}
use mathlib.Core.List.{List}
use Rattle.tlb.specs.declared.Half.{Half}
use Rattle.tlb.specs.declared.Found.{Found}
use Rattle.tlb.specs.declared.Found.TheVariants.{Absent, One, Many}
use Rattle.tlb.specs.Slot.{slot_at, valid_of}
use Rattle.tlb.specs.Match.{lookup}
use Rattle.tlb.specs.Translate.{vaddr, odd_of, half_of, physical, through, through_slot, through_found, mapped}
use Rattle.tlb.proofs.Tells.{one_only, only_one}
use Rattle.isolation.specs.Reach.{Reached, ReachedDirty}
use Rattle.isolation.specs.Means.{lo, Leads, LeadsDirty, ReachedMeans}

module _ (tlb : List ℕ) (asid p : ℕ) where
  -- the half of slot i that an address picks
  abbrev picked : ℕ → ℕ → Half
  picked i v = half_of i (odd_of (slot_at tlb i).mask v) (lo tlb i v)

  -- a way to p, and the half that it goes through
  record Way (half : Half) : Type 0 where
    leads : Leads tlb asid p
    half_is : picked leads.slot leads.from ≡ half

  way : (r : Reached tlb asid p) → Way r.half
  unfolding mapped through_found through_slot through
  way r = go (lookup tlb asid (vaddr r.from)) refl
    where
      go : (f : Found) → lookup tlb asid (vaddr r.from) ≡ f → Way r.half
      go Absent e = let l = r.leads in cc
      go (One i) e =
          let l = r.leads in
          let t : valid_of (lo tlb i r.from) ≡ true = grind arith in
          let q : physical (slot_at tlb i).mask (lo tlb i r.from) r.from ≡ p = grind arith in
          let h : picked i r.from ≡ r.half = grind arith in
          record {
            leads = record { from = r.from; slot = i; below = r.below; only = one_only tlb asid (vaddr r.from) i e; valid = t; lands = q };
            half_is = h;
          }
      go Many e = let l = r.leads in cc

  back : Leads tlb asid p → Reached tlb asid p
  unfolding mapped through_found through_slot through
  back l = record { from = l.from; half = picked l.slot l.from; below = l.below; leads = grind (arith, only_one) }

  way_dirty : ReachedDirty tlb asid p → LeadsDirty tlb asid p
  way_dirty d = let w = way d.reached in record { leads = w.leads; dirty = ap (λ (h : Half). h.dirty) w.half_is ∙ d.dirty }

  back_dirty : LeadsDirty tlb asid p → ReachedDirty tlb asid p
  unfolding back
  back_dirty l = record { reached = back l.leads; dirty = l.dirty }

pub reached_means : ReachedMeans
reached_means tlb asid p =
    record {
      reached = ((λ r. (way tlb asid p r).leads), back tlb asid p);
      dirty = (way_dirty tlb asid p, back_dirty tlb asid p);
    }
