-- An address of a page that is there leads somewhere: one slot matches it, and its half is valid.
use Prim.Native.Nat.{ℕ, ◌+◌, ◌*◌, ◌/◌, ◌%◌, ◌^◌, ◌<◌}
use native.Mathlib.Omega.{arith}
use mathlib.Core.Path.{◌≡◌, refl, sym, ap, ◌∙◌}
use mathlib.Core.Bool.{Bool, true}
use mathlib.Core.Logic.{inl, inr}
use Rattle.tlb.specs.Slot.{slot_at, valid_of, dirty_of}
use Rattle.tlb.specs.Match.{Only, matches_at, hits}
use Rattle.tlb.specs.Translate.{vaddr, odd_of, half_of, physical, through, through_slot, through_found, mapped}
use Rattle.tlb.proofs.Tells.{only_one}
use Rattle.place.specs.Plan.{Plan}
use Rattle.mills.proofs.Pages4K.{hits_own}
use Rattle.mills.proofs.Planned as planned
use Rattle.mills.proofs.Planned.{Planned, hi, lo}
use Rattle.mills.proofs.There.{There}
use Rattle.mills.proofs.Ways.{Somewhere, matching, matches_as, picked, picks, lo_valid}

module _ {may : ℕ → ℕ → Bool → Type 0} {k : ℕ} (p : Plan) (L : Planned may k p) where
  pub somewhere : (a v : ℕ) (w : Bool) → a < 256 → v < 2 ^ 31 → There p a (v / 4096) w → Somewhere p L a v w
  unfolding mapped through_found through_slot through
  somewhere a v w small below T =
      record {
        place = physical (slot_at p.tlb s).mask (picked p.tlb s v) v;
        half = half_of s (odd_of (slot_at p.tlb s).mask v) (picked p.tlb s v);
        leads = rw (only_one p.tlb a (vaddr v) s only, valid) refl;
        dirty = λ e. ap (λ (n : ℕ). dirty_of n) y ∙ T.dirty e;
      }
    where
      s : ℕ
      s = T.slot

      there : s < 48
      there = let u = T.used in let h = L.used_small in omega arith

      key_is : hi p s ≡ v / 8192 * 8192 + a
      key_is = let e = T.is in omega arith

      only : Only (matches_at p.tlb a (vaddr v)) 48 s
      only =
          record {
            below = there;
            matches_it = matches_as p L s a v there ∙ ap (λ (x : ℕ). hits 19 0 x a v) key_is ∙ hits_own (v / 8192) a v small refl;
            alone = λ j h e. let m = matching p L j a v h below e in L.apart j s m.used T.used (m.is ∙ sym key_is);
          }

      y : picked p.tlb s v ≡ lo p s (v / 4096 % 2)
      y = picks p L s v there

      by_half : planned.Half may k p.next p.pages (hi p s) (lo p s (v / 4096 % 2)) (v / 4096 % 2) → valid_of (lo p s (v / 4096 % 2)) ≡ true
      by_half (inl e) = absurd (T.some e)
      by_half (inr h) = ap (λ (n : ℕ). valid_of n) h.is ∙ lo_valid h.frame h.writable

      valid : valid_of (picked p.tlb s v) ≡ true
      valid = ap (λ (n : ℕ). valid_of n) y ∙ by_half (L.halves s (v / 4096 % 2) T.used (omega arith))
