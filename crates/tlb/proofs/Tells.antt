-- The search tells exactly which slots match: by induction over the slots looked at.
use Prim.Native.Nat.{ℕ, zero, suc, ◌+◌, ◌<◌}
use mathlib.Core.Path.{◌≡◌, refl}
use mathlib.Core.Bool.{Bool, true, false}
use mathlib.Core.List.{List}
use native.Mathlib.Nat.{add-zero}
use Rattle.std.proofs.Common.{below_more}
use native.Mathlib.Omega.{arith}
use Rattle.tlb.specs.declared.Found.{Found}
use Rattle.tlb.specs.declared.Found.TheVariants.{Absent, One, Many}
use Rattle.tlb.specs.declared.VAddr.{VAddr}
use Rattle.tlb.specs.Match.{matches_at, more, seek, lookup, Only, Two, Tells}

clash : {b : Bool} → b ≡ true → b ≡ false → ⊥
clash e d = let z : ◌≡◌ {A = ℕ} 0 1 = cc in omega arith

module _ (matching : ℕ → Bool) where
  tells_more : (i : ℕ) (f : Found) (b : Bool) → matching i ≡ b → Tells matching i f → Tells matching (i + 1) (more b i f)
  unfolding Tells more
  tells_more i Absent false e t = below_more (λ (j : ℕ). matching j ≡ false) i t e
  tells_more i (One k) false e t =
      record {
        below = let l = t.below in omega arith;
        matches_it = t.matches_it;
        alone = below_more (λ (j : ℕ). matching j ≡ true → j ≡ k) i t.alone (λ m. absurd (clash m e));
      }
  tells_more i Many false e t =
      record { first = t.first; second = t.second; apart = t.apart; below = let l = t.below in omega arith; first_matches = t.first_matches; second_matches = t.second_matches }
  tells_more i Absent true e t =
      record { below = omega arith; matches_it = e; alone = below_more (λ (j : ℕ). matching j ≡ true → j ≡ i) i (λ j h m. absurd (clash m (t j h))) (λ m. refl) }
  tells_more i (One k) true e t =
      record { first = k; second = i; apart = t.below; below = omega arith; first_matches = t.matches_it; second_matches = e }
  tells_more i Many true e t =
      record { first = t.first; second = t.second; apart = t.apart; below = let l = t.below in omega arith; first_matches = t.first_matches; second_matches = t.second_matches }

module _ (tlb : List ℕ) (asid : ℕ) (v : VAddr) where
  seek_tells : (left i : ℕ) (f : Found) → Tells (matches_at tlb asid v) i f → Tells (matches_at tlb asid v) (i + left) (seek left i tlb asid v f)
  unfolding seek
  seek_tells zero i f t = rw (add-zero i) t
  seek_tells (suc left) i f t =
      let e : i + suc left ≡ i + 1 + left = omega arith in
      rw e (seek_tells left (i + 1) (more (matches_at tlb asid v i) i f) (tells_more (matches_at tlb asid v) i f (matches_at tlb asid v i) refl t))

  pub lookup_tells : Tells (matches_at tlb asid v) 48 (lookup tlb asid v)
  unfolding lookup Tells
  lookup_tells = seek_tells 48 0 Absent (λ j h. let z : ⊥ = omega arith in absurd z)

  -- One i just where i matches and no other does
  pub one_only : (i : ℕ) → lookup tlb asid v ≡ One i → Only (matches_at tlb asid v) 48 i
  unfolding Tells
  one_only i e = rw e at lookup_tells

  pub one_below : (i : ℕ) → lookup tlb asid v ≡ One i → i < 48
  one_below i e = (one_only i e).below

  pub only_one : (i : ℕ) → Only (matches_at tlb asid v) 48 i → lookup tlb asid v ≡ One i
  unfolding Tells
  only_one i o = grind (arith, lookup_tells, clash)

  -- Many just where two different ones match
  pub many_two : lookup tlb asid v ≡ Many → Two (matches_at tlb asid v) 48
  unfolding Tells
  many_two e = rw e at lookup_tells

  pub two_many : Two (matches_at tlb asid v) 48 → lookup tlb asid v ≡ Many
  unfolding Tells
  two_many o = grind (arith, lookup_tells, clash)

  -- Absent just where none matches
  pub absent_none : lookup tlb asid v ≡ Absent → (j : ℕ) → j < 48 → matches_at tlb asid v j ≡ false
  unfolding Tells
  absent_none e = rw e at lookup_tells

  pub none_absent : ((j : ℕ) → j < 48 → matches_at tlb asid v j ≡ false) → lookup tlb asid v ≡ Absent
  unfolding Tells
  none_absent n = grind (arith, lookup_tells, clash)
