-- The plan begins as such a plan: no slot is used, and the TLB is fresh.
use Prim.Native.Nat.{ℕ, zero, suc, ◌+◌, ◌*◌, ◌<◌}
use native.Mathlib.Omega.{arith}
use mathlib.Core.Path.{◌≡◌, refl, ap, ◌∙◌}
use mathlib.Core.Bool.{Bool}
use lib.ListN.{length, get_or, replicate}
use Rattle.card.specs.Machine.{fresh_slots, fresh}
use Rattle.std.specs.Prelude.{Option, None}
use Rattle.place.specs.declared.Owner.{Owner}
use Rattle.place.specs.Plan.{begun}
use Rattle.mills.proofs.Planned.{Planned}

-- four numbers on is one slot on
four : (j d : ℕ) → suc j * 4 + d ≡ suc (suc (suc (suc (j * 4 + d))))
four j d = omega arith

fresh_long : (n i : ℕ) → length (fresh_slots n i) ≡ n * 4
unfolding fresh_slots
fresh_long zero i = refl
fresh_long (suc n) i = ap (λ (x : ℕ). suc (suc (suc (suc x)))) (fresh_long n (i + 1)) ∙ omega arith

-- the numbers of a fresh slot
mask_fresh : (n i j : ℕ) → j < n → get_or (fresh_slots n i) (j * 4) 0 ≡ 0
unfolding fresh_slots
mask_fresh zero i j h = absurd (omega arith)
mask_fresh (suc n) i zero h = refl
mask_fresh (suc n) i (suc j) h = let e : suc j * 4 ≡ suc (suc (suc (suc (j * 4)))) = omega arith in rw e (mask_fresh n (i + 1) j (omega arith))

hi_fresh : (n i j : ℕ) → j < n → get_or (fresh_slots n i) (j * 4 + 1) 0 ≡ 0x80000000 + (i + j) * 0x2000
unfolding fresh_slots
hi_fresh zero i j h = absurd (omega arith)
hi_fresh (suc n) i zero h = omega arith
hi_fresh (suc n) i (suc j) h = rw (four j 1) (hi_fresh n (i + 1) j (omega arith) ∙ omega arith)

lo_fresh : (n i j h : ℕ) → j < n → h < 2 → get_or (fresh_slots n i) (j * 4 + 2 + h) 0 ≡ 0
unfolding fresh_slots
lo_fresh zero i j h l t = absurd (omega arith)
lo_fresh (suc n) i zero zero l t = refl
lo_fresh (suc n) i zero (suc zero) l t = refl
lo_fresh (suc n) i zero (suc (suc h)) l t = absurd (omega arith)
lo_fresh (suc n) i (suc j) h l t = let e : suc j * 4 + 2 + h ≡ suc (suc (suc (suc (j * 4 + 2 + h)))) = omega arith in rw e (lo_fresh n (i + 1) j h (omega arith) t)

nobody_at : (n g : ℕ) → get_or {A = Option Owner} (replicate n None) g None ≡ None
nobody_at zero g = refl
nobody_at (suc n) zero = refl
nobody_at (suc n) (suc g) = nobody_at n g

pub begun_planned : (may : ℕ → ℕ → Bool → Type 0) (kernel : ℕ) → Planned may kernel (begun kernel)
unfolding begun fresh
begun_planned may kernel =
    record {
      used_small = omega arith;
      used_next = omega arith;
      after = omega arith;
      low = λ g h. nobody_at 16 g;
      slots = fresh_long 48 0;
      pages = refl;
      masks = λ i h. mask_fresh 48 0 i h;
      fresh_hi = λ i g h. hi_fresh 48 0 i h ∙ omega arith;
      fresh_lo = λ i h g m t. lo_fresh 48 0 i h m t;
      keyed = λ i h. absurd (omega arith);
      apart = λ i j g h e. absurd (omega arith);
      halves = λ i h g t. absurd (omega arith);
    }
