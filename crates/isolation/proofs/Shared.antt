-- The shared worlds meet the hypotheses, and each promise that would go further is refuted by two of them.
use Prim.Native.Nat.{ℕ, zero, suc, ◌+◌, ◌*◌}
use native.Mathlib.Omega.{arith}
use mathlib.Core.Path.{◌≡◌, refl, sym, ◌∙◌, ap}
use mathlib.Core.List.{List}
use mathlib.Core.Logic.{◌⊎◌, inl, inr}
use mathlib.Core.Bool.{false}
use lib.ListN.{length, get_or}
use Rattle.tlb.specs.Slot.{slot_at, asid_of, global_of}
use Rattle.cp0.specs.Registers as cp0
use Rattle.isolation.specs.Reach.{SameReached}
use Rattle.isolation.specs.Neighbour.{Neighbour, Neighbours}
use Rattle.isolation.specs.Isolation.{World, run, Alike}
use Rattle.isolation.specs.Example.{user_cp0}
use Rattle.isolation.specs.Shared.{slots, sharing, Ends, Shared, But, Promised, Others, NotGlobal, Limits}
use Rattle.isolation.proofs.Isolation.{begins, isolation}
use Rattle.isolation.proofs.Computed.{computed}

-- ---- the slots

module _ (hi₁ lo₁ hi₂ lo₂ hi₃ lo₃ : ℕ) where
  -- every number after slot 2 is the same
  beyond : (j : ℕ) → get_or (slots hi₁ lo₁ hi₂ lo₂) (12 + j) 0 ≡ get_or (slots hi₁ lo₁ hi₃ lo₃) (12 + j) 0
  unfolding slots
  beyond j = let e : 12 + j ≡ suc (suc (suc (suc (suc (suc (suc (suc (suc (suc (suc (suc j))))))))))) = omega arith in rw e refl

  later : (i k : ℕ) → get_or (slots hi₁ lo₁ hi₂ lo₂) (suc (suc (suc i)) * 4 + k) 0 ≡ get_or (slots hi₁ lo₁ hi₃ lo₃) (suc (suc (suc i)) * 4 + k) 0
  later i k = let e : suc (suc (suc i)) * 4 + k ≡ 12 + (i * 4 + k) = omega arith in rw e (beyond (i * 4 + k))

  later_first : (i : ℕ) → get_or (slots hi₁ lo₁ hi₂ lo₂) (suc (suc (suc i)) * 4) 0 ≡ get_or (slots hi₁ lo₁ hi₃ lo₃) (suc (suc (suc i)) * 4) 0
  later_first i = let e : suc (suc (suc i)) * 4 ≡ 12 + i * 4 = omega arith in rw e (beyond (i * 4))

  -- all but slot 2 are equal
  but_one : (may : ℕ → Type 0) → may 2 → (i : ℕ) → (slot_at (slots hi₁ lo₁ hi₂ lo₂) i ≡ slot_at (slots hi₁ lo₁ hi₃ lo₃) i) ⊎ may i
  unfolding slot_at slots
  but_one may m zero = inl refl
  but_one may m (suc zero) = inl refl
  but_one may m (suc (suc zero)) = inr m
  but_one may m (suc (suc (suc i))) = inl (λ t. record { mask = later_first i t; hi = later i 1 t; lo0 = later i 2 t; lo1 = later i 3 t })

-- so the worlds are, in all but that slot
but : (may : List ℕ → List ℕ → ℕ → ℕ → Type 0) (hi₁ lo₁ hi₂ lo₂ hi₃ lo₃ : ℕ) → may (slots hi₁ lo₁ hi₂ lo₂) (slots hi₁ lo₁ hi₃ lo₃) 1 2
    → But may (sharing hi₁ lo₁ hi₂ lo₂) (sharing hi₁ lo₁ hi₃ lo₃)
unfolding sharing user_cp0 cp0.set cp0.fresh
but may hi₁ lo₁ hi₂ lo₂ hi₃ lo₃ m =
    record {
      cpu = refl;
      cp0 = refl;
      regs = refl;
      slots = λ i h. but_one hi₁ lo₁ hi₂ lo₂ hi₃ lo₃ (may (slots hi₁ lo₁ hi₂ lo₂) (slots hi₁ lo₁ hi₃ lo₃) 1) m i;
      lines = refl;
      ram = refl;
      rom = refl;
    }

-- ---- the pairs

same_bytes : {tlb : List ℕ} {a base : ℕ} {l₁ l₂ : List ℕ} → l₁ ≡ l₂ → SameReached tlb a base l₁ l₂
same_bytes e = record { long = ap length e; same = λ k r. ap (λ (l : List ℕ). get_or l k 0) e }

alike : {w₁ w₂ : World} → But Neighbours w₁ w₂ → Alike w₁ w₂
alike B =
    record {
      cpu = B.cpu;
      cp0 = B.cp0;
      regs = B.regs;
      slots = record { same = B.slots };
      lines = B.lines;
      ram = same_bytes B.ram;
      rom = same_bytes B.rom;
    }

-- slot 2 with an EntryHi of ASID 2 that is not global is a neighbour's
theirs : (hi₁ lo₁ hi₂ lo₂ : ℕ) → global_of hi₂ ≡ false → asid_of hi₂ ≡ 2 → Neighbour (slots hi₁ lo₁ hi₂ lo₂) 1 2
unfolding slots slot_at
theirs hi₁ lo₁ hi₂ lo₂ g a = record { not_global = g; other = λ e. cc }

pub shared : Shared
shared =
    record {
      no_page = alike (but Neighbours 0 0 0x2002 0x46 0x2002 0 (theirs 0 0 0x2002 0x46 refl refl, theirs 0 0 0x2002 0 refl refl));
      own_page = alike (but Neighbours 0x2001 2 0x2002 0x46 0x6002 0 (theirs 0x2001 2 0x2002 0x46 refl refl, theirs 0x2001 2 0x6002 0 refl refl));
    }

-- ---- how far it goes

r8 : {w : World} {stop steps pc code address r : ℕ} → Ends w stop steps pc code address r → get_or (run w 1).machine.regs 8 0 ≡ r
r8 E = ap (λ (l : List ℕ). get_or l 5 0) E.ends

-- a promise that two such worlds are under makes their r8 equal
told : {w₁ w₂ : World} {stop₁ steps₁ pc₁ code₁ address₁ r₁ stop₂ steps₂ pc₂ code₂ address₂ r₂ : ℕ} {may : List ℕ → List ℕ → ℕ → ℕ → Type 0}
    → Ends w₁ stop₁ steps₁ pc₁ code₁ address₁ r₁ → Ends w₂ stop₂ steps₂ pc₂ code₂ address₂ r₂ → But may w₁ w₂ → Promised may → r₁ ≡ r₂
told {w₁} {w₂} E₁ E₂ B P = sym (r8 E₁) ∙ ap (λ (l : List ℕ). get_or l 8 0) (P w₁ w₂ E₁.world E₂.world B 1 (begins w₁ E₁.world)) ∙ r8 E₂

others : Others (slots 0 0 0x3002 0x46) (slots 0 0 0x3002 0) 1 2
unfolding slots slot_at
others = ((λ e. omega arith), (λ e. omega arith))

not_global : NotGlobal (slots 0 0 0x2001 0x46) (slots 0 0 0x2001 0) 1 2
unfolding slots slot_at
not_global = (refl, refl)

pub limits : Limits
limits =
    record {
      neighbours = λ w₁ w₂ W₁ W₂ B n U. (isolation w₁ w₂ W₁ W₂ (alike B) n U).regs;
      refuted_global = λ P. let e = told computed.global_valid computed.global_invalid (but Others 0 0 0x3002 0x46 0x3002 0 others) P in omega arith;
      refuted_own = λ P. let e = told computed.own_valid computed.own_invalid (but NotGlobal 0 0 0x2001 0x46 0x2001 0 not_global) P in omega arith;
      refuted_first_alone = λ P. let e = told computed.theirs_valid computed.own_valid (but _ 0 0 0x2002 0x46 0x2001 0x46 (theirs 0 0 0x2002 0x46 refl refl)) P in omega arith;
      refuted_second_alone = λ P. let e = told computed.own_valid computed.theirs_valid (but _ 0 0 0x2001 0x46 0x2002 0x46 (theirs 0 0 0x2002 0x46 refl refl)) P in omega arith;
    }
