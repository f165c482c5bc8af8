-- Where a User address leads is reached, and so are the other bytes of the same eight.
use Prim.Native.Nat.{ℕ, ◌*◌, ◌/◌, ◌%◌, ◌+◌}
use native.Mathlib.Omega.{arith}
use mathlib.Core.Path.{◌≡◌, sym, ◌∙◌, ap}
use mathlib.Core.List.{List}
use mathlib.Core.Bool.{true}
use Rattle.memory.specs.declared.PAddr.{PAddr}
use Rattle.tlb.specs.declared.VAddr.{VAddr}
use Rattle.tlb.specs.declared.Half.{Half}
use Rattle.tlb.specs.declared.Mode.{Mode}
use Rattle.tlb.specs.declared.Mode.TheVariants.{User}
use Rattle.tlb.specs.declared.Where.{Where}
use Rattle.tlb.specs.declared.Where.TheVariants.{Mapped, Unmapped}
use Rattle.tlb.specs.Translate.{vaddr, paddr}
use Rattle.tlb.specs.Segments.{translate}
use Rattle.tlb.proofs.Near.{mapped_eight}
use Rattle.tlb.proofs.UserMap.{user_mapped, user_not_unmapped}
use Rattle.cp0.specs.Status.{user, mode_of}
use Rattle.cp0.proofs.Modes.{mode_user}
use Rattle.isolation.specs.Reach.{Reached, ReachedDirty}

-- ---- the eight bytes

pub reached_near : {tlb : List ℕ} {asid p : ℕ} (q : ℕ) → q / 8 ≡ p / 8 → Reached tlb asid p → Reached tlb asid q
reached_near {tlb} {asid} {p} q same r =
    record {
      from = r.from / 8 * 8 + q % 8;
      half = r.half;
      below = let b = r.below in omega arith;
      leads = mapped_eight tlb asid (vaddr r.from) (paddr p) (paddr q) r.half r.leads same;
    }

pub dirty_near : {tlb : List ℕ} {asid p : ℕ} (q : ℕ) → q / 8 ≡ p / 8 → ReachedDirty tlb asid p → ReachedDirty tlb asid q
unfolding reached_near
dirty_near q same d = record { reached = reached_near q same d.reached; dirty = d.dirty }

-- ---- User mode

module _ (status asid : ℕ) (tlb : List ℕ) (align : ℕ) (v : VAddr) (u : user status ≡ true) where
  in_user_lem : (x : Where) → translate (mode_of status) asid tlb align v ≡ x → translate User asid tlb align v ≡ x
  in_user_lem x e = ap (λ (m : Mode). translate m asid tlb align v) (sym (mode_user status u)) ∙ e

  -- what an address leads to is reached
  pub reaches : (p : PAddr) (h : Half) → translate (mode_of status) asid tlb align v ≡ Mapped p h → Reached tlb asid p.0
  reaches p h e =
      let m = user_mapped asid tlb align v p h (in_user_lem (Mapped p h) e) in
      record { from = v.0; half = h; below = m.0; leads = m.1 }

  pub reaches_dirty : (p : PAddr) (h : Half) → translate (mode_of status) asid tlb align v ≡ Mapped p h → h.dirty ≡ true → ReachedDirty tlb asid p.0
  unfolding reaches
  reaches_dirty p h e d = record { reached = reaches p h e; dirty = d }

  -- and nothing that it leads to is unmapped
  pub unmapped_not : {A : Type 0} (p : PAddr) → translate (mode_of status) asid tlb align v ≡ Unmapped p → A
  unmapped_not p e = absurd (user_not_unmapped asid tlb align v p (in_user_lem (Unmapped p) e))
