-- Where a User address leads by a plan: into the page of RAM that is its own page's.
use Prim.Native.Nat.{ℕ, ◌+◌, ◌*◌, ◌/◌, ◌%◌, ◌^◌, ◌<◌, ◌≤◌}
use native.Mathlib.Omega.{arith}
use mathlib.Core.Path.{◌≡◌, refl, sym, ap, ◌∙◌, subst}
use mathlib.Core.Bool.{Bool, true, false}
use mathlib.Core.List.{List}
use mathlib.Core.Logic.{inl, inr}
use lib.Dec.{eqb, ltb}
use lib.ListN.{get_or}
use borrow.Author.Tests.{eq-eqb, eqb-true, eqb-false, ltb-true, ltb-false}
use Rattle.promise.specs.Pick.{pick}
use Rattle.memory.specs.declared.PAddr.{PAddr}
use Rattle.tlb.specs.declared.Half.{Half}
use Rattle.tlb.specs.declared.Found.{Found}
use Rattle.tlb.specs.declared.Found.TheVariants.{Absent, One, Many}
use Rattle.tlb.specs.declared.Where.TheVariants.{Mapped, Invalid, Refill, Double}
use Rattle.tlb.specs.Slot.{slot_at, valid_of, dirty_of}
use Rattle.tlb.specs.Match.{Only, matches_at, hits, lookup}
use Rattle.tlb.specs.Translate.{vaddr, paddr, odd_of, half_of, lo_of, physical, through, through_slot, through_found, mapped}
use Rattle.tlb.proofs.Tells.{one_only}
use Rattle.std.specs.Prelude.{Some, None}
use Rattle.place.specs.Plan as P
use Rattle.mills.proofs.Pages4K.{hits_only, fresh_hits, odd_is, physical_is}
use Rattle.mills.proofs.Planned as planned
use Rattle.mills.proofs.Planned.{Planned, hi, lo}

-- the half of slot i that an address picks
abbrev pub picked : List ℕ → ℕ → ℕ → ℕ
picked tlb i v = lo_of (slot_at tlb i) (odd_of (slot_at tlb i).mask v)

-- the slot by which an address leads to p, through this half
pub record By (tlb : List ℕ) (asid v p : ℕ) (half : Half) : Type 0 where
  pub slot : ℕ
  pub only : Only (matches_at tlb asid (vaddr v)) 48 slot
  pub valid : valid_of (picked tlb slot v) ≡ true
  pub lands : physical (slot_at tlb slot).mask (picked tlb slot v) v ≡ p
  pub dirty : dirty_of (picked tlb slot v) ≡ half.dirty

pub by : (tlb : List ℕ) (asid v p : ℕ) (half : Half) → mapped tlb asid (vaddr v) ≡ Mapped (paddr p) half → By tlb asid v p half
unfolding mapped through_found through_slot through
by tlb asid v p half leads = go (lookup tlb asid (vaddr v)) refl
  where
    at : ℕ → Half
    at i = half_of i (odd_of (slot_at tlb i).mask v) (picked tlb i v)

    through_slot_lem : (i : ℕ) → lookup tlb asid (vaddr v) ≡ One i → (b : Bool) → valid_of (picked tlb i v) ≡ b → By tlb asid v p half
    through_slot_lem i e true t =
        let d : Mapped (paddr (physical (slot_at tlb i).mask (picked tlb i v) v)) (half_of i (odd_of (slot_at tlb i).mask v) (picked tlb i v)) ≡ Mapped (paddr p) half = rw (e, t) at leads in
        let q : paddr (physical (slot_at tlb i).mask (picked tlb i v) v) ≡ paddr p = cc in
        let h : half_of i (odd_of (slot_at tlb i).mask v) (picked tlb i v) ≡ half = cc in
        record { slot = i; only = one_only tlb asid (vaddr v) i e; valid = t; lands = ap (λ (x : PAddr). x.0) q; dirty = ap (λ (x : Half). x.dirty) h }
    through_slot_lem i e false t =
        let d : Invalid (half_of i (odd_of (slot_at tlb i).mask v) (picked tlb i v)) ≡ Mapped (paddr p) half = rw (e, t) at leads in
        let z : ◌≡◌ {A = ℕ} 0 1 = cc in absurd (omega arith)

    go : (f : Found) → lookup tlb asid (vaddr v) ≡ f → By tlb asid v p half
    go Absent e = let d : Refill ≡ Mapped (paddr p) half = rw e at leads in let z : ◌≡◌ {A = ℕ} 0 1 = cc in absurd (omega arith)
    go (One i) e = through_slot_lem i e (valid_of (picked tlb i v)) refl
    go Many e = let d : Double ≡ Mapped (paddr p) half = rw e at leads in let z : ◌≡◌ {A = ℕ} 0 1 = cc in absurd (omega arith)

-- EntryLo of a page of RAM: its frame, D and V
pub lo_frame : (g : ℕ) (w : Bool) → g < 16 → P.lo_of g w / 64 % 2 ^ 24 ≡ g
unfolding P.lo_of
lo_frame g true h = omega arith
lo_frame g false h = omega arith

pub lo_dirty : (g : ℕ) (w : Bool) → dirty_of (P.lo_of g w) ≡ w
unfolding P.lo_of
lo_dirty g true = eq-eqb ((g * 64 + 6) / 2 ^ 2 % 2) 1 (omega arith)
lo_dirty g false = let z : (g * 64 + 2) / 2 ^ 2 % 2 ≡ 0 = omega arith in rw z refl

pub lo_valid : (g : ℕ) (w : Bool) → valid_of (P.lo_of g w) ≡ true
unfolding P.lo_of
lo_valid g true = eq-eqb ((g * 64 + 6) / 2 ^ 1 % 2) 1 (omega arith)
lo_valid g false = eq-eqb ((g * 64 + 2) / 2 ^ 1 % 2) 1 (omega arith)

-- one of the two halves
half_at : (tlb : List ℕ) (i h : ℕ) → h < 2 → lo_of (slot_at tlb i) h ≡ get_or tlb (i * 4 + 2 + h) 0
unfolding lo_of slot_at
half_at tlb i h g = go (eqb h 1) refl
  where
    go : (b : Bool) → eqb h 1 ≡ b → pick b (get_or tlb (i * 4 + 3) 0) (get_or tlb (i * 4 + 2) 0) ≡ get_or tlb (i * 4 + 2 + h) 0
    go true e = let z : h ≡ 1 = eqb-true _ _ e in ap (λ (n : ℕ). get_or tlb n 0) (omega arith)
    go false e = let z : h ≡ 1 → ⊥ = eqb-false _ _ e in ap (λ (n : ℕ). get_or tlb n 0) (omega arith)

module _ {may : ℕ → ℕ → Bool → Type 0} {k : ℕ} (p : P.Plan) (L : Planned may k p) where
  -- the mask, and the half that an address picks
  mask_0 : (i : ℕ) → i < 48 → (slot_at p.tlb i).mask ≡ 0
  unfolding slot_at
  mask_0 i h = L.masks i h

  pub picks : (i v : ℕ) → i < 48 → picked p.tlb i v ≡ lo p i (v / 4096 % 2)
  picks i v h = ap (λ (m : ℕ). lo_of (slot_at p.tlb i) (odd_of m v)) (mask_0 i h) ∙ ap (λ (n : ℕ). lo_of (slot_at p.tlb i) n) (odd_is v) ∙ half_at p.tlb i (v / 4096 % 2) (omega arith)

  pub matches_as : (i a v : ℕ) → i < 48 → matches_at p.tlb a (vaddr v) i ≡ hits 19 0 (hi p i) a v
  unfolding matches_at slot_at
  matches_as i a v h = ap (λ (m : ℕ). hits 19 m (hi p i) a v) (L.masks i h)

  -- a slot that matches is one that is used, of this ASID and the address's pair
  pub record Matching (i a v : ℕ) : Type 0 where
    pub used : i < p.used
    pub is : hi p i ≡ v / 8192 * 8192 + a
    pub small : a < 256

  pub matching : (i a v : ℕ) → i < 48 → v < 2 ^ 31 → matches_at p.tlb a (vaddr v) i ≡ true → Matching i a v
  matching i a v h below e = go (ltb i p.used) refl
    where
      m : hits 19 0 (hi p i) a v ≡ true
      m = sym (matches_as i a v h) ∙ e

      go : (b : Bool) → ltb i p.used ≡ b → Matching i a v
      go true t =
          let u : i < p.used = ltb-true _ _ t in
          let y = L.keyed i u in
          let o = hits_only y.pair y.asid a v y.pair_small y.asid_small below (subst (λ (x : ℕ). hits 19 0 x a v ≡ true) y.is m) in
          record { used = u; is = y.is ∙ rw (o.0, o.1) refl; small = subst (λ (x : ℕ). x < 256) o.1 y.asid_small }
      go false t =
          let u : p.used ≤ i = ltb-false _ _ t in
          absurd (fresh_hits i a v h below (subst (λ (x : ℕ). hits 19 0 x a v ≡ true) (L.fresh_hi i u h) m))

  -- where an address leads: to the page of RAM that is its page's, after the first k, and writable as it may be
  pub record Way (a v q : ℕ) (dirty : Bool) : Type 0 where
    pub frame : ℕ
    pub is : q ≡ frame * 4096 + v % 4096
    pub from : k ≤ frame
    pub small : frame < 16
    pub owned : get_or p.pages frame None ≡ Some (P.owner a (v / 4096))
    pub allowed : may a (v / 4096) dirty

  pub way : (a v q : ℕ) (half : Half) → v < 2 ^ 31 → mapped p.tlb a (vaddr v) ≡ Mapped (paddr q) half → Way a v q half.dirty
  way a v q half below leads = go (L.halves s (v / 4096 % 2) M.used (omega arith))
    where
      B : By p.tlb a v q half
      B = by p.tlb a v q half leads

      s : ℕ
      s = B.slot

      M : Matching s a v
      M = matching s a v B.only.below below B.only.matches_it

      y : picked p.tlb s v ≡ lo p s (v / 4096 % 2)
      y = picks s v B.only.below

      lands : physical 0 (lo p s (v / 4096 % 2)) v ≡ q
      lands = sym (ap (λ (m : ℕ). physical m (picked p.tlb s v) v) (mask_0 s B.only.below) ∙ ap (λ (n : ℕ). physical 0 n v) y) ∙ B.lands

      valid : valid_of (lo p s (v / 4096 % 2)) ≡ true
      valid = sym (ap (λ (n : ℕ). valid_of n) y) ∙ B.valid

      dirty : dirty_of (lo p s (v / 4096 % 2)) ≡ half.dirty
      dirty = sym (ap (λ (n : ℕ). dirty_of n) y) ∙ B.dirty

      go : planned.Half may k p.next p.pages (hi p s) (lo p s (v / 4096 % 2)) (v / 4096 % 2) → Way a v q half.dirty
      go (inl e) = let z : valid_of 0 ≡ true = subst (λ (n : ℕ). valid_of n ≡ true) e valid in let c : ◌≡◌ {A = ℕ} 0 1 = cc in absurd (omega arith)
      go (inr h) =
          let n : hi p s / 8192 * 2 + v / 4096 % 2 ≡ v / 4096 = let z = M.is in let t = M.small in omega arith in
          let b : hi p s % 8192 ≡ a = let z = M.is in let t = M.small in omega arith in
          record {
            frame = h.frame;
            is = sym lands ∙ physical_is (lo p s (v / 4096 % 2)) v ∙ ap (λ (x : ℕ). x * 4096 + v % 4096) (ap (λ (n : ℕ). n / 64 % 2 ^ 24) h.is ∙ lo_frame h.frame h.writable h.small);
            from = h.from;
            small = h.small;
            owned = h.owned ∙ rw (n, b) refl;
            allowed =
                subst (λ (x : Bool). may a (v / 4096) x) (sym (ap (λ (n : ℕ). dirty_of n) h.is ∙ lo_dirty h.frame h.writable) ∙ dirty)
                (subst (λ (x : ℕ). may x (v / 4096) h.writable) b (subst (λ (x : ℕ). may (hi p s % 8192) x h.writable) n h.allowed));
          }

  -- an address of a page that is there leads somewhere, and so that it may be written if it may
  pub record Somewhere (a v : ℕ) (w : Bool) : Type 0 where
    pub place : ℕ
    pub half : Half
    pub leads : mapped p.tlb a (vaddr v) ≡ Mapped (paddr place) half
    pub dirty : w ≡ true → half.dirty ≡ true
