-- Where an address leads depends on its 4 KiB page alone: mapped addresses of one page go through the same half to one physical page, unmapped ones lie side by side.
use Prim.Native.Nat.{ℕ, zero, suc, ◌+◌, ◌*◌, ◌/◌, ◌%◌, ◌^◌}
use mathlib.Core.Path.{◌≡◌, refl, sym, ap, ap₂, ◌∙◌}
use mathlib.Core.Bool.{Bool, true, false}
use mathlib.Core.List.{List}
use native.Mathlib.Nat.{add_comm}
use native.Mathlib.Omega.{arith}
use lib.Dec.{ltb}
use lib.Pow.{mod-pow-add, pow-add, shr-shr}
use Rattle.promise.specs.Pick.{pick}
use Rattle.memory.specs.declared.PAddr.{PAddr}
use Rattle.tlb.specs.declared.VAddr.{VAddr}
use Rattle.tlb.specs.declared.Half.{Half}
use Rattle.tlb.specs.declared.Found.{Found}
use Rattle.tlb.specs.declared.Found.TheVariants.{Absent, One, Many}
use Rattle.tlb.specs.declared.Mode.{Mode}
use Rattle.tlb.specs.declared.Where.{Where}
use Rattle.tlb.specs.declared.Where.TheVariants.{Mapped}
use Rattle.tlb.specs.PageMask.{trailing_ones, run, page_bits}
use Rattle.tlb.specs.Slot.{slot_at, frame}
use Rattle.tlb.specs.Match.{hits, matches_at, more, seek, lookup}
use Rattle.tlb.specs.SamePage.{SamePage, toward}
use Rattle.tlb.specs.Translate.{vaddr, physical, odd_of, lo_of, through, through_slot, through_found, mapped}
use Rattle.tlb.specs.Segments.{word, upper, segment}

module _ (v w : VAddr) (same : SamePage v w) where
  -- they have the same page number
  same_number : v.0 / 2 ^ 13 ≡ w.0 / 2 ^ 13
  same_number = omega arith

  matches_near : (tlb : List ℕ) (asid i : ℕ) → matches_at tlb asid v i ≡ matches_at tlb asid w i
  unfolding matches_at hits
  matches_near tlb asid i = rw same_number

  seek_near : (left i : ℕ) (tlb : List ℕ) (asid : ℕ) (f : Found) → seek left i tlb asid v f ≡ seek left i tlb asid w f
  unfolding seek
  seek_near zero i tlb asid f = refl
  seek_near (suc left) i tlb asid f = rw (matches_near tlb asid i) (seek_near left (i + 1) tlb asid (more (matches_at tlb asid w i) i f))

  -- the same slots are found
  pub lookup_near : (tlb : List ℕ) (asid : ℕ) → lookup tlb asid v ≡ lookup tlb asid w
  unfolding lookup
  lookup_near tlb asid = seek_near 48 0 tlb asid Absent

  -- the same half is picked
  odd_near : (mask : ℕ) → odd_of mask v.0 ≡ odd_of mask w.0
  unfolding page_bits
  odd_near mask =
      ap (λ (n : ℕ). n % 2)
      (sym (shr-shr v.0 12 (trailing_ones (run mask))) ∙ ap (λ (n : ℕ). n / 2 ^ trailing_ones (run mask)) same ∙ shr-shr w.0 12 (trailing_ones (run mask)))

-- a physical address is the address's offset in 4 KiB, above a page that the address's own page decides
above : ℕ → ℕ → ℕ → ℕ
above mask lo page = frame lo / 2 ^ trailing_ones (run mask) * 2 ^ trailing_ones (run mask) + page % 2 ^ trailing_ones (run mask)

place : (f b q o : ℕ) → f * (2 ^ 12 * b) + (q * 2 ^ 12 + o) ≡ (f * b + q) * 2 ^ 12 + o
place f b q o = omega arith

split : (mask lo v : ℕ) → physical mask lo v ≡ above mask lo (v / 2 ^ 12) * 2 ^ 12 + v % 2 ^ 12
unfolding physical page_bits above
split mask lo v =
    let t : ℕ = trailing_ones (run mask) in
    let m : v % 2 ^ (12 + t) ≡ (v / 2 ^ 12 % 2 ^ t) * 2 ^ 12 + v % 2 ^ 12 = ap (λ (n : ℕ). v % 2 ^ n) (add_comm 12 t) ∙ mod-pow-add v t 12 in
    ap₂ (λ (x y : ℕ). frame lo / 2 ^ t * x + y) (pow-add 2 12 t) m ∙ place (frame lo / 2 ^ t) (2 ^ t) (v / 2 ^ 12 % 2 ^ t) (v % 2 ^ 12)

module _ (v w : VAddr) (same : SamePage v w) where
  physical_near : (mask lo : ℕ) → physical mask lo w.0 ≡ physical mask lo v.0 / 2 ^ 12 * 2 ^ 12 + w.0 % 2 ^ 12
  physical_near mask lo = grind (arith, split mask lo v.0, split mask lo w.0)

  through_near : (mask i odd lo : ℕ) → through mask i odd lo w.0 ≡ toward w (through mask i odd lo v.0)
  unfolding through toward
  through_near mask i odd lo = grind (arith, physical_near)

  found_near : (tlb : List ℕ) (f : Found) → through_found tlb w f ≡ toward w (through_found tlb v f)
  unfolding through_found through_slot toward
  found_near tlb Absent = refl
  found_near tlb (One i) = rw (← odd_near v w same (slot_at tlb i).mask) (through_near (slot_at tlb i).mask i (odd_of (slot_at tlb i).mask v.0) (lo_of (slot_at tlb i) (odd_of (slot_at tlb i).mask v.0)))
  found_near tlb Many = refl

  -- another address of the page has the same answer, at its own offset
  pub mapped_near : (tlb : List ℕ) (asid : ℕ) → mapped tlb asid w ≡ toward w (mapped tlb asid v)
  unfolding mapped
  mapped_near tlb asid = rw (← lookup_near v w same tlb asid) (found_near tlb (lookup tlb asid v))

  -- no segment begins within a page
  limit_near : (k : ℕ) → ltb (word v) (k * 2 ^ 12) ≡ ltb (word w) (k * 2 ^ 12)
  limit_near k = grind arith

  toward_pick : (b : Bool) (x y : Where) → toward w (pick b x y) ≡ pick b (toward w x) (toward w y)
  toward_pick true x y = refl
  toward_pick false x y = refl

  upper_near : (tlb : List ℕ) (asid : ℕ) → upper asid tlb w ≡ toward w (upper asid tlb v)
  unfolding upper toward
  upper_near tlb asid = grind (arith, mapped_near tlb asid, limit_near 0xc0000)

  -- so it is in every segment, mapped or not
  pub segment_near : (mode : Mode) (tlb : List ℕ) (asid : ℕ) → segment mode asid tlb w ≡ toward w (segment mode asid tlb v)
  unfolding segment toward
  segment_near mode tlb asid = grind (arith, mapped_near tlb asid, upper_near tlb asid, limit_near 0x80000)

-- the physical address keeps the offset in 4 KiB
through_offset : (mask i odd lo v : ℕ) (p : PAddr) (h : Half) → through mask i odd lo v ≡ Mapped p h → p.0 % 2 ^ 12 ≡ v % 2 ^ 12
unfolding through
through_offset mask i odd lo v p h e = grind (arith, split mask lo v)

pub mapped_offset : (tlb : List ℕ) (asid : ℕ) (v : VAddr) (p : PAddr) (h : Half) → mapped tlb asid v ≡ Mapped p h → p.0 % 2 ^ 12 ≡ v.0 % 2 ^ 12
unfolding mapped through_found through_slot
mapped_offset tlb asid v p h e = grind (arith, through_offset)

-- so a neighbour of p in its aligned eight bytes is where the like neighbour of v leads
pub mapped_eight : (tlb : List ℕ) (asid : ℕ) (v : VAddr) (p q : PAddr) (h : Half) → mapped tlb asid v ≡ Mapped p h → q.0 / 8 ≡ p.0 / 8
    → mapped tlb asid (vaddr (v.0 / 8 * 8 + q.0 % 8)) ≡ Mapped q h
unfolding toward
mapped_eight tlb asid v p q h e near =
    grind (arith, mapped_near v (vaddr (v.0 / 8 * 8 + q.0 % 8)) (omega arith) tlb asid, mapped_offset tlb asid v p h e)
