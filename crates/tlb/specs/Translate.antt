-- Where a mapped address leads: through the half of the one slot that matches it.
use Rattle.std.specs.Prelude.{ℕ, ◌+◌, ◌*◌, ◌/◌, ◌%◌, ◌^◌, List, eqb}
use Rattle.promise.specs.Bits.{bit}
use Rattle.promise.specs.Pick.{pick}
use Rattle.memory.specs.declared.PAddr.{PAddr}
use Rattle.tlb.specs.declared.VAddr.{VAddr}
use Rattle.tlb.specs.declared.Slot.{Slot}
use Rattle.tlb.specs.declared.Half.{Half}
use Rattle.tlb.specs.declared.Found.{Found}
use Rattle.tlb.specs.declared.Found.TheVariants.{Absent, One, Many}
use Rattle.tlb.specs.declared.Where.{Where}
use Rattle.tlb.specs.declared.Where.TheVariants.{Mapped, Invalid, Refill, Double}
use Rattle.tlb.specs.PageMask.{trailing_ones, run, page_bits, page_bytes}
use Rattle.tlb.specs.Slot.{slot_at, frame, cache_of, dirty_of, valid_of}
use Rattle.tlb.specs.Match.{lookup}

-- the virtual address of a number (D1)
abbrev pub vaddr : ℕ → VAddr
vaddr v = record { 0 = v }

-- the physical address of a number (D1)
abbrev pub paddr : ℕ → PAddr
paddr p = record { 0 = p }

-- the half of a slot that an address picks, 0 or 1: its bit 12 + 2k (T2)
abbrev pub odd_of : ℕ → ℕ → ℕ
odd_of mask v = bit v (page_bits mask)

-- that half's EntryLo (T2)
unfoldable pub lo_of : Slot → ℕ → ℕ
lo_of s odd = pick (eqb odd 1) s.lo1 s.lo0

-- the half by number, C and D (T3)
abbrev pub half_of : ℕ → ℕ → ℕ → Half
half_of i odd lo = record { slot = i; odd = odd; cache = cache_of lo; dirty = dirty_of lo }

-- the frame without its low 2k bits, in pages of 4096 × 4^k bytes, and the offset in such a page (T2, T3)
unfoldable pub physical : ℕ → ℕ → ℕ → ℕ
physical mask lo v = frame lo / 2 ^ trailing_ones (run mask) * page_bytes mask + v % page_bytes mask

-- through a half that is valid an address leads on, else the half is invalid (T3)
unfoldable pub through : ℕ → ℕ → ℕ → ℕ → ℕ → Where
through mask i odd lo v = pick (valid_of lo) (Mapped (paddr (physical mask lo v)) (half_of i odd lo)) (Invalid (half_of i odd lo))

-- through slot i
unfoldable pub through_slot : Slot → ℕ → VAddr → Where
through_slot s i v = through s.mask i (odd_of s.mask v.0) (lo_of s (odd_of s.mask v.0)) v.0

-- by what was found: none is a refill, two are stop 16 (N10, S5, S7)
unfoldable pub through_found : List ℕ → VAddr → Found → Where
through_found tlb v Absent = Refill
through_found tlb v (One i) = through_slot (slot_at tlb i) i v
through_found tlb v Many = Double

-- where a mapped address leads
unfoldable pub mapped : List ℕ → ℕ → VAddr → Where
mapped tlb asid v = through_found tlb v (lookup tlb asid v)
