-- Double comes from the search alone, only where it found many, and the search is made only of addresses of a mapped segment.
use Prim.Native.Nat.{ℕ}
use native.Mathlib.Omega.{arith}
use mathlib.Core.Path.{◌≡◌, ap}
use mathlib.Core.Bool.{true}
use mathlib.Core.List.{List}
use Rattle.word.specs.Extend as Extend
use Rattle.std.specs.Prelude.{Err}
use Rattle.tlb.specs.declared.VAddr.{VAddr}
use Rattle.tlb.specs.declared.Mode.{Mode}
use Rattle.tlb.specs.declared.Found.{Found}
use Rattle.tlb.specs.declared.Found.TheVariants.{Many}
use Rattle.tlb.specs.declared.Where.TheVariants.{Double}
use Rattle.tlb.specs.Slot.{asid_of}
use Rattle.tlb.specs.Match.{lookup}
use Rattle.tlb.specs.Translate.{vaddr, through, through_slot, through_found, mapped}
use Rattle.tlb.specs.Segments.{word, aligned, extended, upper, segment, translate}
use Rattle.tlb.specs.Probe.{probe}
use Rattle.tlb.specs.Probe as probing
use Rattle.tlb.proofs.Tells.{many_two, two_many}
use Rattle.card.specs.declared.Machine.{Machine}
use Rattle.demands.specs.StepStops.{goes}
use Rattle.demands.specs.Twice.{TwoSlots, SignExtended, MappedWord, LookedUp, TwiceMeans}

-- the test of sign extension, in numbers
extended_looked : (v : VAddr) → extended v ≡ true → SignExtended v
unfolding extended Extend.extend
extended_looked v e = grind arith

looked_extended : (v : VAddr) → SignExtended v → extended v ≡ true
unfolding extended Extend.extend
looked_extended v e = grind arith

module _ (tlb : List ℕ) (asid : ℕ) (v : VAddr) where
  found_many : (f : Found) → through_found tlb v f ≡ Double → f ≡ Many
  unfolding through_found through_slot through
  found_many f e = grind arith

  mapped_many : mapped tlb asid v ≡ Double → lookup tlb asid v ≡ Many
  unfolding mapped
  mapped_many e = found_many (lookup tlb asid v) e

  many_mapped : lookup tlb asid v ≡ Many → mapped tlb asid v ≡ Double
  unfolding mapped through_found
  many_mapped e = rw e

  -- ---- from Double to the address's place

  segment_looked : (mode : Mode) → segment mode asid tlb v ≡ Double → MappedWord mode (word v) × (mapped tlb asid v ≡ Double)
  unfolding segment upper
  segment_looked mode e = grind arith

  -- ---- and back

  looked_segment : (mode : Mode) → MappedWord mode (word v) → segment mode asid tlb v ≡ mapped tlb asid v
  unfolding segment upper
  looked_segment mode h = grind arith

-- TLBP
probed_many : (f : Found) → probing.probed f ≡ Err (record {}) → f ≡ Many
unfolding probing.probed
probed_many f e = grind arith

module _ (m : Machine) where
  -- the machine's ASID
  abbrev asid : ℕ
  asid = asid_of m.cp0.entryhi

  -- an address leads to Double just where it is looked up and the search is Double
  double_looked : (align : ℕ) (v : VAddr) → goes m align v ≡ Double → LookedUp m align v × (mapped m.tlb asid v ≡ Double)
  unfolding translate aligned
  double_looked align v e = grind (arith, extended_looked, segment_looked)

  looked_double : (align : ℕ) (v : VAddr) → LookedUp m align v → mapped m.tlb asid v ≡ Double → goes m align v ≡ Double
  unfolding translate aligned
  looked_double align v l t = grind (arith, looked_extended, looked_segment)

  address_two : (align : ℕ) (v : VAddr) → goes m align v ≡ Double → LookedUp m align v × TwoSlots m v
  address_two align v e =
      let d = double_looked align v e in
      (d.0, many_two m.tlb asid v (mapped_many m.tlb asid v d.1))

  two_address : (align : ℕ) (v : VAddr) → LookedUp m align v → TwoSlots m v → goes m align v ≡ Double
  two_address align v l t = looked_double align v l (many_mapped m.tlb asid v (two_many m.tlb asid v t))

  probe_two : probe m.tlb m.cp0.entryhi ≡ Err (record {}) → TwoSlots m (vaddr m.cp0.entryhi)
  unfolding probe
  probe_two e = many_two m.tlb asid _ (probed_many _ e)

  two_probe : TwoSlots m (vaddr m.cp0.entryhi) → probe m.tlb m.cp0.entryhi ≡ Err (record {})
  unfolding probe probing.probed
  two_probe t = ap probing.probed (two_many m.tlb asid _ t)

  pub twice_means : TwiceMeans m
  twice_means = record { address = λ align v. (address_two align v, λ x. two_address align v x.0 x.1); tlbp = (probe_two, two_probe) }
