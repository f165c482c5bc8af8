-- What User mode reaches: only addresses below 2^31, and each of them through the TLB.
use Prim.Native.Nat.{ℕ, ◌^◌, ◌<◌}
use mathlib.Core.Path.{◌≡◌}
use mathlib.Core.Bool.{true}
use mathlib.Core.List.{List}
use native.Mathlib.Omega.{arith}
use lib.Dec.{ltb}
use Rattle.memory.specs.declared.PAddr.{PAddr}
use Rattle.word.specs.Extend as Extend
use Rattle.tlb.specs.declared.VAddr.{VAddr}
use Rattle.tlb.specs.declared.Half.{Half}
use Rattle.tlb.specs.declared.Mode.TheVariants.{User}
use Rattle.tlb.specs.declared.Where.{Where}
use Rattle.tlb.specs.declared.Where.TheVariants.{Mapped, Unmapped, AddressError}
use Rattle.tlb.specs.Translate.{through, through_slot, through_found, mapped}
use Rattle.tlb.specs.Segments.{aligned, word, extended, segment, translate}
use Rattle.tlb.proofs.Extended.{extended_low}

-- an address that is the sign extension of a word below 2^31 is that word
low_is : (v : VAddr) → extended v ≡ true → ltb (word v) 0x80000000 ≡ true → v.0 < 2 ^ 31
unfolding extended Extend.extend
low_is v e l = grind arith

-- a mapped address never leads on unmapped
pub mapped_not_unmapped : (tlb : List ℕ) (asid : ℕ) (v : VAddr) (p : PAddr) → mapped tlb asid v ≡ Unmapped p → ⊥
unfolding mapped through_found through_slot through
mapped_not_unmapped tlb asid v p e = grind arith

module _ (asid : ℕ) (tlb : List ℕ) (align : ℕ) (v : VAddr) where
  -- in User mode an address error is all there is, but for the mapped addresses below 2^31
  pub user_cases : (x : Where) → translate User asid tlb align v ≡ x → (x ≡ AddressError → ⊥) → (v.0 < 2 ^ 31) × (mapped tlb asid v ≡ x)
  unfolding translate segment
  user_cases x e n = grind (arith, low_is v)

  pub user_mapped : (p : PAddr) (h : Half) → translate User asid tlb align v ≡ Mapped p h → (v.0 < 2 ^ 31) × (mapped tlb asid v ≡ Mapped p h)
  user_mapped p h e = user_cases (Mapped p h) e (λ d. let z : ◌≡◌ {A = ℕ} 0 1 = cc in omega arith)

  -- User mode reaches nothing unmapped
  pub user_not_unmapped : (p : PAddr) → translate User asid tlb align v ≡ Unmapped p → ⊥
  user_not_unmapped p e = mapped_not_unmapped tlb asid v p (user_cases (Unmapped p) e (λ d. let z : ◌≡◌ {A = ℕ} 0 1 = cc in omega arith)).1

  -- and each aligned address below 2^31 goes where the TLB leads it
  pub mapped_user : aligned align v ≡ true → v.0 < 2 ^ 31 → translate User asid tlb align v ≡ mapped tlb asid v
  unfolding translate segment
  mapped_user a h = grind (arith, extended_low v)
