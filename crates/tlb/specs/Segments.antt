-- The map of segments: which addresses are mapped, unmapped or an error, by mode.
use Rattle.std.specs.Prelude.{ℕ, ◌%◌, ◌^◌, Bool, List, ltb, eqb}
use Rattle.promise.specs.Pick.{pick, both}
use Rattle.word.specs.Word.{extend}
use Rattle.tlb.specs.declared.VAddr.{VAddr}
use Rattle.tlb.specs.declared.Mode.{Mode}
use Rattle.tlb.specs.declared.Mode.TheVariants.{User, Kernel, Error}
use Rattle.tlb.specs.declared.Where.{Where}
use Rattle.tlb.specs.declared.Where.TheVariants.{Unmapped, AddressError}
use Rattle.tlb.specs.Translate.{paddr, mapped}

-- an address is a multiple of the size of what it names
unfoldable pub aligned : ℕ → VAddr → Bool
aligned align v = eqb (v.0 % align) 0

-- the low 32 bits of an address
abbrev pub word : VAddr → ℕ
word v = v.0 % 2 ^ 32

-- an address is the sign extension of its low 32 bits (D3, house)
unfoldable pub extended : VAddr → Bool
extended v = eqb v.0 (extend v.0)

-- Kernel's upper half: 80000000..9FFFFFFF and A0000000..BFFFFFFF lie on physical 0 upward, the rest is mapped (D7)
unfoldable pub upper : ℕ → List ℕ → VAddr → Where
upper asid tlb v = pick (ltb (word v) 0xc0000000) (Unmapped (paddr (word v % 2 ^ 29))) (mapped tlb asid v)

-- the map of each mode over the low 32 bits: 0..7FFFFFFF is mapped, and while ERL = 1 lies on the same physical address; User has nothing above (D6, D7)
unfoldable pub segment : Mode → ℕ → List ℕ → VAddr → Where
segment User asid tlb v = pick (ltb (word v) 0x80000000) (mapped tlb asid v) AddressError
segment Kernel asid tlb v = pick (ltb (word v) 0x80000000) (mapped tlb asid v) (upper asid tlb v)
segment Error asid tlb v = pick (ltb (word v) 0x80000000) (Unmapped (paddr (word v))) (upper asid tlb v)

-- where an address leads: an address error first, without any lookup, where it is not aligned or not sign-extended (D3, S5, S7)
unfoldable pub translate : Mode → ℕ → List ℕ → ℕ → VAddr → Where
translate mode asid tlb align v = pick (both (aligned align v) (extended v)) (segment mode asid tlb v) AddressError
