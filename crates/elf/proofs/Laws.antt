-- Laws of the tests of a header.
use Prim.Native.Nat.{ℕ, ◌+◌, ◌<◌, ◌≤◌}
use mathlib.Core.Bool.{Bool, true, false}
use mathlib.Core.Path.{◌≡◌, refl}
use mathlib.Core.List.{List}
use native.Mathlib.Omega.{arith}
use borrow.Author.Tests.{ltb-true, leb-true}
use lib.Dec.{leb, ltb}
use Rattle.promise.specs.Pick.{both}
use Rattle.elf.specs.declared.Header.{Header}
use Rattle.elf.specs.declared.Space.{Space}
use Rattle.elf.specs.Header.{loads}
use Rattle.elf.specs.Home.{home, within, covers}

-- two tests that both hold
pub both_true : (a b : Bool) → both a b ≡ true → (a ≡ true) × (b ≡ true)
both_true true b e = (refl, e)
both_true false b e = (e, cc)

-- a test is not true and false
pub never : (b : Bool) → b ≡ true → b ≡ false → ⊥
never b p q = let z : ◌≡◌ {A = ℕ} 0 1 = cc in absurd (omega arith)

-- an address that a header covers is one of its home
pub covers_on : (space : Space) (file : List ℕ) (h : Header) (a : ℕ) → covers space file h a ≡ true → (home space h.vaddr ≤ a) × (a < home space h.vaddr + h.memsz)
unfolding covers within
covers_on space file h a e =
    let p = both_true (leb (home space h.vaddr) a) (ltb a (home space h.vaddr + h.memsz)) (both_true _ (loads file h) e).0 in
    (leb-true _ _ p.0, ltb-true _ _ p.1)
