-- One slot more of those that are looked through, and four more.
use Prim.Native.Nat.{ℕ, zero, suc, ◌+◌, ◌*◌}
use mathlib.Core.Path.{◌≡◌}
use mathlib.Core.List.{List}
use native.Mathlib.Omega.{arith}
use Rattle.tlb.specs.declared.Found.{Found}
use Rattle.tlb.specs.declared.Found.TheVariants.{Absent}
use Rattle.tlb.specs.declared.VAddr.{VAddr}
use Rattle.tlb.specs.Match.{more, matches_at, seek}

-- slots are looked at one stretch after the other
pub seek_on : (a b i : ℕ) (tlb : List ℕ) (asid : ℕ) (v : VAddr) (f : Found) → seek b (i + a) tlb asid v (seek a i tlb asid v f) ≡ seek (a + b) i tlb asid v f
unfolding seek
seek_on zero b i tlb asid v f = grind arith
seek_on (suc a) b i tlb asid v f =
    let e : i + suc a ≡ i + 1 + a = omega arith in
    let k : suc a + b ≡ suc (a + b) = omega arith in
    rw (e, k) (seek_on a b (i + 1) tlb asid v (more (matches_at tlb asid v i) i f))

-- four slots more than those of the turns so far
pub four_more : (turn : ℕ) (tlb : List ℕ) (asid : ℕ) (v : VAddr) → seek 4 (turn * 4) tlb asid v (seek (turn * 4) 0 tlb asid v Absent) ≡ seek ((turn + 1) * 4) 0 tlb asid v Absent
four_more turn tlb asid v = grind (arith, seek_on (turn * 4) 4 0 tlb asid v Absent)
