-- What a load is given of eight bytes in memory: for card 7 the byte at p, for card 8 the first four.
use Prim.Native.Nat.{ℕ, ◌+◌, ◌-◌, ◌*◌, ◌/◌, ◌%◌, ◌^◌}
use mathlib.Core.Path.{◌≡◌, ap, ◌∙◌}
use mathlib.Core.List.{List, ◌∷◌}
use native.Mathlib.Omega.{arith}
use lib.ListN.{get_or}
use Rattle.memory.specs.declared.PAddr.{PAddr}
use Rattle.memory.specs.Bytes.{byte, eight_of}
use Rattle.memory.specs.StoreLaws.{Bytes}
use Rattle.memory.specs.Loads.{span, field}
use Rattle.memory.proofs.LoadLaws.{byte_eight}
use Rattle.tlb.specs.Translate.{paddr}

pub byte_at : (eight : List ℕ) (p : PAddr) → Bytes eight → field 1 (eight_of eight) p ≡ get_or eight (p.0 % 8) 0
unfolding span byte
byte_at eight p b =
    let e : 8 - (p.0 % 8 / 1 * 1 + 1) ≡ 7 - p.0 % 8 = omega arith in
    let d : 7 - (7 - p.0 % 8) ≡ p.0 % 8 = omega arith in
    ap (λ (k : ℕ). eight_of eight / 2 ^ (8 * k) % 2 ^ 8) e
    ∙ byte_eight eight (7 - p.0 % 8) (λ i h. b i) (omega arith)
    ∙ ap (λ (k : ℕ). get_or eight k 0) d

pub first_four : (others : List ℕ) → Bytes others → field 4 (eight_of (0x11 ∷ 0x22 ∷ 0x33 ∷ 0x44 ∷ others)) (paddr 1) ≡ 0x11223344
unfolding span eight_of
first_four others b = omega (arith, b 0, b 1, b 2, b 3)
