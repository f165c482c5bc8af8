-- The bits left of the difference are those that the definition looks at, over the width 19 (`Agree`).
use Prim.Native.Nat.{ℕ, ◌%◌, ◌^◌}
use mathlib.Core.Path.{sym, ap, ap₂, ◌∙◌}
use lib.Bits.{bit_and, bit_xor, and_shr, xor_shr}
use lib.Dec.{eqb}
use Rattle.tlb.proofs.Agree.{agree_code}
use Rattle.tlb.proofs.search.same_page.Goals as goal

pub returns : goal.returns
returns c = ap (λ (n : ℕ). eqb (n % 2 ^ 19) 0) (and_shr (bit_xor c.args.hi c.args.v) (bit_xor c.args.mask 0xffffe000) 13 ∙ ap₂ (λ (x y : ℕ). bit_and x y) (xor_shr c.args.hi c.args.v 13) (xor_shr c.args.mask 0xffffe000 13)) ∙ sym (agree_code 19 _ _ _)
