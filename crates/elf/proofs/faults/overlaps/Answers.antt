-- Number by number.
use Prim.Native.Nat.{ℕ}
use native.Mathlib.Omega.{arith}
use mathlib.Core.Path.{refl, ◌∙◌}
use Rattle.std.proofs.Common.{rules, tests}
use Rattle.std.proofs.lemmas.Iterator.{YieldsList-from_range}
use Rattle.std.proofs.lemmas.Iterator.Search.{any_from_yields_List}
use Rattle.elf.specs.Faults.{overlaps_at, overlaps}
use Rattle.elf.proofs.Search.{any_is}
use Rattle.elf.proofs.faults.overlaps.Goals as goal

pub returns : goal.returns
unfolding overlaps
returns c =
    any_from_yields_List (λ (i : ℕ). overlaps_at c.args.space c.args.file.now c.args.h i) _ _ _ c.any.ensures.ran
    (YieldsList-from_range 0 _ _ refl (omega arith))
    (λ x b q k. search (rules, tests))
    ∙ any_is (λ (i : ℕ). overlaps_at c.args.space c.args.file.now c.args.h i) (overlaps c.args.space c.args.file.now c.args.h) (λ k. refl) (λ left k. refl) _ 0
