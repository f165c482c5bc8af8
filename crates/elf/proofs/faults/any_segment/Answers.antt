-- Number by number.
use Prim.Native.Nat.{ℕ}
use native.Mathlib.Omega.{arith}
use mathlib.Core.Path.{refl, ap, ◌∙◌}
use Rattle.std.proofs.Common.{rules, tests}
use Rattle.std.proofs.lemmas.Iterator.{YieldsList-from_range}
use Rattle.std.proofs.lemmas.Iterator.Search.{any_from_yields_List}
use Rattle.elf.specs.Header.{header, loads}
use Rattle.elf.specs.Faults.{any_segment}
use Rattle.elf.proofs.Search.{any_is}
use Rattle.elf.proofs.faults.any_segment.Goals as goal

pub returns : goal.returns
unfolding any_segment
returns c =
    any_from_yields_List (λ (i : ℕ). loads c.args.file.now (header c.args.file.now i)) _ _ _ c.any.ensures.ran
    (YieldsList-from_range 0 _ _ refl (omega arith))
    (λ x b q k. search (rules, tests))
    ∙ any_is (λ (i : ℕ). loads c.args.file.now (header c.args.file.now i)) (any_segment c.args.file.now) (λ k. refl) (λ left k. refl) _ 0 ∙ ap (λ (n : ℕ). any_segment c.args.file.now n 0) c.many.ensures
