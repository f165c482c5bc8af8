-- Number by number.
use Prim.Native.Nat.{ℕ}
use native.Mathlib.Omega.{arith}
use mathlib.Core.Path.{refl, ap, ◌∙◌}
use Rattle.std.proofs.Common.{rules, tests}
use Rattle.std.proofs.lemmas.Iterator.{YieldsList-from_range}
use Rattle.std.proofs.lemmas.Iterator.Search.{any_from_yields_List}
use Rattle.elf.specs.declared.Space.TheVariants.{User}
use Rattle.elf.specs.Header.{header}
use Rattle.elf.specs.Home.{covers}
use Rattle.elf.specs.Faults.{in_segment}
use Rattle.elf.proofs.Search.{any_is}
use Rattle.elf.proofs.faults.in_segment.Goals as goal

pub returns : goal.returns
unfolding in_segment
returns c =
    any_from_yields_List (λ (i : ℕ). covers User c.args.file.now (header c.args.file.now i) c.args.v) _ _ _ c.any.ensures.ran
    (YieldsList-from_range 0 _ _ refl (omega arith))
    (λ x b q k. search (rules, tests))
    ∙ any_is (λ (i : ℕ). covers User c.args.file.now (header c.args.file.now i) c.args.v) (in_segment c.args.file.now c.args.v) (λ k. refl) (λ left k. refl) _ 0 ∙ ap (λ (n : ℕ). in_segment c.args.file.now c.args.v n 0) c.many.ensures
