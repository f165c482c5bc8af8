-- Header by header.
use Prim.Native.Nat.{ℕ}
use native.Mathlib.Omega.{arith}
use mathlib.Core.Path.{refl, ap, ◌∙◌}
use Rattle.std.proofs.Common.{rules, tests}
use Rattle.std.proofs.lemmas.Iterator.{YieldsList-from_range}
use Rattle.std.proofs.lemmas.Iterator.Consumers.{fold_from_yields_List}
use Rattle.elf.specs.Header.{header, raised, reach_from}
use Rattle.elf.proofs.Turns.{reach_is}
use Rattle.elf.proofs.headers.reach.Goals as goal

pub returns : goal.returns
returns c =
    fold_from_yields_List _ (λ (far i : ℕ). raised (header c.args.file.now i) far) c.args.from _ c.fold.ensures.ran
    (YieldsList-from_range 0 c.many.result c.many.result refl (omega arith))
    (λ a x b q k. search (rules, tests))
    ∙ reach_is c.args.file.now _ 0 c.args.from
    ∙ ap (λ (n : ℕ). reach_from c.args.file.now n 0 c.args.from) c.many.ensures
