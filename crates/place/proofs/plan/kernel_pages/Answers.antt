-- The headers in their order.
use Prim.Native.Nat.{ℕ}
use native.Mathlib.Omega.{arith}
use mathlib.Core.Path.{refl, ap, ◌∙◌}
use Rattle.std.proofs.Common.{rules, tests}
use Rattle.std.proofs.lemmas.Iterator.{YieldsList-from_range}
use Rattle.std.proofs.lemmas.Iterator.Consumers.{fold_from_yields_List}
use Rattle.std.specs.Prelude.{max}
use Rattle.place.specs.Plan.{top_of, top_from, kernel_pages}
use Rattle.place.proofs.Turns.{top_is}
use Rattle.place.proofs.plan.kernel_pages.Goals as goal

pub returns : goal.returns
unfolding kernel_pages
returns c =
    fold_from_yields_List _ (λ (top i : ℕ). max top (top_of c.args.file.now i)) 0 _ c.fold.ensures.ran
    (YieldsList-from_range 0 c.count.result c.count.result refl (omega arith))
    (λ a x b q k. search (rules, tests))
    ∙ top_is c.args.file.now _ 0 0
    ∙ ap (λ (n : ℕ). top_from c.args.file.now n 0 0) c.count.ensures.0
