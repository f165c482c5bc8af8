-- The slots are looked at in their order.
use Prim.Native.Nat.{ℕ, ◌+◌, ◌*◌}
use native.Mathlib.Omega.{arith}
use mathlib.Core.Path.{refl, ◌∙◌}
use lib.Dec.{eqb}
use lib.ListN.{get_or}
use Rattle.std.proofs.Common.{rules, tests}
use Rattle.std.proofs.lemmas.Iterator.{YieldsList-from_range}
use Rattle.std.proofs.lemmas.Iterator.Search.{find_from_yields_List}
use Rattle.place.proofs.Turns.{find_is, find_most}
use Rattle.place.proofs.plan.find.Goals as goal

pub returns : goal.returns
returns c =
    let e = find_from_yields_List (λ (i : ℕ). eqb (get_or c.args.tlb.now (i * 4 + 1) 0) c.args.hi) _ _ _ c.find.ensures.ran
    (YieldsList-from_range 0 c.args.used c.args.used refl (omega arith))
    (λ x b q k. search (rules, tests)) in
    let s = c.unwrap_or.ensures ∙ find_is c.args.tlb.now c.args.hi c.args.used 0 c.args.used (omega arith) _ e in
    (s, omega (arith, s, find_most c.args.tlb.now c.args.hi c.args.used 0))
