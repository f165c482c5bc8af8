-- A slot more at most, for a page more.
use mathlib.Core.Path.{ap}
use native.Mathlib.Omega.{arith}
use Rattle.place.specs.Plan.{Plan}
use Rattle.place.proofs.Pages.{more_least}
use Rattle.place.proofs.plan.Plan.take.Goals as goal

pub invariant_of-self : goal.invariant_of-self
invariant_of-self c =
    let used = ap (λ (p : Plan). p.used) c.self.view_is in
    let more = more_least c.self.inside.used c.args.i c.self.inside.next (omega (arith, used, c.requires.0)) c.self.invariant.1 in
    let next = ap (λ (p : Plan). p.next) c.self.view_is in
    (omega (arith, c.more-used.ensures, more, next, c.requires), omega (arith, c.more-used.ensures, more))
