use Rattle.std.proofs.Common.{sym, ap}
use Rattle.card.specs.Run.{Whole, ran}
use Rattle.card.proofs.Laws.{begins, goes_on, ends_here, spent}
use Rattle.card.proofs.runs.run.Goals as goal

pub loop-i-init : goal.loop-i-init
loop-i-init c = begins _ _ _ _ _ _ c.refusal-no.ensures c.if-no-ne0.false

pub loop-i-preserved : goal.loop-i-preserved
loop-i-preserved c = goes_on _ _ _ _ _ _ _ _ _ _ _ c.loop-i-test.true c.loop-i.invariant c.core-s.ensures c.if-s-ne0.false

pub returns-then-s-ne0 : goal.returns-then-s-ne0
returns-then-s-ne0 c =
    let e = sym (ends_here _ _ _ _ _ _ _ _ _ _ _ c.loop-i-test.true c.loop-i.invariant c.core-s.ensures c.if-s-ne0.true) in
    (ap ran e, ap (λ (w : Whole). w.ram) e)

pub returns : goal.returns
returns c =
    let e = sym (spent _ _ _ _ _ _ _ c.loop-i.auto.i-end c.loop-i-test.false c.loop-i.invariant) in
    (ap ran e, ap (λ (w : Whole). w.ram) e)
