use Rattle.std.proofs.Common.{arith, sym, ◌∙◌}
use Rattle.std.proofs.lemmas.Result.{err_from_is_err_and}
use Rattle.image.proofs.Turns.{first_done, first_unended, first_refused, first_next}
use Rattle.image.proofs.refusals.all_pass.Goals as goal

pub returns-then-not-line : goal.returns-then-not-line
returns-then-not-line c =
    let b = rw c.if-not-line.true at c.in-Some.ensures.steps.0 in
    rw c.at.ensures (sym (c.loop-line.invariant.is ∙ first_unended _ _ b.0))

pub returns-in_err-pass : goal.returns-in_err-pass
returns-in_err-pass c =
    let b = rw c.if-not-line.false at c.in-Some.ensures.steps.0 in
    let p = err_from_is_err_and c.from_residual.result c.from_residual.ensures.1 in
    rw (p.1, p.2) (sym (c.loop-line.invariant.is ∙ first_refused _ _ b c.frame_of-f.ensures (sym c.in_err-pass.ensures)))

pub loop-line-preserved : goal.loop-line-preserved
loop-line-preserved c =
    let b = rw c.if-not-line.false at c.in-Some.ensures.steps.0 in
    record {
      counted = omega (arith, c.in-Some.ensures.steps.1, c.loop-line.invariant.counted);
      is = c.loop-line.invariant.is ∙ first_next _ _ b c.frame_of-f.ensures (sym c.in_ok-pass.ensures) c.is_budget-after.ensures;
    }

pub returns-then-after : goal.returns-then-after
returns-then-after c = sym (c.loop-line.invariant.is ∙ first_done _ _ c.in-None.ensures.steps ∙ simp c.if-after.true)

pub returns-else-after : goal.returns-else-after
returns-else-after c =
    rw c.at-else-after.ensures (sym (c.loop-line.invariant.is ∙ first_done _ _ c.in-None.ensures.steps ∙ simp c.if-after.false))
