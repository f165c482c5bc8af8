-- The first fault of the programs left is that of all.
use mathlib.Core.Path.{sym, ◌∙◌}
use Rattle.std.proofs.lemmas.Result.{err_from_is_err_and}
use Rattle.place.proofs.Turns.{refused_next, refused_done}
use Rattle.place.proofs.refusals.programs_refusal.Goals as goal

pub returns-in_err-program_refusal : goal.returns-in_err-program_refusal
returns-in_err-program_refusal c =
    let p = err_from_is_err_and c.from_residual.result c.from_residual.ensures.1 in
    rw (p.1, p.2) (sym (c.loop-k.invariant ∙ refused_next _ _ _ c.loop-k-test.true ∙ simp (sym c.in_err-program_refusal.ensures)))

pub loop-k-preserved : goal.loop-k-preserved
loop-k-preserved c = c.loop-k.invariant ∙ refused_next _ _ _ c.loop-k-test.true ∙ simp (sym c.in_ok-program_refusal.ensures)

pub returns : goal.returns
returns c = sym (c.loop-k.invariant ∙ refused_done _ _ _ c.loop-k-test.false)
