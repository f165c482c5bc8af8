-- The first fault of the headers that are left is that of all.
use mathlib.Core.Path.{sym, ◌∙◌}
use Rattle.std.proofs.lemmas.Result.{err_from_is_err_and}
use Rattle.elf.proofs.Turns.{segments_turn, segments_done}
use Rattle.elf.proofs.faults.segments_fault.Goals as goal

pub returns-in_err-header_fault : goal.returns-in_err-header_fault
returns-in_err-header_fault c =
    let p = err_from_is_err_and c.from_residual.result c.from_residual.ensures.1 in
    rw (p.1, p.2) (sym (c.loop-i.invariant ∙ segments_turn _ _ _ _ c.loop-i-test.true ∙ simp (sym c.in_err-header_fault.ensures)))

pub loop-i-preserved : goal.loop-i-preserved
loop-i-preserved c = c.loop-i.invariant ∙ segments_turn _ _ _ _ c.loop-i-test.true ∙ simp (sym c.in_ok-header_fault.ensures)

pub returns : goal.returns
returns c = sym (c.loop-i.invariant ∙ segments_done _ _ _ _ c.loop-i-test.false)
