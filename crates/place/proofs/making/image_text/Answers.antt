-- Refused early, without room, or a text.
use mathlib.Core.Path.{ap, ◌∙◌}
use Prim.Native.Nat.{ℕ}
use lib.ListN.{length-replicate}
use Rattle.std.proofs.lemmas.Result.{err_from_is_err_and}
use Rattle.place.specs.Plan.{kernel_pages}
use Rattle.place.proofs.Images.{plan_is, ram_is, early_refused, full_refused, not_some, text_made_lem}
use Rattle.place.proofs.making.image_text.Goals as goal

pub returns-in_err-files_refusal : goal.returns-in_err-files_refusal
returns-in_err-files_refusal c =
    let p = err_from_is_err_and c.from_residual.result c.from_residual.ensures.1 in
    rw (p.1, p.2) (early_refused _ _ _ _ _ c.in_err-files_refusal.ensures)

pub returns-in-Some : goal.returns-in-Some
returns-in-Some c =
    let kernel = (c.kernel_pages-kernel.ensures ∙ ap kernel_pages c.file.ensures) in
    full_refused _ _ _ _ _ c.in_ok-files_refusal.ensures _ (c.plan.view_is ∙ plan_is _ _ _ kernel _ _ c.begun-plan.ensures c.add_programs.ensures) _ c.in-Some.is _ kernel

pub returns : goal.returns
returns c =
    let kernel = (c.kernel_pages-kernel.ensures ∙ ap kernel_pages c.file.ensures) in
    let placed = c.plan.view_is ∙ plan_is _ _ _ kernel _ _ c.begun-plan.ensures c.add_programs.ensures in
    text_made_lem _ _ _ _ _ c.in_ok-files_refusal.ensures _ placed (not_some _ c.in_default.not-Some) _ (c.fill.ensures ∙ ram_is _ _ _ kernel _ placed _ (length-replicate {A = ℕ} 65536 0)) _ c.starts-pc.ensures _ _ c.text_of.ensures
