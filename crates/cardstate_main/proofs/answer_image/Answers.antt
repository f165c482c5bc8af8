-- An answer is never longer than its room.
use Rattle.cardstate_main.proofs.Fits.{whole}
use borrow.Author.Rules.{rules}
use Rattle.cardstate_main.proofs.answer_image.Goals as goal

pub slice_bounds-out-end : goal.slice_bounds-out-end
slice_bounds-out-end g c = (whole _ _ _ _ c.answer_to-n.ensures.answer (search rules)).0

pub slice_bounds-give-end : goal.slice_bounds-give-end
slice_bounds-give-end g c = (whole _ _ _ _ c.answer_to-n.ensures.answer (search rules)).1
