-- The image fits its 65,536 bytes.
use Rattle.cardimage_main.proofs.Fits.{image}
use borrow.Author.Rules.{rules}
use Rattle.cardimage_main.proofs.make.Goals as goal

pub slice_bounds-out-end : goal.slice_bounds-out-end
slice_bounds-out-end g c = (image _ _ _ _ c.image_text.ensures c.in_ok-length.was (search rules)).0

pub slice_bounds-give-end : goal.slice_bounds-give-end
slice_bounds-give-end g c = (image _ _ _ _ c.image_text.ensures c.in_ok-length.was (search rules)).1
