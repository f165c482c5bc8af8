-- Each but the first begins where the one before it ends.
use mathlib.Core.Path.{◌∙◌}
use Rattle.place.proofs.Lists.{start_next}
use Rattle.place.proofs.files.Files.start.Goals as goal

pub returns-else-k-eq0 : goal.returns-else-k-eq0
returns-else-k-eq0 c = c.end.ensures ∙ start_next _ _ c.if-k-eq0.false
