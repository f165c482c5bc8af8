-- A file whose ends are not in order or past the slice is empty.
use mathlib.Core.Path.{refl}
use Rattle.place.proofs.Lists.{file_got}
use Rattle.place.proofs.files.Files.file.Goals as goal

pub returns : goal.returns
returns c = rw c.unwrap_or.ensures (file_got _ _ _ _ _ c.start.ensures c.end.ensures _ _ refl c.get.ensures.lookup)
