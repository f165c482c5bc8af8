-- The low word as a signed number, in a register.
use Rattle.std.proofs.Common.{ap, ◌∙◌, w32, w64, of_z}
use Rattle.word.specs.Extend.{extend}
use Rattle.word.proofs.CompareLaws.{seen}
use Rattle.word.proofs.reading.extend.Goals as goal

pub returns : goal.returns
unfolding extend
returns c = c.pattern32.ensures ∙ ap (of_z w64) (seen w32 c.args.x _ c.signed32.ensures)
