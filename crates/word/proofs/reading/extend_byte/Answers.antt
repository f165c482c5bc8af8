-- The low bits as a signed number, in a register.
use Rattle.std.proofs.Common.{ap, ◌∙◌, lit≤, w8, w64, of_z}
use Rattle.word.specs.Extend.{extend}
use Rattle.word.proofs.CompareLaws.{seen_wide}
use Rattle.word.proofs.reading.extend_byte.Goals as goal

pub returns : goal.returns
unfolding extend
returns c = c.cast_unsigned.ensures ∙ ap (of_z w64) (seen_wide w8 w64 c.args.x (lit≤ tt) c.cast_signed.ensures c.from.ensures)
