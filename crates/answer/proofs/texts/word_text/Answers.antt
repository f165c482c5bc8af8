use Rattle.std.proofs.Common.{rules, ◌∙◌, length-append}
use Rattle.answer.proofs.Laws.{length_hex}
use Rattle.answer.proofs.texts.word_text.Goals as goal

pub returns : goal.returns
returns c = (search rules, c.line.ensures.0.wrote.ends ∙ simp (length-append, length_hex))
