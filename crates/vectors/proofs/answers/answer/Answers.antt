-- An answer is never longer than its room.
use Rattle.std.proofs.Common.{rules}
use Rattle.cardstate_main.proofs.Fits.{whole}
use Rattle.vectors.proofs.answers.answer.Goals as goal

pub returns : goal.returns
returns c = whole _ _ _ _ c.answer_to.ensures.answer (search rules)
