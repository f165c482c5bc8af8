-- The low word is shifted, and the result extended.
use Rattle.std.proofs.Common.{ℕ, ◌/◌, ◌%◌, ◌^◌, ap, ◌∙◌, w32}
use Rattle.word.proofs.ShiftLaws.{right_is}
use Rattle.word.proofs.shifts.srl.Goals as goal

pub returns : goal.returns
returns c = c.extend.ensures ∙ right_is w32 c.args.x (c.args.n % 32) _ (ap (λ (k : ℕ). k / 2 ^ (c.args.n % 32)) c.low_word.ensures)
