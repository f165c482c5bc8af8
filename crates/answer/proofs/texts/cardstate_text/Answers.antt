-- The pieces are written one after the other.
use Rattle.std.proofs.Common.{rules, sym, ◌∙◌}
use Rattle.answer.specs.Texts.{cardstate_text}
use Rattle.answer.proofs.Writes.{◌then◌}
use Rattle.answer.proofs.texts.cardstate_text.Goals as goal

pub returns-then-refused : goal.returns-then-refused
unfolding cardstate_text
returns-then-refused c = rw (sym c.refused.ensures ∙ c.if-refused.true) c.refusal_text.ensures

pub returns : goal.returns
unfolding cardstate_text
returns c =
    let p = c.stop.ensures.0 then c.state.ensures in
    rw (sym c.refused.ensures ∙ c.if-refused.false) (search rules)
