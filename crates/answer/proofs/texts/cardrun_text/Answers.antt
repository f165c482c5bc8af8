-- The pieces are written one after the other.
use Rattle.std.proofs.Common.{rules, sym, ◌∙◌}
use Rattle.answer.specs.Frames.{non_zero_line}
use Rattle.answer.specs.Texts.{cardrun_text}
use Rattle.answer.proofs.Writes.{◌then◌, lines}
use Rattle.answer.proofs.texts.cardrun_text.Goals as goal

pub returns-then-refused : goal.returns-then-refused
unfolding cardrun_text
returns-then-refused c = rw (sym c.refused.ensures ∙ c.if-refused.true) c.refusal_text.ensures

pub returns : goal.returns
unfolding cardrun_text
returns c =
    let a = c.each.ensures in
    let b = lines 33 1 (non_zero_line c.args.ran.machine) (λ k r l h. search rules) (a.0, a.1, a.2) in
    let p = c.stop.ensures.0 then b then c.register.ensures.0 in
    rw (sym c.refused.ensures ∙ c.if-refused.false) (search rules)
