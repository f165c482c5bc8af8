-- The low words are divided, and the results extended.
use Rattle.std.proofs.Common.{◌/◌, ◌%◌, sym, refl, ◌∙◌, w32}
use Rattle.word.specs.Extend.{extend}
use Rattle.word.proofs.QuotientLaws.{by_zero_unsigned, gives_unsigned}
use Rattle.word.proofs.quotients.divu.Goals as goal

pub returns-then-y-eq0 : goal.returns-then-y-eq0
returns-then-y-eq0 c = by_zero_unsigned w32 c.args.a c.args.b _ _ _ c.by_zero.ensures (sym c.low_word-y.ensures ∙ c.if-y-eq0.true)
    c.extend.ensures refl

pub returns : goal.returns
returns c = let ex = c.low_word-x.ensures in
    let ey = c.low_word-y.ensures in
    gives_unsigned w32 _ _ _ _ (λ e. c.if-y-eq0.false (ey ∙ e))
    (c.extend-2.ensures ∙ (λ i. extend w32 (ex i % ey i)))
    (c.extend-3.ensures ∙ (λ i. extend w32 (ex i / ey i)))
