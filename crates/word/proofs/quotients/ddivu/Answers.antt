-- The division of whole registers is that of their low bits.
use Rattle.std.proofs.Common.{◌/◌, ◌%◌, sym, refl, ◌∙◌, div-le_self, arith, w64}
use native.Mathlib.Nat.{mod-le}
use Rattle.word.specs.Extend.{extend}
use Rattle.word.proofs.Registers.{whole, low_whole}
use Rattle.word.proofs.QuotientLaws.{by_zero_unsigned, gives_unsigned}
use Rattle.word.proofs.quotients.ddivu.Goals as goal

pub returns-then-b-eq0 : goal.returns-then-b-eq0
returns-then-b-eq0 c = by_zero_unsigned w64 c.args.a c.args.b _ _ _ c.by_zero.ensures (omega (arith, c.if-b-eq0.true)) (whole c.args.a c.ranges.a.fits) refl

pub returns : goal.returns
returns c = let a = c.args.a in
    let b = c.args.b in
    gives_unsigned w64 a b _ _ (λ e. c.if-b-eq0.false (sym (low_whole b c.ranges.b) ∙ e))
    (whole (a % b) (omega (arith, mod-le a b)) ∙ (λ i. extend w64 (sym (low_whole a c.ranges.a) i % sym (low_whole b c.ranges.b) i)))
    (whole (a / b) (omega (arith, div-le_self a b)) ∙ (λ i. extend w64 (sym (low_whole a c.ranges.a) i / sym (low_whole b c.ranges.b) i)))
