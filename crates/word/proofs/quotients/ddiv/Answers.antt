-- The signed type divides as the rule says, and wraps where the rule cuts.
use Rattle.std.proofs.Common.{w64}
use Rattle.word.proofs.QuotientLaws.{by_zero_lem, zero_low, sign_asked, gives}
use Rattle.word.proofs.Registers.{as_signed, whole}
use Rattle.word.proofs.quotients.ddiv.Goals as goal

pub returns-then-y-eq0 : goal.returns-then-y-eq0
returns-then-y-eq0 c =
    let ex = as_signed _ c.ranges.a c.cast_signed-x.ensures in
    let ey = as_signed _ c.ranges.b c.cast_signed-y.ensures in
    by_zero_lem w64 c.args.a c.args.b _ _ _ c.by_zero.ensures (zero_low w64 c.args.a c.args.b ex ey c.if-y-eq0.true)
    (whole c.args.a c.ranges.a.fits) (sign_asked w64 c.args.a ex)

pub returns : goal.returns
returns c =
    gives w64 c.args.a c.args.b (as_signed _ c.ranges.a c.cast_signed-x.ensures) (as_signed _ c.ranges.b c.cast_signed-y.ensures) c.if-y-eq0.false
    c.wrapping_rem.ensures c.wrapping_div.ensures c.wrapping_div.type_inv c.cast_unsigned.ensures c.cast_unsigned-2.ensures
