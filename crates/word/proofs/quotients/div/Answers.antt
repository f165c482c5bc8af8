-- The signed type divides as the rule says, and wraps where the rule cuts.
use Rattle.std.proofs.Common.{w32}
use Rattle.word.proofs.QuotientLaws.{by_zero_lem, zero_low, sign_asked, gives}
use Rattle.word.proofs.quotients.div.Goals as goal

pub returns-then-y-eq0 : goal.returns-then-y-eq0
returns-then-y-eq0 c =
    by_zero_lem w32 c.args.a c.args.b _ _ _ c.by_zero.ensures (zero_low w32 c.args.a c.args.b c.signed32-x.ensures c.signed32-y.ensures c.if-y-eq0.true)
    c.extend.ensures (sign_asked w32 c.args.a c.signed32-x.ensures)

pub returns : goal.returns
returns c =
    gives w32 c.args.a c.args.b c.signed32-x.ensures c.signed32-y.ensures c.if-y-eq0.false
    c.wrapping_rem.ensures c.wrapping_div.ensures c.wrapping_div.type_inv c.pattern32.ensures c.pattern32-2.ensures
