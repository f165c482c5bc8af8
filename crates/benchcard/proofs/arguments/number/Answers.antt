use Rattle.std.proofs.Common.{◌≡◌, ◌<◌, length, sym, ◌∙◌, arith}
use Rattle.benchcard.proofs.Laws.{digit_more, no_digit, no_more, below, fits}
use Rattle.benchcard.proofs.arguments.number.Goals as goal

pub overflow_mul-x : goal.overflow_mul-x
overflow_mul-x c =
    let k : c.loop-b.b-index < 16 = omega arith
    in omega (arith, fits _ 0 _ c.loop-b.invariant.1 (omega arith) k)

pub returns-in_err-to_digit : goal.returns-in_err-to_digit
returns-in_err-to_digit c =
    c.from_residual.ensures ∙ sym (c.loop-b.invariant.0 ∙ no_digit _ _ _ c.loop-b-test.true c.from.ensures (c.in_err-to_digit.ensures).value)

pub overflow_add-x : goal.overflow_add-x
overflow_add-x c =
    let k : c.loop-b.b-index < 16 = omega arith
    in let d : c.from-in-loop-b.result < 10 = omega (arith, c.in_ok-to_digit.ensures)
    in omega (arith, fits _ _ _ c.loop-b.invariant.1 d k)

pub loop-b-preserved : goal.loop-b-preserved
loop-b-preserved c =
    let v = (c.in_ok-to_digit.ensures).value
    in let e = c.from-in-loop-b.ensures ∙ v.1
    in let d : c.from-in-loop-b.result < 10 = omega (arith, v.0, e)
    in (
      c.loop-b.invariant.0 ∙ digit_more _ _ _ c.loop-b-test.true c.from.ensures v.0 e,
      below _ _ _ c.loop-b.invariant.1 d,
    )

pub returns : goal.returns
returns c =
    let e : c.loop-b.b-index ≡ length c.args.digits.now = omega arith
    in sym (c.loop-b.invariant.0 ∙ no_more _ _ _ e)
