use Rattle.std.proofs.Common.{arith, refl, sym, ap, ◌∙◌, add-zero}
use Rattle.std.specs.Prelude.{unwrap_or}
use Rattle.std.proofs.Math.Nat.{sub-zero}
use Rattle.frame.specs.Digits.{number}
use Rattle.frame.proofs.Laws.{fits, number_next, number_end}
use Rattle.frame.proofs.number.Goals as goal

pub loop-b-init : goal.loop-b-init
unfolding number
loop-b-init c = record { in_range = omega arith; is = rw (add-zero, sub-zero) refl }

pub overflow_mul-v : goal.overflow_mul-v
overflow_mul-v c =
    let k = fits c.args.line.now c.args.at c.loop-b.b-index c.args.many c.loop-b.v (omega arith) _ refl c.requires.0 c.loop-b.invariant.in_range in
    record { fits = omega (arith, k.1) }

pub overflow_add-v : goal.overflow_add-v
overflow_add-v c =
    let e = c.unwrap_or.ensures ∙ ap (λ o. unwrap_or o 0) c.digit.ensures in
    record { fits = (fits _ _ _ _ c.loop-b.v (omega arith) _ e c.requires.0 c.loop-b.invariant.in_range).1 }

pub loop-b-preserved : goal.loop-b-preserved
loop-b-preserved c =
    let e = c.unwrap_or.ensures ∙ ap (λ o. unwrap_or o 0) c.digit.ensures in
    record {
      in_range = (fits _ _ _ _ c.loop-b.v (omega arith) _ e c.requires.0 c.loop-b.invariant.in_range).0;
      is = c.loop-b.invariant.is ∙ number_next _ _ _ _ _ (omega arith) _ e;
    }

pub returns : goal.returns
returns c = sym (c.loop-b.invariant.is ∙ number_end _ _ _ _ _ (omega arith))
