use Rattle.std.proofs.Common.{arith, ◌≡◌, ◌-◌, ◌+◌}
use Rattle.answer.proofs.Writes.{begin, one_more, no_more}
use Rattle.answer.proofs.Text.each.Goals as goal

pub loop-i-init : goal.loop-i-init
loop-i-init g c = record { at = omega arith; going = rw (let e : c.args.from + c.args.count - c.args.from ≡ c.args.count = omega arith in e) begin }

pub frame-requires : goal.frame-requires
frame-requires g c = omega arith

pub loop-i-preserved : goal.loop-i-preserved
loop-i-preserved g c = record {
  at = omega arith;
  going = one_more _ (omega arith) (omega arith) c.line.ensures c.frame.ensures.0 c.loop-i.invariant.going;
}

pub returns : goal.returns
returns g c = let x = no_more (omega arith) c.loop-i.invariant.going in (x.0, x.1, x.2, omega arith)
