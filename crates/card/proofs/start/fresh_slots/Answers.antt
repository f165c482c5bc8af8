use Rattle.std.proofs.Common.{suc, ◌+◌, ◌-◌, ◌≡◌, refl, arith}
use Rattle.card.specs.Machine.{fresh_slots}
use Rattle.card.proofs.start.fresh_slots.Invariants.{turns}
use Rattle.card.proofs.start.fresh_slots.Goals as goal

pub loop-i-init : goal.loop-i-init
unfolding turns fresh_slots
loop-i-init c = refl

pub loop-i-preserved : goal.loop-i-preserved
unfolding turns
loop-i-preserved c = let e : 48 - c.loop-i.i ≡ suc (48 - (c.loop-i.i + 1)) = omega arith in rw e at c.loop-i.invariant

pub returns : goal.returns
unfolding turns
returns c = let e : 48 - c.loop-i.i ≡ 0 = omega arith in rw e at c.loop-i.invariant
