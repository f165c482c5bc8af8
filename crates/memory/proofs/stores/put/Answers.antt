use Rattle.std.proofs.Common.{sym, ◌∙◌, arith, length-set}
use Rattle.memory.proofs.Runs.{sets_next, sets_none}
use Rattle.memory.proofs.stores.put.Goals as goal

pub loop-k-preserved : goal.loop-k-preserved
loop-k-preserved c =
    let h = c.loop-k.invariant in
    record {
      within = omega arith;
      long = simp length-set h.long;
      left = rw c.byte.ensures (sets_next _ _ _ _ _ c.loop-k-test.true ∙ h.left);
    }

pub returns : goal.returns
returns c = sym (sets_none _ _ _ _ (omega arith)) ∙ c.loop-k.invariant.left
