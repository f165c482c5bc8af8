-- The code asks what the definition asks, and `put` is its run of bytes.
use Rattle.std.proofs.Common.{refl, sym, ◌∙◌}
use Rattle.memory.specs.Stores.{put_bytes, put_answer}
use Rattle.memory.proofs.stores.put_bytes.Goals as goal

pub returns-in_default : goal.returns-in_default
unfolding put_bytes put_answer
returns-in_default c = simp c.in_default.is (refl, refl)

pub returns-then-not-lands : goal.returns-then-not-lands
unfolding put_bytes put_answer
returns-then-not-lands c = simp (c.in-Some.is, sym c.lands.ensures ∙ c.if-not-lands.true) (refl, refl)

pub returns : goal.returns
unfolding put_bytes put_answer
returns c = simp (c.in-Some.is, sym c.lands.ensures ∙ c.if-not-lands.false) (refl, c.put.ensures)
