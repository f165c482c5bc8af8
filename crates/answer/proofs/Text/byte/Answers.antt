-- A place past the end is the one that `set` leaves alone.
use Rattle.std.proofs.Common.{refl, sym}
use lib.Seq.{set_out}
use Rattle.answer.proofs.Writes.{put_one}
use Rattle.answer.proofs.Text.byte.Goals as goal
use Rattle.answer.proofs.Text.byte.Goals.{then-self, else-self}

pub returns : goal.returns
returns c =
    elim c.if-self.branch [
      | then-self w ↦ rw w.self-is (put_one refl refl)
      | else-self w ↦ rw w.self-is (put_one refl (sym (set_out _ _ _ w.if-self.false)))
    ]
