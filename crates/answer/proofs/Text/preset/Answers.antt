-- The frames are written one after the other.
use Rattle.std.proofs.Common.{arith}
use Rattle.answer.specs.Placed.{preset_text}
use Rattle.answer.proofs.Writes.{◌then◌}
use Rattle.answer.proofs.Text.preset.Goals as goal

pub returns-then-user : goal.returns-then-user
unfolding preset_text
returns-then-user c =
    let a = c.cp0.ensures in
    let b = c.cp0-then-user.ensures in
    let d = c.register.ensures in
    let e = c.register-then-user.ensures in
    (rw c.if-user.true (a.0 then b.0 then d.0 then e.0), omega arith)

pub returns-else-user : goal.returns-else-user
unfolding preset_text
returns-else-user c =
    let a = c.cp0-else-user.ensures in
    let b = c.register-else-user.ensures in
    (rw c.if-user.false (a.0 then b.0), omega arith)
