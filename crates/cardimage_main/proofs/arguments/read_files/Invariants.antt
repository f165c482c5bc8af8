-- What was read so far stands within the room.
use Rattle.std.proofs.Common.{◌≡◌, ◌≤◌, length}
use Rattle.cardimage_main.proofs.arguments.read_files.Given as goal

abbrev pub invariant-loop-k : goal.invariant-loop-k
invariant-loop-k g l = (length l.room ≡ length l.initial.room) × (l.at ≤ length l.room)
