-- The invariant: the frames of what is left, from what the frames before them left, leave what all of them leave.
use mathlib.Core.Path.{◌≡◌}
use Rattle.frame.specs.Line.{lines_of}
use Rattle.image.specs.Acts.{loaded, acts}
use Rattle.image.proofs.load.Given as goal

abbrev pub invariant-loop-line : goal.invariant-loop-line
invariant-loop-line l =
    acts (lines_of l.fn.text) (loaded l.initial.machine l.initial.ram l.initial.budget) ≡ acts (lines_of l.line-iterator.0.now) (loaded l.machine l.ram l.budget)
