-- The steps done and those left are the whole run.
use Rattle.std.proofs.Common.{◌-◌, ◌≡◌}
use Rattle.card.specs.Machine.{machine}
use Rattle.card.specs.Run.{plus, steps, run_of}
use Rattle.card.proofs.runs.run.Given as goal

abbrev pub invariant-loop-i : goal.invariant-loop-i
invariant-loop-i l =
    run_of l.rom l.lines l.budget (machine l.initial.cpu l.initial.cp0 l.initial.regs l.initial.tlb) l.initial.ram
    ≡ plus l.i (steps l.rom l.lines (l.budget - l.i) (machine l.cpu l.cp0 l.regs l.tlb) l.ram)
