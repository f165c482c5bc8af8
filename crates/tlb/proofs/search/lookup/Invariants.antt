-- The invariant: what was found is what the slots looked at so far give.
use Rattle.std.proofs.Common.{◌≡◌, ◌*◌}
use Rattle.tlb.specs.declared.Found.TheVariants.{Absent}
use Rattle.tlb.specs.Match.{seek}
use Rattle.tlb.proofs.search.lookup.Given as goal

abbrev pub invariant-loop-turn : goal.invariant-loop-turn
invariant-loop-turn l = l.found ≡ seek (l.turn * 4) 0 l.tlb l.asid l.v Absent
