-- How Cpu and CP0 go on after a step, each in one place. A counted step ends with Count, Compare and Random (S8).
use Rattle.std.specs.Prelude.{ℕ, Bool, true, false, ◌==◌}
use Rattle.promise.specs.Pick.{pick}
use Rattle.cp0.specs.declared.Cp0.{Cp0}
use Rattle.cp0.specs.Registers.{Wired, linked, slot_read, probed}
use Rattle.cp0.specs.Moves.{move_in}
use Rattle.cp0.specs.Exceptions.{entered, vector, returned, return_to}
use Rattle.cp0.specs.Tick.{ended}
use Rattle.flow.specs.Address.{slot_address, after_slot}
use Rattle.effect.specs.declared.Cpu.{Cpu}
use Rattle.access.specs.declared.Turn.{Turn}
use Rattle.access.specs.declared.Turn.TheVariants.{Next, Branch, Skip, HiLo, Link, Enter, Move, Read, Probed, Eret, Stay}

-- a Cpu, field by field
abbrev pub cpu_of : ℕ → Bool → ℕ → ℕ → ℕ → Bool → Cpu
cpu_of pc slot target hi lo link = record { pc = pc; slot = slot; target = target; hi = hi; lo = lo; link = link }

-- after a pending slot its target, else the next instruction; with this HI, LO and link bit
unfoldable pub onward : Cpu → ℕ → ℕ → Bool → Cpu
onward cpu hi lo link = cpu_of (pick cpu.slot cpu.target (slot_address cpu.pc)) false 0 hi lo link

-- a branch leaves its slot pending, with where it leads (S13)
unfoldable pub pending : Cpu → ℕ → Cpu
pending cpu to = cpu_of (slot_address cpu.pc) true to cpu.hi cpu.lo cpu.link

-- at an address, with nothing pending
unfoldable pub arrived : Cpu → ℕ → Bool → Cpu
arrived cpu pc link = cpu_of pc false 0 cpu.hi cpu.lo link

-- how each turn leaves Cpu; a stop leaves it as it was (N17)
unfoldable pub cpu_after : Cpu → Cp0 → Turn → Cpu
cpu_after cpu cp0 Next = onward cpu cpu.hi cpu.lo cpu.link
cpu_after cpu cp0 (Branch to) = pending cpu to
cpu_after cpu cp0 Skip = arrived cpu (after_slot cpu.pc) cpu.link
cpu_after cpu cp0 (HiLo hi lo) = onward cpu hi lo cpu.link
cpu_after cpu cp0 (Link p) = onward cpu cpu.hi cpu.lo true
cpu_after cpu cp0 (Enter e) = arrived cpu (vector cp0.status e) cpu.link
cpu_after cpu cp0 (Move number value) = onward cpu cpu.hi cpu.lo cpu.link
cpu_after cpu cp0 (Read s) = onward cpu cpu.hi cpu.lo cpu.link
cpu_after cpu cp0 (Probed i) = onward cpu cpu.hi cpu.lo cpu.link
cpu_after cpu cp0 Eret = arrived cpu (return_to cp0) false
cpu_after cpu cp0 Stay = cpu

-- the step that writes Wired does not move Random (S10)
unfoldable pub cp0_after : ℕ → Bool → Cp0 → Turn → Cp0
cp0_after pc slot cp0 Next = ended false cp0
cp0_after pc slot cp0 (Branch to) = ended false cp0
cp0_after pc slot cp0 Skip = ended false cp0
cp0_after pc slot cp0 (HiLo hi lo) = ended false cp0
cp0_after pc slot cp0 (Link p) = ended false (linked cp0 p)
cp0_after pc slot cp0 (Enter e) = ended false (entered cp0 pc slot e)
cp0_after pc slot cp0 (Move number value) = ended (number == Wired) (move_in cp0 number value)
cp0_after pc slot cp0 (Read s) = ended false (slot_read cp0 s)
cp0_after pc slot cp0 (Probed i) = ended false (probed cp0 i)
cp0_after pc slot cp0 Eret = ended false (returned cp0)
cp0_after pc slot cp0 Stay = cp0
