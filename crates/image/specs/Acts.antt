-- What frames do to the machine, to RAM and to the budget, one part at a time.
use Rattle.std.specs.Prelude.{ℕ, List, Option, Some, None, eqb, ltb, set}
use Rattle.promise.specs.Pick.{pick}
use Rattle.memory.specs.Stores.{sd, put_bytes}
use Rattle.tlb.specs.declared.Slot as tlb
use Rattle.tlb.specs.Slot.{slot, write, put_slot}
use Rattle.cp0.specs.Registers.{kept_entry_hi, kept_entry_lo}
use Rattle.cp0.specs.Moves.{move_in}
use Rattle.effect.specs.declared.Cpu.{Cpu}
use Rattle.effect.specs.After.{cpu_of}
use Rattle.card.specs.declared.Machine.{Machine}
use Rattle.card.specs.Machine.{machine}
use Rattle.frame.specs.Line.{Lines, done, unended, line}
use Rattle.frame.specs.Frame.{HI, LO, PC, frame_of}
use Rattle.frame.specs.declared.Frame.{Frame}
use Rattle.frame.specs.declared.Frame.TheVariants.{Register, Memory, Budget, Cp0, Slot}

-- 00 to 1f set a register (I4)
abbrev pub regs_set : List ℕ → ℕ → ℕ → List ℕ
regs_set regs number value = pick (ltb number HI) (set regs number value) regs

-- 20, 21 and 22 set HI, LO and PC (I4)
abbrev pub cpu_set : Cpu → ℕ → ℕ → Cpu
cpu_set cpu number value =
    pick (eqb number HI) (cpu_of cpu.pc cpu.slot cpu.target value cpu.lo cpu.link)
    (pick (eqb number LO) (cpu_of cpu.pc cpu.slot cpu.target cpu.hi value cpu.link)
    (pick (eqb number PC) (cpu_of value cpu.slot cpu.target cpu.hi cpu.lo cpu.link)
    cpu))

-- values as moves to PageMask, EntryHi, EntryLo0 and EntryLo1 leave them (I8, T14)
abbrev pub moved : ℕ → ℕ → ℕ → ℕ → tlb.Slot
moved mask hi lo0 lo1 = slot mask (kept_entry_hi hi) (kept_entry_lo lo0) (kept_entry_lo lo1)

-- what frames act on
pub record Loaded : Type 0 where
  pub machine : Machine
  pub ram : List ℕ
  pub budget : ℕ

abbrev pub loaded : Machine → List ℕ → ℕ → Loaded
loaded m ram b = record { machine = m; ram = ram; budget = b }

-- `01` sets a register, HI, LO or PC; `02` stores eight bytes, the first on top, as SD does; `03` sets the budget; `04` is a doubleword move to CP0; `05` is a TLB write of moved values (I3 to I9)
unfoldable pub act : Loaded → Frame → Loaded
act s (Register number value) =
    loaded
    (machine (cpu_set s.machine.cpu number value) s.machine.cp0 (regs_set s.machine.regs number value) s.machine.tlb)
    s.ram
    s.budget
act s (Memory address value) = loaded s.machine (put_bytes s.ram (Some (sd (record { 0 = address }) value))) s.budget
act s (Budget n) = loaded s.machine s.ram n
act s (Cp0 number value) =
    loaded
    (machine s.machine.cpu (move_in s.machine.cp0 number value) s.machine.regs s.machine.tlb)
    s.ram
    s.budget
act s (Slot index mask hi lo0 lo1) =
    loaded
    (machine s.machine.cpu s.machine.cp0 s.machine.regs (put_slot s.machine.tlb (Some (write index (moved mask hi lo0 lo1)))))
    s.ram
    s.budget

-- what a line does: its frame acts, where it is one
abbrev pub line_act : Loaded → Option Frame → Loaded
line_act s None = s
line_act s (Some f) = act s f

-- the lines' frames act first to last, so that later ones override (I11); a text whose last line no LF ends is refused before
unfoldable pub acts : Lines → Loaded → Loaded
acts done s = s
acts (unended l) s = line_act s (frame_of l)
acts (line l ls) s = acts ls (line_act s (frame_of l))
