-- One step: what it comes to, then the writes. Memory is handed on as `read ram rom` and written in one place.
use Rattle.std.specs.Prelude.{ℕ, ◌%◌, ◌≡◌, List, eqb, set}
use Rattle.promise.specs.Pick.{pick}
use Rattle.memory.specs.Memory.{read}
use Rattle.memory.specs.Stores.{put_bytes}
use Rattle.tlb.specs.Slot.{put_slot}
use Rattle.access.specs.declared.Effect.{Effect}
use Rattle.access.specs.Effect.{number_of}
use Rattle.effect.specs.Step.{effect_of}
use Rattle.effect.specs.After.{cpu_after, cp0_after}
use Rattle.card.specs.declared.Machine.{Machine}
use Rattle.card.specs.declared.Cored.{Cored}
use Rattle.card.specs.Machine.{machine}

-- a register is written; r0 never is, whatever the number
unfoldable pub put_reg : List ℕ → ℕ → ℕ → List ℕ
put_reg regs i v = pick (eqb (i % 32) 0) regs (set regs (i % 32) v)

-- all that a step leaves: the machine, RAM, and the stop, 0 for none
pub record Out : Type 0 where
  pub machine : Machine
  pub ram : List ℕ
  pub stop : ℕ

-- the same, field by field
abbrev pub out : Machine → List ℕ → ℕ → Out
out m s n = record { machine = m; ram = s; stop = n }

-- the one place where the machine and RAM are written
unfoldable pub apply : Machine → List ℕ → Effect → Out
apply m ram e =
    out
    (machine (cpu_after m.cpu m.cp0 e.turn) (cp0_after m.cpu.pc m.cpu.slot m.cp0 e.turn) (put_reg m.regs e.reg e.value) (put_slot m.tlb e.slot))
    (put_bytes ram e.store)
    (number_of e.stop)

-- one step (S1)
unfoldable pub step_of : Machine → List ℕ → List ℕ → ℕ → Out
step_of m ram rom lines = apply m ram (effect_of m.cpu m.cp0 m.regs m.tlb (read ram rom) lines)

-- the code did it: what it returned and left behind is the step's outcome
pub record Did (o : Out) (r : Cored) (regs tlb ram : List ℕ) : Type 0 where
  pub machine : machine r.cpu r.cp0 regs tlb ≡ o.machine
  pub stop : r.stop ≡ o.stop
  pub memory : ram ≡ o.ram
