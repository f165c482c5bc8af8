-- One step in document 01's order: interrupt, fetch, decode, execute and what it asks for (S1 to S7).
use Rattle.std.specs.Prelude.{ℕ, ◌%◌, Bool, List, slice_index, Option, Some, None, Result, Ok, Err}
use Rattle.promise.specs.Pick.{pick}
use Rattle.word.specs.Word.{extend}
use Rattle.memory.specs.declared.PAddr.{PAddr}
use Rattle.memory.specs.declared.Eight.{Eight}
use Rattle.tlb.specs.declared.VAddr.{VAddr}
use Rattle.tlb.specs.declared.Slot.{Slot}
use Rattle.tlb.specs.declared.DoubleMatch.{DoubleMatch}
use Rattle.tlb.specs.declared.Where.{Where}
use Rattle.tlb.specs.Segments.{translate}
use Rattle.tlb.specs.Slot.{asid_of, slot, read_slot}
use Rattle.tlb.specs.Probe.{probe}
use Rattle.tlb.specs.Translate.{vaddr}
use Rattle.cp0.specs.declared.Cp0.{Cp0}
use Rattle.cp0.specs.declared.Exception.TheVariants.{Int, RI, CpU}
use Rattle.cp0.specs.declared.NotBuilt.{NotBuilt}
use Rattle.cp0.specs.Status.{CU0, mode_of, user, interrupted}
use Rattle.cp0.specs.Moves.{move_out, check_move}
use Rattle.decode.specs.declared.TlbOp.{TlbOp}
use Rattle.decode.specs.declared.TlbOp.TheVariants.{TLBR, TLBWI, TLBWR, TLBP}
use Rattle.decode.specs.declared.Instr.{Instr}
use Rattle.usability.specs.declared.Unready.{Unready}
use Rattle.usability.specs.declared.Unready.TheVariants.{Unusable, Reserved, InSlot}
use Rattle.decode.specs.Fields.{rs, rt}
use Rattle.decode.specs.Decode.{decode}
use Rattle.usability.specs.Ready.{ready}
use Rattle.flow.specs.declared.Act.{Act}
use Rattle.flow.specs.declared.Act.TheVariants as act
use Rattle.execute.specs.declared.Command.{Command}
use Rattle.execute.specs.declared.Command.TheVariants as command
use Rattle.execute.specs.declared.Executed.{Executed}
use Rattle.execute.specs.declared.Executed.TheVariants as done
use Rattle.flow.specs.Address.{after_slot}
use Rattle.execute.specs.LoadStore.{load_align, store_align}
use Rattle.execute.specs.Execute.{execute}
use Rattle.effect.specs.declared.Cpu.{Cpu}
use Rattle.access.specs.declared.Turn.TheVariants as turn
use Rattle.access.specs.declared.Unfetched.{Unfetched}
use Rattle.access.specs.declared.Unfetched.TheVariants as unfetched
use Rattle.access.specs.declared.Stop.TheVariants as stop
use Rattle.access.specs.declared.Effect.{Effect}
use Rattle.access.specs.Effect.{effects, turned, wrote, raised, stopped}
use Rattle.access.specs.Access.{loaded, saved}
use Rattle.access.specs.Fetch.{word_at}

-- where an address leads, by the mode and the ASID that CP0 holds
abbrev pub leads : Cp0 → List ℕ → ℕ → VAddr → Where
leads cp0 tlb align v = translate (mode_of cp0.status) (asid_of cp0.entryhi) tlb align v

-- the four registers that a TLB write takes its values from (T6)
abbrev pub moved : Cp0 → Slot
moved cp0 = slot cp0.pagemask cp0.entryhi cp0.entrylo0 cp0.entrylo1

-- TLBR: PageMask, EntryHi and EntryLo from the slot, or nothing for a slot of 48 or more (T9)
unfoldable pub from_slot : Option Slot → Effect
from_slot (Some s) = turned (turn.Read s)
from_slot None = turned turn.Next

-- TLBP: Index, or stop 16 (N18)
unfoldable pub from_probe : Result ℕ DoubleMatch → Effect
from_probe (Ok i) = turned (turn.Probed i)
from_probe (Err e) = stopped stop.DoubleMatch

-- a TLB write goes to slot i
abbrev pub written : Cp0 → ℕ → Effect
written cp0 i = effects turn.Next 0 0 (Some (record { index = i; moved = moved cp0 })) None None

-- the four TLB operations: Index 5..0 or Random is the slot (T8)
unfoldable pub tlb_done : TlbOp → Cp0 → List ℕ → Effect
tlb_done TLBR cp0 tlb = from_slot (read_slot tlb (cp0.index % 64))
tlb_done TLBWI cp0 tlb = written cp0 (cp0.index % 64)
tlb_done TLBWR cp0 tlb = written cp0 cp0.random
tlb_done TLBP cp0 tlb = from_probe (probe tlb cp0.entryhi)

-- a move to CP0, or stop 18 (N12)
unfoldable pub moved_to : ℕ → ℕ → Result Unit NotBuilt → Effect
moved_to number value (Ok x) = turned (turn.Move number value)
moved_to number value (Err e) = stopped stop.NotBuilt

-- what MFC0 and DMFC0 bring: MFC0 takes the low word (T15)
abbrev pub moved_from : Bool → ℕ → ℕ
moved_from double x = pick double x (extend x)

-- what an instruction asks for is done; `value` is that of its register rt
unfoldable pub asked : Cpu → Cp0 → List ℕ → (PAddr → Option Eight) → ℕ → Act → Effect
asked cpu cp0 tlb look value act.Nothing = turned turn.Next
asked cpu cp0 tlb look value (act.Write reg v) = wrote reg v
asked cpu cp0 tlb look value (act.HiLo hi lo) = turned (turn.HiLo hi lo)
asked cpu cp0 tlb look value (act.Branch to link) = effects (turn.Branch to) link (after_slot cpu.pc) None None None
asked cpu cp0 tlb look value (act.Skip link) = effects turn.Skip link (after_slot cpu.pc) None None None
asked cpu cp0 tlb look value (act.Load op reg at) = loaded op reg value at look (leads cp0 tlb (load_align op) at)
asked cpu cp0 tlb look value (act.Store op reg at) = saved op reg cpu.link value at look (leads cp0 tlb (store_align op) at)
asked cpu cp0 tlb look value (act.Raise e) = raised e

-- what a CP0 instruction asks for is done
unfoldable pub commanded : Cp0 → List ℕ → ℕ → Command → Effect
commanded cp0 tlb lines (command.MoveFrom reg number double) = wrote reg (moved_from double (move_out cp0 lines number))
commanded cp0 tlb lines (command.MoveTo number v) = moved_to number v (check_move number v)
commanded cp0 tlb lines (command.Tlb op) = tlb_done op cp0 tlb
commanded cp0 tlb lines command.Eret = turned turn.Eret

-- what an instruction does or asks for
unfoldable pub executed : Cpu → Cp0 → List ℕ → (PAddr → Option Eight) → ℕ → ℕ → Executed → Effect
executed cpu cp0 tlb look lines value (done.Plain a) = asked cpu cp0 tlb look value a
executed cpu cp0 tlb look lines value (done.Command c) = commanded cp0 tlb lines c

-- a word that may be executed, or what it raises or stops instead (S6)
unfoldable pub readied : Cpu → Cp0 → List ℕ → List ℕ → (PAddr → Option Eight) → ℕ → ℕ → Result Instr Unready → Effect
readied cpu cp0 regs tlb look lines w (Ok i) =
    executed cpu cp0 tlb look lines (slice_index regs (rt w))
    (execute i cpu.pc (slice_index regs (rs w)) (slice_index regs (rt w)) cpu.hi cpu.lo)
readied cpu cp0 regs tlb look lines w (Err (Unusable u)) = raised (CpU u)
readied cpu cp0 regs tlb look lines w (Err Reserved) = raised RI
readied cpu cp0 regs tlb look lines w (Err InSlot) = stopped stop.BranchInSlot

-- a fetched word is decoded
unfoldable pub decoded : Cpu → Cp0 → List ℕ → List ℕ → (PAddr → Option Eight) → ℕ → ℕ → Effect
decoded cpu cp0 regs tlb look lines w =
    readied cpu cp0 regs tlb look lines w (ready (user cp0.status) (CU0 cp0.status) cpu.slot (decode w))

-- the fetched word is decoded, or the step is what the fetch came to instead
unfoldable pub begun : Cpu → Cp0 → List ℕ → List ℕ → (PAddr → Option Eight) → ℕ → Result ℕ Unfetched → Effect
begun cpu cp0 regs tlb look lines (Ok w) = decoded cpu cp0 regs tlb look lines w
begun cpu cp0 regs tlb look lines (Err (unfetched.Raise e)) = raised e
begun cpu cp0 regs tlb look lines (Err unfetched.Double) = stopped stop.DoubleMatch

-- the fetch: PC is translated, and the word there taken (S5)
abbrev pub fetched : Cpu → Cp0 → List ℕ → (PAddr → Option Eight) → Result ℕ Unfetched
fetched cpu cp0 tlb look = word_at (vaddr cpu.pc) look (leads cp0 tlb 4 (vaddr cpu.pc))

-- a step: the interrupt, then the fetch (S2)
unfoldable pub effect_of : Cpu → Cp0 → List ℕ → List ℕ → (PAddr → Option Eight) → ℕ → Effect
effect_of cpu cp0 regs tlb look lines =
    pick (interrupted cp0.status cp0.cause lines) (raised Int) (begun cpu cp0 regs tlb look lines (fetched cpu cp0 tlb look))
