-- The texts that the programs print.
use Rattle.std.specs.Prelude.{ℕ, Bool, List, ◌++◌, leb}
use Rattle.promise.specs.Pick.{pick, both}
use Rattle.frame.specs.Frame.{PC}
use Rattle.card.specs.declared.Machine.{Machine}
use Rattle.card.specs.declared.Ran.{Ran}
use Rattle.answer.specs.Frames.{stop_frame, refusal_frame, register_frame, pending_frame, non_zero_line, register_line, kept_line, slot_line, memory_line, each}

-- the run was refused: numbers 1 to 4 (N2 to N5)
abbrev pub refused : ℕ → Bool
refused stop = both (leb 1 stop) (leb stop 4)

-- a refusal of the run: only `0e`, and line 0; else the text of what was run (I14)
abbrev pub answered : Ran → List ℕ → List ℕ
answered r text = pick (refused r.stop) (refusal_frame r.stop 0) text

-- what `cardrun` prints: `0f`; the registers 01 to 1f, HI and LO that are not zero; always PC (I13)
unfoldable pub cardrun_text : Ran → List ℕ
cardrun_text r =
    answered r
    (stop_frame r.stop r.steps ++ each (non_zero_line r.machine) 33 1 ++ register_frame PC r.machine.cpu.pc)

-- the whole state: every register 00 to 22; the pending slot and the link bit; every kept CP0 register; slots 00 to 2f; RAM up to 0000fff8 (house)
unfoldable pub state_text : Machine → List ℕ → List ℕ
state_text m ram =
    each (register_line m) 35 0
    ++ pending_frame m.cpu
    ++ each (kept_line m.cp0) 32 0
    ++ each (slot_line m.tlb) 48 0
    ++ each (memory_line ram) 8192 0

-- what `cardstate` prints: `0f`, and the whole state (house)
unfoldable pub cardstate_text : Ran → List ℕ → List ℕ
cardstate_text r ram = answered r (stop_frame r.stop r.steps ++ state_text r.machine ram)
