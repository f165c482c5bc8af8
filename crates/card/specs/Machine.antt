-- The machine: fresh (T28, T29), and the range that a run accepts (N21 to N25).
use Rattle.std.specs.Prelude.{ℕ, zero, suc, ◌+◌, ◌*◌, Bool, false, List, [], ◌∷◌, eqb, get_or, replicate}
use Rattle.promise.specs.Pick.{both, either}
use Rattle.tlb.specs.Range.{tlb_in_range}
use Rattle.cp0.specs.declared.Cp0.{Cp0}
use Rattle.cp0.specs.Range.{cp0_in_range}
use Rattle.cp0.specs.Registers as cp0
use Rattle.effect.specs.declared.Cpu.{Cpu}
use Rattle.effect.specs.After.{cpu_of}
use Rattle.card.specs.declared.Machine.{Machine}

-- a machine, field by field
abbrev pub machine : Cpu → Cp0 → List ℕ → List ℕ → Machine
machine c z r t = record { cpu = c; cp0 = z; regs = r; tlb = t }

-- n slots from slot i on: slot i holds page 80000000 + i × 2000h, not valid (T29)
unfoldable pub fresh_slots : ℕ → ℕ → List ℕ
fresh_slots zero i = []
fresh_slots (suc n) i = 0 ∷ (0x80000000 + i * 0x2000) ∷ 0 ∷ 0 ∷ fresh_slots n (i + 1)

-- PC BFC00000 sign-extended, CP0 as its rules say, all else 0, and the 48 slots (T29)
unfoldable pub fresh : Machine
fresh = machine (cpu_of 0xffffffffbfc00000 false 0 0 0 false) cp0.fresh (replicate 32 0) (fresh_slots 48 0)

-- no target without a slot (N23)
unfoldable pub cpu_in_range : Cpu → Bool
cpu_in_range cpu = either cpu.slot (eqb cpu.target 0)

-- every field is in its range: r0 is 0, and each part of the machine
unfoldable pub in_range : Machine → Bool
in_range m = both (eqb (get_or m.regs 0 0) 0) (both (cpu_in_range m.cpu) (both (cp0_in_range m.cp0) (tlb_in_range m.tlb)))
