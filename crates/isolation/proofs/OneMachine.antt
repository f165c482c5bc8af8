-- Equal machines are alike, and their slots stay equal, so the promise of one machine follows.
use mathlib.Core.Path.{sym, ◌∙◌, ap}
use mathlib.Core.Logic.{inl}
use Rattle.tlb.specs.Slot.{slot_at}
use Rattle.card.specs.declared.Machine.{Machine}
use Rattle.card.specs.Machine.{machine}
use Rattle.isolation.specs.Isolation.{Alike, SameRun}
use Rattle.isolation.specs.OneMachine.{StaysOne, MemoryIsolation}
use Rattle.isolation.proofs.Isolation.{isolation}

pub memory_isolation : MemoryIsolation
memory_isolation w₁ w₂ W₁ W₂ O n U = one (isolation w₁ w₂ W₁ W₂ alike n U)
  where
    alike : Alike w₁ w₂
    alike =
        record {
          cpu = ap (λ (m : Machine). m.cpu) O.machine;
          cp0 = ap (λ (m : Machine). m.cp0) O.machine;
          regs = ap (λ (m : Machine). m.regs) O.machine;
          slots = record { same = λ i h. inl (ap (λ (m : Machine). slot_at m.tlb i) O.machine) };
          lines = O.lines;
          ram = O.ram;
          rom = O.rom;
        }

    one : SameRun w₁ w₂ n → StaysOne w₁ w₂ n
    one S =
        let tlb = S.own₁ ∙ ap (λ (m : Machine). m.tlb) O.machine ∙ sym S.own₂ in
        record { machine = λ i. machine (S.cpu i) (S.cp0 i) (S.regs i) (tlb i); steps = S.steps; stop = S.stop; ram = S.ram }
