-- The stops of one step, each exactly in its case over the stages of the step's definition (N10 to N12, N14, N17 to N19).
use Rattle.std.specs.Prelude.{ℕ, ◌≡◌, true, false, List, ◌↔◌, ◌⊎◌, get_or, Option, Some, Result, Ok, Err}
use Rattle.promise.specs.Pick.{both}
use Rattle.memory.specs.declared.PAddr.{PAddr}
use Rattle.memory.specs.declared.Eight.{Eight}
use Rattle.memory.specs.declared.Eight.TheVariants.{Ram, Rom}
use Rattle.memory.specs.Memory.{read}
use Rattle.memory.specs.Loads.{lwu}
use Rattle.tlb.specs.declared.VAddr.{VAddr}
use Rattle.tlb.specs.declared.Half.{Half}
use Rattle.tlb.specs.declared.Where.{Where}
use Rattle.tlb.specs.declared.Where.TheVariants.{Mapped, Unmapped, Double}
use Rattle.tlb.specs.Translate.{vaddr}
use Rattle.tlb.specs.Probe.{probe}
use Rattle.cp0.specs.Status.{CU0, user, interrupted}
use Rattle.cp0.specs.Moves.{not_built, check_move}
use Rattle.decode.specs.declared.Instr.{Instr}
use Rattle.usability.specs.declared.Unready.{Unready}
use Rattle.decode.specs.declared.LoadOp.{LoadOp}
use Rattle.decode.specs.declared.StoreOp.{StoreOp}
use Rattle.decode.specs.declared.TlbOp.TheVariants.{TLBP}
use Rattle.decode.specs.Fields.{rs, rt}
use Rattle.decode.specs.Decode.{decode}
use Rattle.usability.specs.Ready.{is_cp0, is_branch, locked, ready}
use Rattle.flow.specs.declared.Act.TheVariants.{Load, Store}
use Rattle.execute.specs.declared.Command.TheVariants.{MoveTo, Tlb}
use Rattle.execute.specs.declared.Executed.{Executed}
use Rattle.execute.specs.declared.Executed.TheVariants.{Plain, Command}
use Rattle.execute.specs.LoadStore.{load_align, store_align}
use Rattle.execute.specs.Execute.{execute}
use Rattle.access.specs.declared.Effect.{Effect}
use Rattle.effect.specs.Step.{leads, effect_of}
use Rattle.card.specs.declared.Machine.{Machine}
use Rattle.card.specs.Step.{step_of}

-- where an address leads, by the machine's mode, ASID and TLB
abbrev pub goes : Machine → ℕ → VAddr → Where
goes m align v = leads m.cp0 m.tlb align v

-- the effect of the step: all that it comes to
abbrev pub effect : Machine → List ℕ → List ℕ → ℕ → Effect
effect m ram rom lines = effect_of m.cpu m.cp0 m.regs m.tlb (read ram rom) lines

-- the step comes to its fetch: no interrupt is taken (S2)
pub record Fetches (m : Machine) (lines : ℕ) : Type 0 where
  pub no_interrupt : interrupted m.cp0.status m.cp0.cause lines ≡ false

-- it leads to a physical address
pub data LeadsTo : Where → PAddr → Type 0 where
  mapped : {p : PAddr} {h : Half} → LeadsTo (Mapped p h) p
  unmapped : {p : PAddr} → LeadsTo (Unmapped p) p

-- RAM or ROM holds these eight bytes there
pub data Holds : Option Eight → ℕ → Type 0 where
  ram : {n : ℕ} → Holds (Some (Ram n)) n
  rom : {n : ℕ} → Holds (Some (Rom n)) n

-- the fetch brings the word w (S5)
pub record Brings (m : Machine) (ram rom : List ℕ) (lines w : ℕ) : Type 0 where
  pub fetches : Fetches m lines
  pub at : PAddr
  pub eight : ℕ
  pub leads_to : LeadsTo (goes m 4 (vaddr m.cpu.pc)) at
  pub holds : Holds (read ram rom at) eight
  pub word : w ≡ lwu eight at

-- whether the step may go on with the word w (S6)
abbrev pub readiness : Machine → ℕ → Result Instr Unready
readiness m w = ready (user m.cp0.status) (CU0 m.cp0.status) m.cpu.slot (decode w)

-- the word is an instruction that may go on, and it comes to x (S7)
pub record Executes (m : Machine) (ram rom : List ℕ) (lines : ℕ) (x : Executed) : Type 0 where
  pub word : ℕ
  pub instr : Instr
  pub brings : Brings m ram rom lines word
  pub may : readiness m word ≡ Ok instr
  pub comes : execute instr m.cpu.pc (get_or m.regs (rs word) 0) (get_or m.regs (rt word) 0) m.cpu.hi m.cpu.lo ≡ x

-- 16: two slots match the address of the fetch, of a load or of a store, or TLBP finds two (N10, N18)
pub data Twice (m : Machine) (ram rom : List ℕ) (lines : ℕ) : Type 0 where
  at_fetch : Fetches m lines → goes m 4 (vaddr m.cpu.pc) ≡ Double → Twice m ram rom lines
  at_load : (op : LoadOp) (reg : ℕ) (at : VAddr) → Executes m ram rom lines (Plain (Load op reg at)) → goes m (load_align op) at ≡ Double → Twice m ram rom lines
  at_store : (op : StoreOp) (reg : ℕ) (at : VAddr) → Executes m ram rom lines (Plain (Store op reg at)) → goes m (store_align op) at ≡ Double → Twice m ram rom lines
  at_probe : Executes m ram rom lines (Command (Tlb TLBP)) → probe m.tlb m.cp0.entryhi ≡ Err (record {}) → Twice m ram rom lines

-- 17: a branch, a jump or an ERET that may be used stands in a delay slot (N11, N19)
pub record BranchInSlot (m : Machine) (ram rom : List ℕ) (lines : ℕ) : Type 0 where
  pub word : ℕ
  pub instr : Instr
  pub brings : Brings m ram rom lines word
  pub is : decode word ≡ Ok instr
  pub branch : is_branch instr ≡ true
  pub slot : m.cpu.slot ≡ true
  pub usable : both (locked (user m.cp0.status) (CU0 m.cp0.status)) (is_cp0 instr) ≡ false

-- 18: a move to Status or PageMask of a value that is not built (N12, N19)
pub record MoveNotBuilt (m : Machine) (ram rom : List ℕ) (lines : ℕ) : Type 0 where
  pub number : ℕ
  pub value : ℕ
  pub executes : Executes m ram rom lines (Command (MoveTo number value))
  pub not_built : check_move number value ≡ Err not_built

-- of every step: each stop is given just in its case, there is no other, and a step that stops changes nothing
pub record StepStops (m : Machine) (ram rom : List ℕ) (lines : ℕ) : Type 0 where
  pub sixteen : ((step_of m ram rom lines).stop ≡ 16) ↔ Twice m ram rom lines
  pub seventeen : ((step_of m ram rom lines).stop ≡ 17) ↔ BranchInSlot m ram rom lines
  pub eighteen : ((step_of m ram rom lines).stop ≡ 18) ↔ MoveNotBuilt m ram rom lines
  pub no_other :
      ((step_of m ram rom lines).stop ≡ 0) ⊎ ((step_of m ram rom lines).stop ≡ 16) ⊎ ((step_of m ram rom lines).stop ≡ 17) ⊎ ((step_of m ram rom lines).stop ≡ 18)
  pub same_machine : ((step_of m ram rom lines).stop ≡ 0 → ⊥) → (step_of m ram rom lines).machine ≡ m
  pub same_ram : ((step_of m ram rom lines).stop ≡ 0 → ⊥) → (step_of m ram rom lines).ram ≡ ram
