-- The exceptions of one step, each exactly in its case over the stages of the step's definition, in the order of its checks (S1, S2, S5 to S7).
use Rattle.std.specs.Prelude.{ℕ, ◌≡◌, Bool, true, false, List, ◌↔◌, Option, Some, None, Result, Ok, Err}
use Rattle.promise.specs.Pick.{both}
use Rattle.memory.specs.declared.PAddr.{PAddr}
use Rattle.memory.specs.declared.Eight.{Eight}
use Rattle.memory.specs.declared.Eight.TheVariants.{Rom}
use Rattle.memory.specs.Memory.{read}
use Rattle.tlb.specs.declared.VAddr.{VAddr}
use Rattle.tlb.specs.declared.Half.{Half}
use Rattle.tlb.specs.declared.Where.{Where}
use Rattle.tlb.specs.declared.Where.TheVariants.{Mapped, Unmapped, Invalid, Refill, AddressError}
use Rattle.tlb.specs.Translate.{vaddr}
use Rattle.cp0.specs.declared.Exception.{Exception}
use Rattle.cp0.specs.declared.Exception.TheVariants.{Int, Mod, TLBL, TLBS, AdEL, AdES, IBE, DBE, Sys, Bp, RI, CpU, Ov, Tr}
use Rattle.cp0.specs.Status.{CU0, user, interrupted}
use Rattle.decode.specs.declared.Instr.{Instr}
use Rattle.decode.specs.declared.Undecoded.{Undecoded}
use Rattle.decode.specs.declared.Undecoded.TheVariants.{Coprocessor, ReservedCop0, Reserved}
use Rattle.decode.specs.declared.LoadOp.{LoadOp}
use Rattle.decode.specs.declared.StoreOp.{StoreOp}
use Rattle.usability.specs.Doubleword.{is_double}
use Rattle.decode.specs.Decode.{decode}
use Rattle.usability.specs.Ready.{is_cp0, locked}
use Rattle.flow.specs.declared.Act.TheVariants.{Load, Store, Raise}
use Rattle.execute.specs.declared.Executed.TheVariants.{Plain}
use Rattle.execute.specs.LoadStore.{load_align, store_align}
use Rattle.access.specs.declared.Turn.TheVariants.{Enter}
use Rattle.effect.specs.After.{cpu_after, cp0_after}
use Rattle.card.specs.declared.Machine.{Machine}
use Rattle.card.specs.Machine.{machine}
use Rattle.card.specs.Step.{out, step_of}
use Rattle.demands.specs.StepStops.{goes, effect, Fetches, LeadsTo, Brings, Executes}

-- an address that is fetched or loaded from does not lead on: address error, refill, invalid (S5, S7)
pub data ReadFault (v : VAddr) : Where → Exception → Type 0 where
  address : ReadFault v AddressError (AdEL v)
  refill : ReadFault v Refill (TLBL v true)
  invalid : {h : Half} → ReadFault v (Invalid h) (TLBL v false)

-- nor one that is stored to: these, and modified, where the half's D is clear (S7)
pub data WriteFault (v : VAddr) : Where → Exception → Type 0 where
  address : WriteFault v AddressError (AdES v)
  refill : WriteFault v Refill (TLBS v true)
  invalid : {h : Half} → WriteFault v (Invalid h) (TLBS v false)
  modified : {p : PAddr} {h : Half} → h.dirty ≡ false → WriteFault v (Mapped p h) (Mod v)

-- a store may go to a physical address: unmapped, or the half's D is set
pub data MayStore : Where → PAddr → Type 0 where
  mapped : {p : PAddr} {h : Half} → h.dirty ≡ true → MayStore (Mapped p h) p
  unmapped : {p : PAddr} → MayStore (Unmapped p) p

-- RAM does not have the place: ROM has it, or nothing does (D9)
pub data NoRam : Option Eight → Type 0 where
  rom : {n : ℕ} → NoRam (Some (Rom n))
  missing : NoRam None

-- a decoded word, in User mode or not and with CU0 or not, needs a unit that cannot be used: CP1 and CP2 never can, CP0 not while it is locked (S6, S15, T21)
pub data Unusable (u cu0 : Bool) : Result Instr Undecoded → ℕ → Type 0 where
  coprocessor : {unit : ℕ} → Unusable u cu0 (Err (Coprocessor unit)) unit
  cp0 : {i : Instr} → locked u cu0 ≡ true → is_cp0 i ≡ true → Unusable u cu0 (Ok i) 0
  code_unusable : locked u cu0 ≡ true → Unusable u cu0 (Err ReservedCop0) 0

-- it is usable and reserved: no instruction, no code of COP0, or a doubleword instruction or LWU in User mode (S6, S14, S16, D11)
pub data IsReserved (u cu0 : Bool) : Result Instr Undecoded → Type 0 where
  no_instruction : IsReserved u cu0 (Err Reserved)
  code_reserved : locked u cu0 ≡ false → IsReserved u cu0 (Err ReservedCop0)
  doubleword : {i : Instr} → both (locked u cu0) (is_cp0 i) ≡ false → u ≡ true → is_double i ≡ true → IsReserved u cu0 (Ok i)

-- the exceptions of instructions that ask memory for nothing: overflow, trap, system call, breakpoint (S7)
pub data OfExecute : Exception → Type 0 where
  overflow : OfExecute Ov
  trap : OfExecute Tr
  system_call : OfExecute Sys
  breakpoint : OfExecute Bp

-- what a step raises
pub data Raises (m : Machine) (ram rom : List ℕ) (lines : ℕ) : Exception → Type 0 where
  interrupt : interrupted m.cp0.status m.cp0.cause lines ≡ true → Raises m ram rom lines Int
  fetch_fault : {e : Exception} → Fetches m lines → ReadFault (vaddr m.cpu.pc) (goes m 4 (vaddr m.cpu.pc)) e → Raises m ram rom lines e
  fetch_bus : (p : PAddr) → Fetches m lines → LeadsTo (goes m 4 (vaddr m.cpu.pc)) p → read ram rom p ≡ None → Raises m ram rom lines IBE
  unusable : (w unit : ℕ) → Brings m ram rom lines w → Unusable (user m.cp0.status) (CU0 m.cp0.status) (decode w) unit → Raises m ram rom lines (CpU unit)
  reserved : (w : ℕ) → Brings m ram rom lines w → IsReserved (user m.cp0.status) (CU0 m.cp0.status) (decode w) → Raises m ram rom lines RI
  executed : {e : Exception} → OfExecute e → Executes m ram rom lines (Plain (Raise e)) → Raises m ram rom lines e
  load_fault : {e : Exception} (op : LoadOp) (reg : ℕ) (at : VAddr) → Executes m ram rom lines (Plain (Load op reg at)) → ReadFault at (goes m (load_align op) at) e → Raises m ram rom lines e
  load_bus : (op : LoadOp) (reg : ℕ) (at : VAddr) (p : PAddr) → Executes m ram rom lines (Plain (Load op reg at)) → LeadsTo (goes m (load_align op) at) p → read ram rom p ≡ None → Raises m ram rom lines DBE
  store_fault : {e : Exception} (op : StoreOp) (reg : ℕ) (at : VAddr) → Executes m ram rom lines (Plain (Store op reg at)) → WriteFault at (goes m (store_align op) at) e → Raises m ram rom lines e
  store_bus : (op : StoreOp) (reg : ℕ) (at : VAddr) (p : PAddr) → Executes m ram rom lines (Plain (Store op reg at)) → MayStore (goes m (store_align op) at) p → NoRam (read ram rom p) → Raises m ram rom lines DBE

-- of every step: it enters an exception just in that exception's case, and then writes no register, no slot and no byte, but only Cpu and CP0, as the exception's entry has them
pub record StepRaises (m : Machine) (ram rom : List ℕ) (lines : ℕ) : Type 0 where
  pub enters : (e : Exception) → ((effect m ram rom lines).turn ≡ Enter e) ↔ Raises m ram rom lines e
  pub leaves :
      (e : Exception) → Raises m ram rom lines e
      → step_of m ram rom lines ≡ out (machine (cpu_after m.cpu m.cp0 (Enter e)) (cp0_after m.cpu.pc m.cpu.slot m.cp0 (Enter e)) m.regs m.tlb) ram 0
