-- The twelve bench cards of document 01 as one table: one statement about the definitions of words, memory, TLB, CP0 and the step (B1).
use Rattle.std.specs.Prelude.{ℕ, ◌%◌, ◌<◌, ◌≡◌, Bool, true, false, List, ◌∷◌, length, get_or, Option, Some}
use Rattle.memory.specs.declared.PAddr.{PAddr}
use Rattle.memory.specs.declared.Eight.{Eight}
use Rattle.memory.specs.declared.Eight.TheVariants.{Ram}
use Rattle.memory.specs.Bytes.{eight_of}
use Rattle.memory.specs.Stores.{put_bytes}
use Rattle.memory.specs.StoreLaws.{Bytes}
use Rattle.tlb.specs.declared.VAddr.{VAddr}
use Rattle.tlb.specs.declared.Mode.{Mode}
use Rattle.tlb.specs.declared.Mode.TheVariants.{User, Error}
use Rattle.tlb.specs.declared.Slot.{Slot}
use Rattle.tlb.specs.declared.Where.TheVariants.{Mapped, Invalid}
use Rattle.tlb.specs.PageMask.{legal_mask}
use Rattle.tlb.specs.Slot.{slot, write, put_slot}
use Rattle.tlb.specs.Match.{matches_at}
use Rattle.tlb.specs.Translate.{vaddr, paddr, half_of}
use Rattle.tlb.specs.Segments.{aligned, translate}
use Rattle.cp0.specs.declared.Cp0.{Cp0}
use Rattle.cp0.specs.declared.Exception.TheVariants.{TLBL, TLBS, Ov}
use Rattle.cp0.specs.Exceptions.{entered}
use Rattle.decode.specs.declared.ArithmeticOp.TheVariants.{ADD, ADDU}
use Rattle.decode.specs.declared.MultiplyOp.TheVariants.{DMULTU, DIV}
use Rattle.decode.specs.declared.ShiftOp.TheVariants.{SRA}
use Rattle.decode.specs.declared.LoadOp.TheVariants.{LB, LBU, LWL}
use Rattle.decode.specs.declared.StoreOp.TheVariants.{SC}
use Rattle.flow.specs.declared.Act.TheVariants.{Write, HiLo, Raise}
use Rattle.execute.specs.Arithmetic.{arithmetic}
use Rattle.execute.specs.Multiply.{multiply}
use Rattle.execute.specs.Shifts.{shift}
use Rattle.execute.specs.LoadStore.{finish}
use Rattle.effect.specs.declared.Cpu.{Cpu}
use Rattle.access.specs.declared.Effect.{Effect}
use Rattle.access.specs.Access.{sent}
use Rattle.effect.specs.Step.{asked}
use Rattle.card.specs.Machine.{fresh}
use Rattle.card.specs.Step.{put_reg}

-- the registers and RAM after an effect
abbrev pub registers_after : List ℕ → Effect → List ℕ
registers_after regs e = put_reg regs e.reg e.value

abbrev pub ram_after : List ℕ → Effect → List ℕ
ram_after ram e = put_bytes ram e.store

-- the values of card 10: mask 0, EntryHi 00400001, EntryLo0 00000086 and EntryLo1 0
abbrev pub moved : Slot
moved = slot 0 0x00400001 0x00000086 0

-- a TLB once slot i is written with them
abbrev pub written : List ℕ → ℕ → List ℕ
written tlb i = put_slot tlb (Some (write i moved))

-- what card 10 takes for granted of an address v: it is aligned for the access, its segment is mapped (ERL is 0), and of the 48 slots none but i matches it
pub record Granted (mode : Mode) (tlb : List ℕ) (i align : ℕ) (v : VAddr) : Type 0 where
  pub full : length tlb ≡ 192
  pub there : i < 48
  pub fits : aligned align v ≡ true
  pub no_error : mode ≡ Error → ⊥
  pub no_other : (j : ℕ) → j < 48 → (j ≡ i → ⊥) → matches_at tlb 1 v j ≡ false

-- the cards; where one names no register, address, memory, slot, mode or CP0, it holds of every one
pub record Cards : Type 0 where
  -- 1. ADDU 7fffffff, 1: ffffffff80000000 (B2)
  pub card_1 : (rd : ℕ) → arithmetic ADDU 0x7fffffff 1 rd ≡ Write rd 0xffffffff80000000
  -- 2. ADD of these: Ov, rd kept, as is every register (B3)
  pub card_2 : (rd : ℕ) → arithmetic ADD 0x7fffffff 1 rd ≡ Raise Ov
  pub card_2_kept :
      (cpu : Cpu) (cp : Cp0) (regs tlb : List ℕ) (look : PAddr → Option Eight) (value rd : ℕ)
      → registers_after regs (asked cpu cp tlb look value (arithmetic ADD 0x7fffffff 1 rd)) ≡ regs
  -- 3. DMULTU of two ffffffffffffffff: HI fffffffffffffffe, LO 1 (B4)
  pub card_3 : multiply DMULTU 0xffffffffffffffff 0xffffffffffffffff ≡ HiLo 0xfffffffffffffffe 1
  -- 4. DIV −7 by 2: LO −3, HI −1 (B5)
  pub card_4 : multiply DIV 0xfffffffffffffff9 2 ≡ HiLo 0xffffffffffffffff 0xfffffffffffffffd
  -- 5. DIV ffffffff80000000 by −1: LO ffffffff80000000, HI 0 (B6)
  pub card_5 : multiply DIV 0xffffffff80000000 0xffffffffffffffff ≡ HiLo 0 0xffffffff80000000
  -- 6. SRA 80000000 by 31: all ones (B7)
  pub card_6 : (rd : ℕ) → shift SRA 0x80000000 31 rd ≡ Write rd 0xffffffffffffffff
  -- 7. LB of 80: ffffffffffffff80; LBU: 80; of the eight bytes that hold p, the one at p is 80 (B8)
  pub card_7 : (eight : List ℕ) (p : PAddr) (old : ℕ) → Bytes eight → get_or eight (p.0 % 8) 0 ≡ 0x80 → finish LB (eight_of eight) p old ≡ 0xffffffffffffff80
  pub card_7_unsigned : (eight : List ℕ) (p : PAddr) (old : ℕ) → Bytes eight → get_or eight (p.0 % 8) 0 ≡ 0x80 → finish LBU (eight_of eight) p old ≡ 0x80
  -- 8. LWL at address 1, memory 11 22 33 44, rt aabbccdd: 223344dd, whatever bytes follow (B9)
  pub card_8 : (others : List ℕ) → Bytes others → finish LWL (eight_of (0x11 ∷ 0x22 ∷ 0x33 ∷ 0x44 ∷ others)) (paddr 1) 0xaabbccdd ≡ 0x223344dd
  -- 9. PageMask 00006000 legal, 00002000 not (B10)
  pub card_9 : legal_mask 0x00006000 ≡ true
  pub card_9_not : legal_mask 0x00002000 ≡ false
  -- 10. with ASID 1, 00400123 goes to 2123; 00401000 is invalid (B11)
  pub card_10 :
      (mode : Mode) (tlb : List ℕ) (i align : ℕ)
      → Granted mode tlb i align (vaddr 0x00400123) → translate mode 1 (written tlb i) align (vaddr 0x00400123) ≡ Mapped (paddr 0x2123) (half_of i 0 0x86)
  pub card_10_invalid :
      (mode : Mode) (tlb : List ℕ) (i align : ℕ) → Granted mode tlb i align (vaddr 0x00401000) → translate mode 1 (written tlb i) align (vaddr 0x00401000) ≡ Invalid (half_of i 1 0)
  -- what they take for granted holds of the fresh machine's TLB, whichever slot is written
  pub card_10_fresh : (i : ℕ) → i < 48 → Granted User fresh.tlb i 1 (vaddr 0x00400123) × Granted User fresh.tlb i 1 (vaddr 0x00401000)
  -- 11. a refill at 00400123, of a load or fetch or of a store, from Context 0 gives Context 00002000 (B12)
  pub card_11 : (c : Cp0) (pc : ℕ) (slot : Bool) → c.context ≡ 0 → (entered c pc slot (TLBL (vaddr 0x00400123) true)).context ≡ 0x00002000
  pub card_11_store : (c : Cp0) (pc : ℕ) (slot : Bool) → c.context ≡ 0 → (entered c pc slot (TLBS (vaddr 0x00400123) true)).context ≡ 0x00002000
  -- 12. SC with the link bit clear: memory kept, rt 0 (B13)
  pub card_12 : (ram : List ℕ) (rt value n : ℕ) (p : PAddr) → ram_after ram (sent SC rt false value p (Some (Ram n))) ≡ ram
  pub card_12_rt : (rt value n : ℕ) (p : PAddr) → ((sent SC rt false value p (Some (Ram n))).reg ≡ rt) × ((sent SC rt false value p (Some (Ram n))).value ≡ 0)
