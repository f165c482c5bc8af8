-- The data access of a step: address error, refill or stop 16, invalid, modified, bus error, in this order (S7).
-- `look` is memory: from a physical address to its eight bytes.
use Rattle.std.specs.Prelude.{ℕ, Bool, true, false, Option, Some, None}
use Rattle.promise.specs.Pick.{pick}
use Rattle.memory.specs.declared.PAddr.{PAddr}
use Rattle.memory.specs.declared.Eight.{Eight}
use Rattle.memory.specs.declared.Eight.TheVariants.{Ram, Rom}
use Rattle.memory.specs.declared.Store.{Store}
use Rattle.tlb.specs.declared.VAddr.{VAddr}
use Rattle.tlb.specs.declared.Where.{Where}
use Rattle.tlb.specs.declared.Where.TheVariants.{Mapped, Unmapped, Invalid, Refill, Double, AddressError}
use Rattle.cp0.specs.declared.Exception.TheVariants.{Mod, TLBL, TLBS, AdEL, AdES, DBE}
use Rattle.decode.specs.declared.LoadOp.{LoadOp}
use Rattle.decode.specs.declared.LoadOp.TheVariants.{LB, LBU, LH, LHU, LW, LWU, LD, LWL, LWR, LDL, LDR, LL, LLD}
use Rattle.decode.specs.declared.StoreOp.{StoreOp}
use Rattle.decode.specs.declared.StoreOp.TheVariants.{SB, SH, SW, SD, SWL, SWR, SDL, SDR, SC, SCD}
use Rattle.execute.specs.LoadStore.{finish, goes_out}
use Rattle.access.specs.declared.Turn.{Turn}
use Rattle.access.specs.declared.Turn.TheVariants.{Next, Link}
use Rattle.access.specs.declared.Stop.TheVariants.{DoubleMatch}
use Rattle.access.specs.declared.Effect.{Effect}
use Rattle.access.specs.Effect.{effects, raised, stopped}

-- LL and LLD set the link bit and LLAddr (A13)
unfoldable pub linking : LoadOp → PAddr → Turn
linking LL p = Link p
linking LLD p = Link p
linking LB p = Next
linking LBU p = Next
linking LH p = Next
linking LHU p = Next
linking LW p = Next
linking LWU p = Next
linking LD p = Next
linking LWL p = Next
linking LWR p = Next
linking LDL p = Next
linking LDR p = Next

-- the eight bytes that a load found, or a bus error (D9)
unfoldable pub got : LoadOp → ℕ → ℕ → PAddr → Option Eight → Effect
got op reg old p (Some (Ram n)) = effects (linking op p) reg (finish op n p old) None None None
got op reg old p (Some (Rom n)) = effects (linking op p) reg (finish op n p old) None None None
got op reg old p None = raised DBE

-- a load, once its address is translated
unfoldable pub loaded : LoadOp → ℕ → ℕ → VAddr → (PAddr → Option Eight) → Where → Effect
loaded op reg old v look (Mapped p h) = got op reg old p (look p)
loaded op reg old v look (Unmapped p) = got op reg old p (look p)
loaded op reg old v look (Invalid h) = raised (TLBL v false)
loaded op reg old v look Refill = raised (TLBL v true)
loaded op reg old v look Double = stopped DoubleMatch
loaded op reg old v look AddressError = raised (AdEL v)

-- the link bit as SC writes it to rt
abbrev pub link_bit : Bool → ℕ
link_bit b = pick b 1 0

-- what SC and SCD let out to memory
abbrev pub if_linked : Bool → Store → Option Store
if_linked b s = pick b (Some s) None

-- SC and SCD store only if the link bit is set, and write the bit to rt; every other store just stores (A14)
unfoldable pub sending : StoreOp → ℕ → Bool → Store → Effect
sending SC reg link s = effects Next reg (link_bit link) None (if_linked link s) None
sending SCD reg link s = effects Next reg (link_bit link) None (if_linked link s) None
sending SB reg link s = effects Next 0 0 None (Some s) None
sending SH reg link s = effects Next 0 0 None (Some s) None
sending SW reg link s = effects Next 0 0 None (Some s) None
sending SD reg link s = effects Next 0 0 None (Some s) None
sending SWL reg link s = effects Next 0 0 None (Some s) None
sending SWR reg link s = effects Next 0 0 None (Some s) None
sending SDL reg link s = effects Next 0 0 None (Some s) None
sending SDR reg link s = effects Next 0 0 None (Some s) None

-- a store goes to RAM; to ROM and elsewhere it is a bus error (D9)
unfoldable pub sent : StoreOp → ℕ → Bool → ℕ → PAddr → Option Eight → Effect
sent op reg link value p (Some (Ram n)) = sending op reg link (goes_out op p value)
sent op reg link value p (Some (Rom n)) = raised DBE
sent op reg link value p None = raised DBE

-- a store, once its address is translated
unfoldable pub saved : StoreOp → ℕ → Bool → ℕ → VAddr → (PAddr → Option Eight) → Where → Effect
saved op reg link value v look (Mapped p h) = pick h.dirty (sent op reg link value p (look p)) (raised (Mod v))
saved op reg link value v look (Unmapped p) = sent op reg link value p (look p)
saved op reg link value v look (Invalid h) = raised (TLBS v false)
saved op reg link value v look Refill = raised (TLBS v true)
saved op reg link value v look Double = stopped DoubleMatch
saved op reg link value v look AddressError = raised (AdES v)
