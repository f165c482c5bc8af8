-- The entry of an exception, its vector, and the return from it.
use Rattle.std.specs.Prelude.{◌≡◌, ℕ, ◌+◌, ◌-◌, ◌*◌, ◌%◌, ◌^◌, ◌<◌, Bool, false, Option, None, Some}
use Rattle.std.proofs.Common.{arith}
use Rattle.promise.specs.Pick.{pick, both, not}
use Rattle.promise.specs.Bits.{bit, bits}
use Rattle.cp0.specs.declared.Cp0.{Cp0}
use Rattle.cp0.specs.declared.Bad.{Bad}
use Rattle.cp0.specs.declared.Bad.TheVariants.{Address, Page}
use Rattle.cp0.specs.declared.Told.{Told}
use Rattle.cp0.specs.declared.Exception.{Exception}
use Rattle.cp0.specs.declared.Exception.TheVariants.{Int, Mod, TLBL, TLBS, AdEL, AdES, IBE, DBE, Sys, Bp, RI, CpU, Ov, Tr}
use Rattle.cp0.specs.Registers.{Context, BadVAddr, EntryHi, Status, Cause, EPC, set, only, replaced, cleared}
use Rattle.cp0.specs.Status.{BEV, ERL, EXL}

abbrev pub tells : ℕ → ℕ → Bool → Option Bad → Told
tells n u r b = record { code = n; unit = u; refill = r; bad = b }

-- of each exception its code (T22, T23), the unit that CE names (house, T19), whether it is a refill (T24), and the address that it leaves (T27)
unfoldable pub told : Exception → Told
told Int = tells 0 0 false None
told (Mod v) = tells 1 0 false (Some (Page v))
told (TLBL v refill) = tells 2 0 refill (Some (Page v))
told (TLBS v refill) = tells 3 0 refill (Some (Page v))
told (AdEL v) = tells 4 0 false (Some (Address v))
told (AdES v) = tells 5 0 false (Some (Address v))
told IBE = tells 6 0 false None
told DBE = tells 7 0 false None
told Sys = tells 8 0 false None
told Bp = tells 9 0 false None
told RI = tells 10 0 false None
told (CpU unit) = tells 11 (unit % 4) false None
told Ov = tells 12 0 false None
told Tr = tells 13 0 false None

-- the branch before a slot at pc: four bytes back, wrapping at 2^64 (T25)
abbrev pub branch_of : ℕ → ℕ
branch_of pc = (pc + (2 ^ 64 - 4)) % 2 ^ 64

-- the instruction after that branch is the slot
pub after_branch : (pc : ℕ) → pc < 2 ^ 64 → (branch_of pc + 4) % 2 ^ 64 ≡ pc
after_branch pc h = omega arith

-- EPC: it stays while EXL is set; else the branch if the step stood in a slot, else PC (T25)
unfoldable pub epc_after : ℕ → ℕ → ℕ → Bool → ℕ
epc_after status epc pc slot = pick (EXL status) epc (pick slot (branch_of pc) pc)

-- BD: it stays while EXL is set; else whether the step stood in a slot (T25)
unfoldable pub bd_after : ℕ → ℕ → Bool → ℕ
bd_after status cause slot = pick (EXL status) (bit cause 31) (pick slot 1 0)

-- Cause with ExcCode, CE and BD (T19, T23, T25)
unfoldable pub cause_after : ℕ → ℕ → ℕ → ℕ → ℕ
cause_after cause code unit bd = bd * 2 ^ 31 + replaced (replaced cause 2 5 code) 28 2 unit % 2 ^ 31

-- what an address leaves: BadVAddr always; Context 22..4 and EntryHi's page are only a TLB exception's, and both are bits 31..13 (T27)
unfoldable pub addressed : Cp0 → Option Bad → Cp0
addressed c None = c
addressed c (Some (Address v)) = set c BadVAddr v.0
addressed c (Some (Page v)) =
    set (set (set c BadVAddr v.0) Context (only c.context 23 41 + bits v.0 13 19 * 2 ^ 4))
    EntryHi
    (only v.0 13 19 + c.entryhi % 2 ^ 8)

-- the registers after an exception at pc; EXL becomes 1 (T26)
unfoldable pub entered : Cp0 → ℕ → Bool → Exception → Cp0
entered c pc slot e =
    addressed
    (set (set (set c EPC (epc_after c.status c.epc pc slot)) Cause (cause_after c.cause (told e).code (told e).unit (bd_after c.status c.cause slot))) Status (replaced c.status 1 1 1))
    (told e).bad

-- the vector's offset: 000 for a refill found with EXL clear, else 180 (T24)
unfoldable pub offset : ℕ → Bool → ℕ
offset status refill = pick (both refill (not (EXL status))) 0x000 0x180

-- where an exception goes: the base is BFC00200 with BEV set, else 80000000, both sign-extended (T24)
unfoldable pub vector : ℕ → Exception → ℕ
vector status e = pick (BEV status) 0xffffffffbfc00200 0xffffffff80000000 + offset status (told e).refill

-- ERET goes to ErrorEPC with ERL set, otherwise to EPC (A17)
unfoldable pub return_to : Cp0 → ℕ
return_to c = pick (ERL c.status) c.errorepc c.epc

-- and clears ERL, otherwise EXL (A17)
unfoldable pub status_returned : ℕ → ℕ
status_returned status = pick (ERL status) (cleared status 2 1) (cleared status 1 1)

-- the registers after ERET
unfoldable pub returned : Cp0 → Cp0
returned c = set c Status (status_returned c.status)
