-- The kept registers: their numbers (document 000), the bits that each keeps, and how one of them is read and set.
use Rattle.std.specs.Prelude.{ℕ, ◌+◌, ◌*◌, ◌/◌, ◌%◌, ◌^◌, Bool, ◌==◌, nat_le}
use Rattle.promise.specs.Pick.{pick, both, either}
use Rattle.memory.specs.declared.PAddr.{PAddr}
use Rattle.tlb.specs.declared.Slot.{Slot}
use Rattle.cp0.specs.declared.Cp0.{Cp0}

-- the registers' numbers (C5, T11)
abbrev pub Index : ℕ
Index = 0

abbrev pub Random : ℕ
Random = 1

abbrev pub EntryLo0 : ℕ
EntryLo0 = 2

abbrev pub EntryLo1 : ℕ
EntryLo1 = 3

abbrev pub Context : ℕ
Context = 4

abbrev pub PageMask : ℕ
PageMask = 5

abbrev pub Wired : ℕ
Wired = 6

abbrev pub BadVAddr : ℕ
BadVAddr = 8

abbrev pub Count : ℕ
Count = 9

abbrev pub EntryHi : ℕ
EntryHi = 10

abbrev pub Compare : ℕ
Compare = 11

abbrev pub Status : ℕ
Status = 12

abbrev pub Cause : ℕ
Cause = 13

abbrev pub EPC : ℕ
EPC = 14

abbrev pub PRId : ℕ
PRId = 15

abbrev pub Config : ℕ
Config = 16

abbrev pub LLAddr : ℕ
LLAddr = 17

abbrev pub TagLo : ℕ
TagLo = 28

abbrev pub TagHi : ℕ
TagHi = 29

abbrev pub ErrorEPC : ℕ
ErrorEPC = 30

-- the registers that are kept: 0 to 6, 8 to 17, 28 to 30 (T11)
unfoldable pub kept? : ℕ → Bool
kept? n = either (nat_le n 6) (both (nat_le 8 n) (either (nat_le n 17) (both (nat_le 28 n) (nat_le n 30))))

-- the registers with register n holding v, and no other changed; a number that is not kept changes none (T12)
unfoldable pub set : Cp0 → ℕ → ℕ → Cp0
set c n v =
    record {
      index = pick (n == Index) v c.index;
      random = pick (n == Random) v c.random;
      entrylo0 = pick (n == EntryLo0) v c.entrylo0;
      entrylo1 = pick (n == EntryLo1) v c.entrylo1;
      context = pick (n == Context) v c.context;
      pagemask = pick (n == PageMask) v c.pagemask;
      wired = pick (n == Wired) v c.wired;
      badvaddr = pick (n == BadVAddr) v c.badvaddr;
      count = pick (n == Count) v c.count;
      entryhi = pick (n == EntryHi) v c.entryhi;
      compare = pick (n == Compare) v c.compare;
      status = pick (n == Status) v c.status;
      cause = pick (n == Cause) v c.cause;
      epc = pick (n == EPC) v c.epc;
      prid = pick (n == PRId) v c.prid;
      config = pick (n == Config) v c.config;
      lladdr = pick (n == LLAddr) v c.lladdr;
      taglo = pick (n == TagLo) v c.taglo;
      taghi = pick (n == TagHi) v c.taghi;
      errorepc = pick (n == ErrorEPC) v c.errorepc;
    }

-- the low word of a value
abbrev pub low : ℕ → ℕ
low x = x % 2 ^ 32

-- `many` bits of x from `at` up, in their place, and no others
abbrev pub only : ℕ → ℕ → ℕ → ℕ
only x at many = x / 2 ^ at % 2 ^ many * 2 ^ at

-- x with `many` bits from `at` up replaced by v
abbrev pub replaced : ℕ → ℕ → ℕ → ℕ → ℕ
replaced x at many v = x / 2 ^ (at + many) * 2 ^ (at + many) + v * 2 ^ at + x % 2 ^ at

-- x with `many` bits from `at` up clear
abbrev pub cleared : ℕ → ℕ → ℕ → ℕ
cleared x at many = x / 2 ^ (at + many) * 2 ^ (at + many) + x % 2 ^ at

-- Index keeps P, bit 31, and bits 5..0 (T14)
abbrev pub kept_index : ℕ → ℕ
kept_index x = only x 31 1 + x % 2 ^ 6

-- EntryLo keeps bits 29..0 (T14)
abbrev pub kept_entry_lo : ℕ → ℕ
kept_entry_lo x = x % 2 ^ 30

-- Wired keeps bits 5..0 (T14)
abbrev pub kept_wired : ℕ → ℕ
kept_wired x = x % 2 ^ 6

-- EntryHi keeps the page, bits 31..13, and the ASID, bits 7..0 (T14)
abbrev pub kept_entry_hi : ℕ → ℕ
kept_entry_hi x = only x 13 19 + x % 2 ^ 8

-- Context keeps bits 63..4: 63..23 are moved, 22..4 are an exception's (T14, T27)
abbrev pub kept_context : ℕ → ℕ
kept_context x = only x 4 60

-- Status keeps CU0, BEV, IM, KSU, ERL, EXL and IE (T20)
abbrev pub kept_status : ℕ → ℕ
kept_status x = only x 28 1 + only x 22 1 + only x 8 8 + x % 2 ^ 5

-- Cause keeps BD, CE, IP7, IP1..0 and ExcCode; IP6..2 are the lines and not stored (T18)
abbrev pub kept_cause : ℕ → ℕ
kept_cause x = only x 31 1 + only x 28 2 + only x 15 1 + only x 8 2 + only x 2 5

-- LL leaves physical bits 35..4 in LLAddr (A13)
unfoldable pub linked : Cp0 → PAddr → Cp0
linked c p = set c LLAddr (p.0 / 2 ^ 4 % 2 ^ 32)

-- TLBP leaves what it found in Index (T10)
unfoldable pub probed : Cp0 → ℕ → Cp0
probed c i = set c Index (low i)

-- TLBR leaves a slot in PageMask, EntryHi, EntryLo0 and EntryLo1 (T7)
unfoldable pub slot_read : Cp0 → Slot → Cp0
slot_read c s = set (set (set (set c PageMask (low s.mask)) EntryHi s.hi) EntryLo0 (low s.lo0)) EntryLo1 (low s.lo1)

-- of the fresh machine: Status 00400004, Random 47, Config 8000h, PRId 0400h, all else 0 (T16, T29)
unfoldable pub fresh : Cp0
fresh =
    record {
      index = 0;
      random = 47;
      entrylo0 = 0;
      entrylo1 = 0;
      context = 0;
      pagemask = 0;
      wired = 0;
      badvaddr = 0;
      count = 0;
      entryhi = 0;
      compare = 0;
      status = 0x00400004;
      cause = 0;
      epc = 0;
      prid = 0x0400;
      config = 0x8000;
      lladdr = 0;
      taglo = 0;
      taghi = 0;
      errorepc = 0;
    }
