-- Moves from and to the registers, and the moves that are not built.
use Rattle.std.specs.Prelude.{ℕ, ◌+◌, ◌*◌, ◌/◌, ◌%◌, ◌^◌, Bool, ◌==◌, Result, Ok, Err}
use Rattle.promise.specs.Pick.{pick, both, either, not}
use Rattle.promise.specs.Bits.{bits}
use Rattle.word.specs.Word.{extend}
use Rattle.tlb.specs.PageMask.{legal_mask}
use Rattle.cp0.specs.declared.Cp0.{Cp0}
use Rattle.cp0.specs.declared.NotBuilt.{NotBuilt}
use Rattle.cp0.specs.Registers.{Index, Random, EntryLo0, EntryLo1, Context, PageMask, Wired, BadVAddr, Count, EntryHi, Compare, Status, Cause, EPC, PRId, Config, LLAddr, TagLo, TagHi, ErrorEPC, set, low, only, replaced, cleared, kept_index, kept_entry_lo, kept_wired, kept_entry_hi, kept_status}
use Rattle.cp0.specs.Status.{KSU, cause_read}

-- the 32-bit register n; one that is not kept reads 0, and Cause's IP6..2 read as the lines (T12, T13, T18)
unfoldable pub word_of : Cp0 → ℕ → ℕ → ℕ
word_of c lines n =
    pick (n == Index) c.index
    (pick (n == Random) c.random
    (pick (n == EntryLo0) c.entrylo0
    (pick (n == EntryLo1) c.entrylo1
    (pick (n == PageMask) c.pagemask
    (pick (n == Wired) c.wired
    (pick (n == Count) c.count
    (pick (n == EntryHi) (low c.entryhi)
    (pick (n == Compare) c.compare
    (pick (n == Status) c.status
    (pick (n == Cause) (cause_read c.cause lines)
    (pick (n == PRId) c.prid
    (pick (n == Config) c.config
    (pick (n == LLAddr) c.lladdr
    (pick (n == TagLo) c.taglo
    (pick (n == TagHi) c.taghi
    0)))))))))))))))

-- what a doubleword move takes from register n: four have 64 bits, the others are sign-extended (T13, T15)
unfoldable pub move_out : Cp0 → ℕ → ℕ → ℕ
move_out c lines n =
    pick (n == Context) c.context
    (pick (n == BadVAddr) c.badvaddr
    (pick (n == EPC) c.epc
    (pick (n == ErrorEPC) c.errorepc
    (extend (word_of c lines n)))))

-- a move of the word w to register n: Compare clears IP7 (S11), Cause takes IP1..0 and Config its three low bits (T17, T18, T20); others drop it (T12, T16)
unfoldable pub move_control : Cp0 → ℕ → ℕ → Cp0
move_control c n w =
    pick (n == Count) (set c Count w)
    (pick (n == Compare) (set (set c Compare w) Cause (cleared c.cause 15 1))
    (pick (n == Status) (set c Status (kept_status w))
    (pick (n == Cause) (set c Cause (replaced c.cause 8 2 (bits w 8 2)))
    (pick (n == Config) (set c Config (c.config / 2 ^ 3 * 2 ^ 3 + w % 2 ^ 3))
    (pick (n == TagLo) (set c TagLo w)
    (pick (n == TagHi) (set c TagHi w)
    c))))))

-- the same, first of the registers that go with the TLB (T14); Wired sets Random to 47 (S10)
unfoldable pub move_word : Cp0 → ℕ → ℕ → Cp0
move_word c n w =
    pick (n == Index) (set c Index (kept_index w))
    (pick (n == EntryLo0) (set c EntryLo0 (kept_entry_lo w))
    (pick (n == EntryLo1) (set c EntryLo1 (kept_entry_lo w))
    (pick (n == PageMask) (set c PageMask w)
    (pick (n == Wired) (set (set c Random 47) Wired (kept_wired w))
    (pick (n == EntryHi) (set c EntryHi (kept_entry_hi w))
    (move_control c n w))))))

-- a doubleword move to register n: Context keeps bits 22..4 as they were, and 32-bit registers take the low word (T13, T14)
unfoldable pub move_in : Cp0 → ℕ → ℕ → Cp0
move_in c n v =
    pick (n == Context) (set c Context (only v 23 41 + only c.context 4 19))
    (pick (n == EPC) (set c EPC v)
    (pick (n == ErrorEPC) (set c ErrorEPC v)
    (move_word c n (low v))))

-- a Status value that is built: CU1 to CU3, RE, KX, SX and UX are clear and KSU is 0 or 2 (T20)
unfoldable pub built_status : ℕ → Bool
built_status w =
    both (bits w 29 3 == 0)
    (both (bits w 25 1 == 0)
    (both (bits w 5 3 == 0)
    (not (either (KSU w == 1) (KSU w == 3)))))

-- a move's value is not built
abbrev pub not_built : NotBuilt
not_built = record {}

-- a move of the value v to register n: of Status and PageMask some are not built, judged on the low word (N12, T1, T20)
unfoldable pub check_move : ℕ → ℕ → Result Unit NotBuilt
check_move n v =
    pick (n == Status) (pick (built_status (low v)) (Ok tt) (Err not_built))
    (pick (n == PageMask) (pick (legal_mask (low v)) (Ok tt) (Err not_built))
    (Ok tt))
