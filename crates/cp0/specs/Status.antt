-- The fields of Status and Cause, the mode, and when an interrupt is taken.
use Rattle.std.specs.Prelude.{ℕ, ◌%◌, ◌^◌, Bool, ◌==◌, bit_and}
use Rattle.promise.specs.Pick.{pick, both, either, not}
use Rattle.promise.specs.Bits.{set?, bits}
use Rattle.tlb.specs.declared.Mode.{Mode}
use Rattle.tlb.specs.declared.Mode.TheVariants.{User, Kernel, Error}
use Rattle.cp0.specs.Registers.{replaced}

-- coprocessor 0 is usable in User mode too
abbrev pub CU0 : ℕ → Bool
CU0 status = set? status 28

-- exceptions go to the boot ROM
abbrev pub BEV : ℕ → Bool
BEV status = set? status 22

-- which of the eight interrupts are enabled
abbrev pub IM : ℕ → ℕ
IM status = bits status 8 8

-- the mode outside of exceptions: 0 Kernel, 2 User
abbrev pub KSU : ℕ → ℕ
KSU status = bits status 3 2

-- the processor is at the error level
abbrev pub ERL : ℕ → Bool
ERL status = set? status 2

-- the processor is at the exception level
abbrev pub EXL : ℕ → Bool
EXL status = set? status 1

-- interrupts are enabled
abbrev pub IE : ℕ → Bool
IE status = status % 2 == 1

-- User mode: KSU is 2 and neither EXL nor ERL is set (D5)
unfoldable pub user : ℕ → Bool
user status = both (KSU status == 2) (not (either (EXL status) (ERL status)))

-- User mode; Kernel mode, in which ERL has the low half unmapped (D4, D5, D7)
unfoldable pub mode_of : ℕ → Mode
mode_of status = pick (user status) User (pick (ERL status) Error Kernel)

-- Cause as it reads: IP6..2 are the lines (T18)
unfoldable pub cause_read : ℕ → ℕ → ℕ
cause_read cause lines = replaced cause 10 5 (lines % 2 ^ 5)

-- an interrupt is taken if IE is set, EXL and ERL are clear, and IM enables one of IP7..0 that is pending (house, S2, S3, S4)
unfoldable pub interrupted : ℕ → ℕ → ℕ → Bool
interrupted status cause lines =
    both (IE status)
    (both (not (either (EXL status) (ERL status)))
    (not (bit_and (IM status) (bits (cause_read cause lines) 8 8) == 0)))
