-- Worked examples, which hold of the definitions by computation.
use Rattle.std.specs.Prelude.{◌≡◌, true, false, Err, refl}
use Rattle.std.specs.Int.Count.{ones, ones_in, count_trailing_zeros}
use Rattle.tlb.specs.PageMask.{legal_mask, trailing_ones}
use Rattle.tlb.specs.declared.Mode.TheVariants.{User, Kernel, Error}
use Rattle.cp0.specs.declared.Exception.TheVariants.{Int, TLBL, CpU}
use Rattle.cp0.specs.Registers.{fresh}
use Rattle.cp0.specs.Status.{user, mode_of, cause_read, interrupted}
use Rattle.cp0.specs.Moves.{built_status, not_built, check_move}
use Rattle.cp0.specs.Exceptions.{told, offset, vector, epc_after, bd_after, cause_after}

-- with EXL clear, EPC names the branch of a slot; with EXL set it stays (T25, X3)
slot_epc : epc_after 0x00000000 0 0x80000104 true ≡ 0x80000100
unfolding epc_after
slot_epc = refl

kept_epc : epc_after 0x00000002 0x80000100 0x80000200 true ≡ 0x80000100
unfolding epc_after
kept_epc = refl

-- Coprocessor Unusable 1 in a slot: BD, CE 1 and code 11, from Cause 0 (T19, T23)
unusable : cause_after 0 (told (CpU 1)).code (told (CpU 1)).unit (bd_after 0 0 true) ≡ 0x9000002c
unfolding told cause_after bd_after
unusable = refl

-- a refill goes to offset 000 with EXL clear and to 180 with EXL set; the fresh machine's exceptions go to the boot ROM (T24, X2)
refill_first : vector 0x00000000 (TLBL (record { 0 = 0 }) true) ≡ 0xffffffff80000000
unfolding vector offset told
refill_first = refl

refill_again : vector 0x00000002 (TLBL (record { 0 = 0 }) true) ≡ 0xffffffff80000180
unfolding vector offset told
refill_again = refl

boot : vector fresh.status Int ≡ 0xffffffffbfc00380
unfolding vector offset told fresh
boot = refl

-- the fresh machine has ERL set; KSU 2 is User mode, and Kernel mode under EXL (D4, D5)
fresh_mode : mode_of fresh.status ≡ Error
unfolding mode_of user fresh
fresh_mode = refl

user_mode : mode_of 0x00000010 ≡ User
unfolding mode_of user
user_mode = refl

kernel_mode : mode_of 0x00000012 ≡ Kernel
unfolding mode_of user
kernel_mode = refl

-- line 1, which is IP3, interrupts where IM has it and IE is set (S2)
line_taken : interrupted 0x00000801 0 2 ≡ true
unfolding interrupted cause_read
line_taken = refl

line_masked : interrupted 0x00001001 0 2 ≡ false
unfolding interrupted cause_read
line_masked = refl

-- a Status move that sets KX is not built, nor is PageMask 00002000 (T1, T20)
kx_not : check_move 12 0x00000080 ≡ Err not_built
unfolding check_move built_status
kx_not = refl

mask_not : check_move 5 0x00002000 ≡ Err not_built
unfolding check_move legal_mask trailing_ones ones ones_in count_trailing_zeros
mask_not = refl
