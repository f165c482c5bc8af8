-- The range of a machine, refusal 4, in plain facts: what the test of a call accepts, field by field (N21 to N25).
use Rattle.std.specs.Prelude.{ℕ, ◌%◌, ◌^◌, ◌<◌, ◌≤◌, ◌≡◌, true, false, ◌↔◌, get_or}
use Rattle.std.specs.Int.Bits.{bit_and}
use Rattle.promise.specs.Bits.{bits}
use Rattle.tlb.specs.declared.Slot.{Slot}
use Rattle.tlb.specs.PageMask.{run, legal_mask}
use Rattle.tlb.specs.Slot.{slot_at, page}
use Rattle.cp0.specs.Registers.{kept_index, kept_entry_lo, kept_wired, kept_entry_hi, kept_context, kept_status, kept_cause}
use Rattle.cp0.specs.Moves.{built_status}
use Rattle.card.specs.declared.Machine.{Machine}
use Rattle.card.specs.Machine.{in_range}

-- a half of a slot: a frame number of 24 bits, C, D and V, and no G (N25)
pub record HalfFields (lo : ℕ) : Type 0 where
  pub frame_fits : lo < 2 ^ 30
  pub no_global : lo % 2 ≡ 0

-- a slot: a legal mask, a page number that is clear under it, G, and an ASID of 8 bits (N24, N25)
pub record SlotFields (s : Slot) : Type 0 where
  pub mask_legal : legal_mask s.mask ≡ true
  pub page_fits : s.hi < 2 ^ 32
  pub asid_fits : bits s.hi 8 4 ≡ 0
  pub page_clear : bit_and (page s.hi) (run s.mask) ≡ 0
  pub low_half : HalfFields s.lo0
  pub high_half : HalfFields s.lo1

-- a machine: where a register's kept bits are the register, no other bit of it is set
pub record Fields (m : Machine) : Type 0 where
  pub r0_zero : get_or m.regs 0 0 ≡ 0
  pub no_target : m.cpu.slot ≡ false → m.cpu.target ≡ 0
  pub index_kept : kept_index m.cp0.index ≡ m.cp0.index
  pub entrylo0_kept : kept_entry_lo m.cp0.entrylo0 ≡ m.cp0.entrylo0
  pub entrylo1_kept : kept_entry_lo m.cp0.entrylo1 ≡ m.cp0.entrylo1
  pub context_kept : kept_context m.cp0.context ≡ m.cp0.context
  pub wired_kept : kept_wired m.cp0.wired ≡ m.cp0.wired
  pub entryhi_kept : kept_entry_hi m.cp0.entryhi ≡ m.cp0.entryhi
  pub status_kept : kept_status m.cp0.status ≡ m.cp0.status
  pub status_built : built_status m.cp0.status ≡ true
  pub cause_kept : kept_cause m.cp0.cause ≡ m.cp0.cause
  pub prid_is : m.cp0.prid ≡ 0x0400
  pub config_least : 0x8000 ≤ m.cp0.config
  pub config_most : m.cp0.config ≤ 0x8007
  pub random_most : m.cp0.random ≤ 47
  pub random_least : m.cp0.wired ≤ 47 → m.cp0.wired ≤ m.cp0.random
  pub mask_legal : legal_mask m.cp0.pagemask ≡ true
  pub slots : (i : ℕ) → i < 48 → SlotFields (slot_at m.tlb i)

-- of every machine: the test of refusal 4 passes just where each field is in its range
abbrev pub RangeMeans : Type 0
RangeMeans = (m : Machine) → (in_range m ≡ true) ↔ Fields m
