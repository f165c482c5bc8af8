-- The range of the registers: what a machine may hold that a call accepts.
use Rattle.std.specs.Prelude.{ℕ, Bool, true, ◌==◌, nat_le}
use Rattle.promise.specs.Pick.{pick, both}
use Rattle.tlb.specs.PageMask.{legal_mask}
use Rattle.cp0.specs.declared.Cp0.{Cp0}
use Rattle.cp0.specs.Registers.{kept_index, kept_entry_lo, kept_wired, kept_entry_hi, kept_context, kept_status, kept_cause}
use Rattle.cp0.specs.Moves.{built_status}

-- Random is at most 47 and, when Wired is at most 47, at least Wired (N24)
unfoldable pub random_in_range : ℕ → ℕ → Bool
random_in_range random wired = both (nat_le random 47) (pick (nat_le wired 47) (nat_le wired random) true)

-- no bit is set that Status doesn't keep, and it is no value that 18 names (N21, N23)
unfoldable pub status_in_range : ℕ → Bool
status_in_range status = both (kept_status status == status) (built_status status)

-- Config is 8000h to 8007h (N23)
unfoldable pub config_in_range : ℕ → Bool
config_in_range config = both (nat_le 0x8000 config) (nat_le config 0x8007)

-- of the registers that go with the TLB no bit is set that is not kept, and the mask is legal (N21, N24)
unfoldable pub entries_in_range : Cp0 → Bool
entries_in_range c =
    both (kept_index c.index == c.index)
    (both (kept_entry_lo c.entrylo0 == c.entrylo0)
    (both (kept_entry_lo c.entrylo1 == c.entrylo1)
    (both (kept_context c.context == c.context)
    (both (kept_wired c.wired == c.wired)
    (both (kept_entry_hi c.entryhi == c.entryhi)
    (legal_mask c.pagemask))))))

-- and of the others; PRId is 0400h (N21, N22)
unfoldable pub control_in_range : Cp0 → Bool
control_in_range c =
    both (random_in_range c.random c.wired)
    (both (status_in_range c.status)
    (both (kept_cause c.cause == c.cause)
    (both (config_in_range c.config)
    (c.prid == 0x0400))))

-- the registers are in range; BadVAddr, Count, Compare, LLAddr, the tags and the EPCs keep all their bits (N21 to N25)
unfoldable pub cp0_in_range : Cp0 → Bool
cp0_in_range c = both (entries_in_range c) (control_in_range c)
