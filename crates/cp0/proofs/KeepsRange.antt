-- Whatever a step does to the registers, it leaves them in range: each law for one thing that it does.
use Rattle.std.proofs.Common.{Option, None, Some, ◌≡◌, ℕ, ◌+◌, ◌*◌, ◌/◌, ◌%◌, ◌^◌, ◌<◌, Bool, true, sym, refl, subst, arith, eq-eqb}
use lib.Count.{ones, ones_in, count_trailing_zeros}
use Rattle.promise.specs.Bits.{bits}
use Rattle.memory.specs.declared.PAddr.{PAddr}
use Rattle.tlb.specs.PageMask.{legal_mask, trailing_ones}
use Rattle.cp0.specs.declared.Cp0.{Cp0}
use Rattle.cp0.specs.declared.Bad.{Bad}
use Rattle.cp0.specs.declared.Bad.TheVariants.{Address, Page}
use Rattle.cp0.specs.declared.Exception.{Exception}
use Rattle.cp0.specs.Registers.{Index, BadVAddr, Context, EntryHi, Status, Cause, EPC, LLAddr, set, low, only, replaced, kept_index, fresh, linked, probed}
use Rattle.cp0.specs.Exceptions.{told, bd_after, cause_after, epc_after, addressed, entered, status_returned, returned}
use Rattle.cp0.specs.Range.{random_in_range, status_in_range, config_in_range, entries_in_range, control_in_range, cp0_in_range}
use Rattle.cp0.specs.Moves.{built_status}
use Rattle.cp0.proofs.Fits.{told_fits, bd_fits}
use Rattle.cp0.proofs.KeptBits.{entryhi_page, context_page, cause_entered}
use Rattle.cp0.proofs.StatusRange.{status_entered, status_returned_lem}
use Rattle.cp0.proofs.InRange.{InRange, range_read, range_made, may, set_in}

-- the fresh machine's
pub fresh_in_range : cp0_in_range fresh ≡ true
unfolding cp0_in_range entries_in_range control_in_range random_in_range status_in_range config_in_range built_status fresh legal_mask trailing_ones ones ones_in count_trailing_zeros
fresh_in_range = refl

-- LL
pub linked_in_range : (c : Cp0) (p : PAddr) → cp0_in_range c ≡ true → cp0_in_range (linked c p) ≡ true
unfolding linked set may
linked_in_range c p h = let r = range_read c h in range_made (linked c p) (set_in c LLAddr (p.0 / 2 ^ 4 % 2 ^ 32) refl r.random_in r)

-- TLBP, which leaves the number of a slot or 80000000
pub index_found : (i : ℕ) → i < 48 → kept_index i ≡ i
index_found i h = omega arith

pub index_absent : kept_index 0x80000000 ≡ 0x80000000
index_absent = refl

pub probed_in_range : (c : Cp0) (i : ℕ) → kept_index i ≡ i → cp0_in_range c ≡ true → cp0_in_range (probed c i) ≡ true
unfolding probed set may
probed_in_range c i k h =
    let r = range_read c h in
    let small : low i ≡ i = omega arith in
    range_made (probed c i) (set_in c Index (low i) (eq-eqb (kept_index (low i)) (low i) (subst (λ (x : ℕ). kept_index x ≡ x) (sym small) k)) r.random_in r)

-- ERET
pub returned_in_range : (c : Cp0) → cp0_in_range c ≡ true → cp0_in_range (returned c) ≡ true
unfolding returned set may
returned_in_range c h =
    let r = range_read c h in
    range_made (returned c) (set_in c Status (status_returned c.status) (status_returned_lem c.status r.status_in) r.random_in r)

-- the address of an exception
addressed_in : (c : Cp0) (b : Option Bad) → InRange c → InRange (addressed c b)
unfolding addressed set may
addressed_in c None r = r
addressed_in c (Some (Address v)) r = set_in c BadVAddr v.0 refl r.random_in r
addressed_in c (Some (Page v)) r =
    set_in (set (set c BadVAddr v.0) Context (only c.context 23 41 + bits v.0 13 19 * 2 ^ 4)) EntryHi (only v.0 13 19 + c.entryhi % 2 ^ 8) (eq-eqb _ _ (entryhi_page v.0 c.entryhi)) r.random_in
    (set_in (set c BadVAddr v.0) Context (only c.context 23 41 + bits v.0 13 19 * 2 ^ 4) (eq-eqb _ _ (context_page v.0 c.context)) r.random_in
    (set_in c BadVAddr v.0 refl r.random_in r))

-- an exception
pub entered_in_range : (c : Cp0) (pc : ℕ) (slot : Bool) (e : Exception) → cp0_in_range c ≡ true → cp0_in_range (entered c pc slot e) ≡ true
unfolding entered set may
entered_in_range c pc slot e h =
    let r = range_read c h in
    let epc = epc_after c.status c.epc pc slot in
    let cause = cause_after c.cause (told e).code (told e).unit (bd_after c.status c.cause slot) in
    range_made (entered c pc slot e)
    (addressed_in (set (set (set c EPC epc) Cause cause) Status (replaced c.status 1 1 1)) (told e).bad
    (set_in (set (set c EPC epc) Cause cause) Status (replaced c.status 1 1 1) (status_entered c.status r.status_in) r.random_in
    (set_in (set c EPC epc) Cause cause (eq-eqb _ _ (cause_entered c.cause r.cause_in (told e).code (told e).unit (bd_after c.status c.cause slot) (told_fits e).0 (told_fits e).1 (bd_fits c.status c.cause slot))) r.random_in
    (set_in c EPC epc refl r.random_in r))))
