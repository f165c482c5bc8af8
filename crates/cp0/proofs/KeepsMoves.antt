-- A move of a value that is built leaves the registers in range.
use Rattle.std.proofs.Common.{◌≡◌, Result, Ok, Err, ℕ, ◌+◌, ◌*◌, ◌/◌, ◌%◌, ◌^◌, Bool, true, false, eqb, sym, refl, ap, ◌∙◌, subst, arith, eq-eqb, eqb-true}
use Rattle.promise.specs.Pick.{pick}
use Rattle.promise.specs.Bits.{bits}
use Rattle.tlb.specs.PageMask.{legal_mask}
use Rattle.cp0.specs.declared.Cp0.{Cp0}
use Rattle.cp0.specs.declared.NotBuilt.{NotBuilt}
use Rattle.cp0.specs.Registers.{Index, Random, EntryLo0, EntryLo1, Context, PageMask, Wired, Count, EntryHi, Compare, Status, Cause, EPC, Config, TagLo, TagHi, ErrorEPC, set, low, only, replaced, cleared, kept_index, kept_entry_lo, kept_wired, kept_entry_hi, kept_status}
use Rattle.cp0.specs.Moves.{move_control, move_word, move_in, built_status, not_built, check_move}
use Rattle.cp0.specs.Range.{config_in_range, cp0_in_range}
use Rattle.cp0.proofs.KeptBits.{index_kept, entrylo_kept, wired_kept, entryhi_kept, context_moved, cause_untimed, cause_moved}
use Rattle.cp0.proofs.StatusRange.{status_moved}
use Rattle.cp0.proofs.KeepsRandom.{top_in}
use Rattle.cp0.proofs.InRange.{InRange, range_read, range_made, may, set_in}

-- Config with three new low bits
config_moved : (x w : ℕ) → config_in_range x ≡ true → config_in_range (x / 2 ^ 3 * 2 ^ 3 + w % 2 ^ 3) ≡ true
unfolding config_in_range
config_moved x w h = grind arith

-- by the number: at k what holds there, else what holds where it is not k
at : (P : ℕ → Type 0) (n k : ℕ) → (n ≡ k → P k) → (eqb n k ≡ false → P n) → P n
at P n k here there = go (eqb n k) refl
  where
    go : (b : Bool) → eqb n k ≡ b → P n
    go true e = let p : n ≡ k = eqb-true n k e in subst P (sym p) (here p)
    go false e = there e

module _ (c : Cp0) (r : InRange c) where
  control_in : (n w : ℕ) → (n ≡ Status → built_status w ≡ true) → InRange (move_control c n w)
  unfolding move_control set may
  control_in n w built =
      let P : ℕ → Type 0 = λ m. InRange (move_control c m w) in
      at P n Count (λ _. set_in c Count w refl r.random_in r) (λ e9.
      at P n Compare (λ _. set_in (set c Compare w) Cause (cleared c.cause 15 1) (eq-eqb _ _ (cause_untimed c.cause r.cause_in)) r.random_in (set_in c Compare w refl r.random_in r)) (λ e11.
      at P n Status (λ p. set_in c Status (kept_status w) (status_moved w (built p)) r.random_in r) (λ e12.
      at P n Cause (λ _. set_in c Cause (replaced c.cause 8 2 (bits w 8 2)) (eq-eqb _ _ (cause_moved c.cause r.cause_in (bits w 8 2) (omega arith))) r.random_in r) (λ e13.
      at P n Config (λ _. set_in c Config (c.config / 2 ^ 3 * 2 ^ 3 + w % 2 ^ 3) (config_moved c.config w r.config_in) r.random_in r) (λ e16.
      at P n TagLo (λ _. set_in c TagLo w refl r.random_in r) (λ e28.
      at P n TagHi (λ _. set_in c TagHi w refl r.random_in r) (λ e29.
      simp (e9, e11, e12, e13, e16, e28, e29) r)))))))

  word_in : (n w : ℕ) → (n ≡ Status → built_status w ≡ true) → (n ≡ PageMask → legal_mask w ≡ true) → InRange (move_word c n w)
  unfolding move_word set may
  word_in n w built legal =
      let P : ℕ → Type 0 = λ m. InRange (move_word c m w) in
      at P n Index (λ _. set_in c Index (kept_index w) (eq-eqb _ _ (index_kept w)) r.random_in r) (λ e0.
      at P n EntryLo0 (λ _. set_in c EntryLo0 (kept_entry_lo w) (eq-eqb _ _ (entrylo_kept w)) r.random_in r) (λ e2.
      at P n EntryLo1 (λ _. set_in c EntryLo1 (kept_entry_lo w) (eq-eqb _ _ (entrylo_kept w)) r.random_in r) (λ e3.
      at P n PageMask (λ p. set_in c PageMask w (legal p) r.random_in r) (λ e5.
      at P n Wired (λ _. set_in (set c Random 47) Wired (kept_wired w) (eq-eqb _ _ (wired_kept w)) (top_in (kept_wired w)) (set_in c Random 47 refl (top_in c.wired) r)) (λ e6.
      at P n EntryHi (λ _. set_in c EntryHi (kept_entry_hi w) (eq-eqb _ _ (entryhi_kept w)) r.random_in r) (λ e10.
      simp (e0, e2, e3, e5, e6, e10) (control_in n w built)))))))

  move_in_lem : (n v : ℕ) → (n ≡ Status → built_status (low v) ≡ true) → (n ≡ PageMask → legal_mask (low v) ≡ true) → InRange (move_in c n v)
  unfolding move_in set may
  move_in_lem n v built legal =
      let P : ℕ → Type 0 = λ m. InRange (move_in c m v) in
      at P n Context (λ _. set_in c Context (only v 23 41 + only c.context 4 19) (eq-eqb _ _ (context_moved v c.context)) r.random_in r) (λ e4.
      at P n EPC (λ _. set_in c EPC v refl r.random_in r) (λ e14.
      at P n ErrorEPC (λ _. set_in c ErrorEPC v refl r.random_in r) (λ e30.
      simp (e4, e14, e30) (word_in n (low v) built legal))))

-- what a built move says of its value
if_built : (b : Bool) → ◌≡◌ {A = Result Unit NotBuilt} (pick b (Ok tt) (Err not_built)) (Ok tt) → b ≡ true
if_built b h = grind arith

status_built : (n v : ℕ) → check_move n v ≡ Ok tt → n ≡ Status → built_status (low v) ≡ true
unfolding check_move
status_built n v h p = if_built (built_status (low v)) (sym (ap (λ (m : ℕ). check_move m v) p) ∙ h)

mask_built : (n v : ℕ) → check_move n v ≡ Ok tt → n ≡ PageMask → legal_mask (low v) ≡ true
unfolding check_move
mask_built n v h p = if_built (legal_mask (low v)) (sym (ap (λ (m : ℕ). check_move m v) p) ∙ h)

pub moved_in_range : (c : Cp0) (n v : ℕ) → check_move n v ≡ Ok tt → cp0_in_range c ≡ true → cp0_in_range (move_in c n v) ≡ true
moved_in_range c n v b h = range_made (move_in c n v) (move_in_lem c (range_read c h) n v (status_built n v b) (mask_built n v b))
