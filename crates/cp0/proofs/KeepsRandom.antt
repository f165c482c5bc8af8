-- Random and Wired stay in range together, and so do the registers at the end of a counted step.
use Rattle.std.proofs.Common.{◌≡◌, ℕ, ◌-◌, Bool, true, refl, arith, eq-eqb}
use Rattle.cp0.specs.declared.Cp0.{Cp0}
use Rattle.cp0.specs.Registers.{Random, Cause, Count, set, kept_cause}
use Rattle.cp0.specs.Tick.{counted, timed, drawn, ended}
use Rattle.cp0.specs.Range.{random_in_range, cp0_in_range}
use Rattle.cp0.proofs.KeptBits.{cause_timed}
use Rattle.cp0.proofs.InRange.{range_read, range_made, may, set_in}

-- 47 is in range, whatever Wired holds
pub top_in : (wired : ℕ) → random_in_range 47 wired ≡ true
unfolding random_in_range
top_in wired = grind arith

-- one less is in range where Random is neither Wired nor 0
less_in : (random wired : ℕ) → (random ≡ wired → ⊥) → (random ≡ 0 → ⊥) → random_in_range random wired ≡ true → random_in_range (random - 1) wired ≡ true
unfolding random_in_range
less_in random wired h k r = grind arith

pub drawn_in : (wrote : Bool) (random wired : ℕ) → random_in_range random wired ≡ true → random_in_range (drawn wrote random wired) wired ≡ true
unfolding drawn
drawn_in wrote random wired r = grind (arith, top_in, less_in)

timed_in : (count compare cause : ℕ) → kept_cause cause ≡ cause → kept_cause (timed count compare cause) ≡ timed count compare cause
unfolding timed
timed_in count compare cause h = grind (arith, cause_timed)

-- the end of a counted step
pub ended_in_range : (wrote : Bool) (c : Cp0) → cp0_in_range c ≡ true → cp0_in_range (ended wrote c) ≡ true
unfolding ended set may
ended_in_range wrote c h =
    let r = range_read c h in
    let count = counted c.count in
    let cause = timed count c.compare c.cause in
    range_made (ended wrote c)
    (set_in (set (set c Count count) Cause cause) Random (drawn wrote c.random c.wired) refl (drawn_in wrote c.random c.wired r.random_in)
    (set_in (set c Count count) Cause cause (eq-eqb _ _ (timed_in count c.compare c.cause r.cause_in)) r.random_in
    (set_in c Count count refl r.random_in r)))
