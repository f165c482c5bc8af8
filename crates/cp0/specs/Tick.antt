-- The end of a counted step: Count, the timer and Random.
use Rattle.std.specs.Prelude.{ℕ, ◌+◌, ◌-◌, ◌%◌, ◌^◌, Bool, ◌==◌}
use Rattle.promise.specs.Pick.{pick, either}
use Rattle.cp0.specs.declared.Cp0.{Cp0}
use Rattle.cp0.specs.Registers.{Random, Count, Cause, set, replaced}

-- Count gains one, wrapping at 2^32 (S9)
unfoldable pub counted : ℕ → ℕ
counted count = (count + 1) % 2 ^ 32

-- if Count now equals Compare, IP7 is set (S9)
unfoldable pub timed : ℕ → ℕ → ℕ → ℕ
timed count compare cause = pick (count == compare) (replaced cause 15 1 1) cause

-- Random falls by one, or becomes 47 if it was Wired or 0; the step that writes Wired doesn't move it (S10)
unfoldable pub drawn : Bool → ℕ → ℕ → ℕ
drawn wrote random wired = pick wrote random (pick (either (random == wired) (random == 0)) 47 (random - 1))

-- the registers at the end of a counted step, by whether it wrote Wired (S8)
unfoldable pub ended : Bool → Cp0 → Cp0
ended wrote c =
    set (set (set c Count (counted c.count)) Cause (timed (counted c.count) c.compare c.cause)) Random (drawn wrote c.random c.wired)
