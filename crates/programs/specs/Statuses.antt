-- The statuses that a program may end with (house).
use Rattle.std.specs.Prelude.{◌≤◌, ℤ, pos, negsuc}

-- 0, 1, 2 or 3
abbrev pub IsStatus : ℤ → Type 0
IsStatus (pos n) = n ≤ 3
IsStatus (negsuc n) = ⊥
