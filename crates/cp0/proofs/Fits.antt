-- What an exception writes to Cause fits its field.
use Rattle.std.proofs.Common.{ℕ, ◌<◌, Bool, arith}
use Rattle.cp0.specs.declared.Exception.{Exception}
use Rattle.cp0.specs.declared.Exception.TheVariants.{Int, Mod, TLBL, TLBS, AdEL, AdES, IBE, DBE, Sys, Bp, RI, CpU, Ov, Tr}
use Rattle.cp0.specs.Exceptions.{told, bd_after}

-- the code has five bits and the unit two
pub told_fits : (e : Exception) → ((told e).code < 32) × ((told e).unit < 4)
unfolding told
told_fits Int = omega arith
told_fits (Mod v) = omega arith
told_fits (TLBL v r) = omega arith
told_fits (TLBS v r) = omega arith
told_fits (AdEL v) = omega arith
told_fits (AdES v) = omega arith
told_fits IBE = omega arith
told_fits DBE = omega arith
told_fits Sys = omega arith
told_fits Bp = omega arith
told_fits RI = omega arith
told_fits (CpU u) = omega arith
told_fits Ov = omega arith
told_fits Tr = omega arith

-- BD has one
pub bd_fits : (status cause : ℕ) (slot : Bool) → bd_after status cause slot < 2
unfolding bd_after
bd_fits status cause slot = grind arith
