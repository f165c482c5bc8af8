-- Byte by byte.
use Prim.Native.Nat.{ℕ, ◌+◌}
use native.Mathlib.Omega.{arith}
use lib.Dec.{eqb}
use Rattle.std.proofs.Common.{rules, tests, refl}
use Rattle.std.proofs.lemmas.Iterator.{YieldsList-from_range}
use Rattle.std.proofs.lemmas.Iterator.Search.{all_from_yields_List}
use Rattle.elf.specs.declared.Space.TheVariants.{Kernel}
use Rattle.elf.specs.Home.{stands}
use Rattle.place.specs.Made.{blank}
use Rattle.place.proofs.refusals.blank.Goals as goal

pub returns : goal.returns
unfolding blank
returns c =
    all_from_yields_List (λ (q : ℕ). eqb (stands Kernel c.args.file.now q) 0) _ _ _ c.all.ensures.ran
    (YieldsList-from_range c.args.p (c.args.p + 4) 4 refl (omega arith))
    (λ x b q k. search (rules, tests))
