-- The three parts are those of the merged number, and so their sum fits.
use native.Mathlib.Omega.{arith}
use Rattle.memory.proofs.Merges.{merged, merged_fits}
use borrow.Author.Rules.{rules}
use Rattle.memory.proofs.unaligned.merge.Goals as goal

pub returns : goal.returns
returns c =
    merged _ _ _ _ c.requires _ _ _ c.kept_high-above.ensures c.kept_low.ensures c.kept_low-below.ensures

pub overflow_add-result : goal.overflow_add-result
overflow_add-result c = let m = merged_fits _ _ _ _ c.requires _ (returns c) (search rules) in omega arith

pub overflow_add-result-2 : goal.overflow_add-result-2
overflow_add-result-2 c = let m = merged_fits _ _ _ _ c.requires _ (returns c) (search rules) in omega arith
