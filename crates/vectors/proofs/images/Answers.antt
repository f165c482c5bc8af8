-- As many zeros as are asked for: a law, since so long a list is not to be counted.
use Prim.Native.Nat.{ℕ}
use mathlib.Core.Path.{sym}
use lib.ListN.{length-replicate}
use Rattle.vectors.proofs.images.Goals as goal

pub returns : goal.returns
returns c = sym (length-replicate {0} {A = ℕ} 2097153 0)
