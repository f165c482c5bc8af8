-- What is printed fits the buffer: a run's text and a refusal both do.
use Prim.Native.Nat.{ℕ, ◌≤◌}
use mathlib.Core.List.{List}
use mathlib.Core.Path.{◌≡◌}
use native.Mathlib.Nat.{le_trans}
use native.Mathlib.Omega.{arith}
use lib.ListN.{length}
use Rattle.std.specs.Prelude.{Option, Some, None}
use Rattle.std.specs.Option.{option_map_or}
use Rattle.io.specs.Counts.{IsPrefixLen}
use Rattle.io.proofs.Counting.{prefix_len_of_le}
use Rattle.image.specs.declared.Refusal.{Refusal}
use Rattle.image.specs.Image.{image_of}
use Rattle.answer.specs.Wrote.{Wrote}
use Rattle.answer.specs.Frames.{refusal_frame}
use Rattle.answer.proofs.Lengths.{lengths}
use Rattle.cardrun_main.specs.Printed.{printed, Fits}

by_refusal : (o : Option Refusal) (run : List ℕ) → length run ≤ 1024 → length (option_map_or (λ (r : Refusal). refusal_frame r.number r.line) o run) ≤ 1024
by_refusal None run h = h
by_refusal (Some r) run h = omega (arith, lengths.refusal r.number r.line)

pub fits : Fits
unfolding printed
fits text ram = by_refusal (image_of text ram).refusal _ (le_trans (lengths.cardrun _) (omega arith))

-- so a buffer of that length has all of it once it is written
pub whole : (text ram : List ℕ) {was is : List ℕ} {n : ℕ} → Wrote was 0 (printed text ram) n is → length is ≡ 1024 → IsPrefixLen n is
whole text ram {was} {is} {n} w e = prefix_len_of_le n is (omega (arith, w.ends, fits text ram))
