-- A register that is not kept reads 0 and drops writes (T12): its number is none of those that the moves ask for.
use Rattle.std.proofs.Common.{◌≡◌, ℕ, true, false, eqb, leb, refl, arith}
use Rattle.promise.specs.Pick.{both, either}
use Rattle.word.specs.Extend.{extend}
use Rattle.cp0.specs.declared.Cp0.{Cp0}
use Rattle.cp0.specs.Registers.{kept?}
use Rattle.cp0.specs.Moves.{word_of, move_out, move_control, move_word, move_in}

-- which registers are kept, opened for the search
pub kept_is : (n : ℕ) → kept? n ≡ either (leb n 6) (both (leb 8 n) (either (leb n 17) (both (leb 28 n) (leb n 30))))
unfolding kept?
kept_is n = refl

other : (n k : ℕ) → kept? n ≡ false → kept? k ≡ true → eqb n k ≡ false
other n k h p = grind arith

module _ (c : Cp0) (n : ℕ) (h : kept? n ≡ false) where
  pub not_kept_reads : (lines : ℕ) → move_out c lines n ≡ 0
  unfolding move_out word_of kept? extend
  not_kept_reads lines = simp (other n 0 h refl, other n 1 h refl, other n 2 h refl, other n 3 h refl, other n 4 h refl, other n 5 h refl, other n 6 h refl, other n 8 h refl, other n 9 h refl, other n 10 h refl, other n 11 h refl, other n 12 h refl, other n 13 h refl, other n 14 h refl, other n 15 h refl, other n 16 h refl, other n 17 h refl, other n 28 h refl, other n 29 h refl, other n 30 h refl)

  pub not_kept_drops : (v : ℕ) → move_in c n v ≡ c
  unfolding move_in move_word move_control kept?
  not_kept_drops v = simp (other n 0 h refl, other n 2 h refl, other n 3 h refl, other n 4 h refl, other n 5 h refl, other n 6 h refl, other n 9 h refl, other n 10 h refl, other n 11 h refl, other n 12 h refl, other n 13 h refl, other n 14 h refl, other n 16 h refl, other n 28 h refl, other n 29 h refl, other n 30 h refl)
