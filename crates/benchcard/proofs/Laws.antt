-- A number with one digit more: what it is, and that it stays below the power of ten.
use Rattle.std.proofs.Common.{◌≡◌, ℕ, ◌+◌, ◌*◌, ◌^◌, ◌<◌, ◌≤◌, List, length, get_or, drop, Some, None, pow-suc, add-one, arith, drop-cons, le-ltb, lt-ltb}
use native.Mathlib.Nat.{pow-le-pow_right}
use lib.Seq.{drop-length}
use Rattle.std.specs.Char.{digit_value}
use Rattle.benchcard.specs.Arguments.{number}

module _ (x : ℕ) (word : List ℕ) (i : ℕ) where
  pub digit_more : {b d : ℕ} → i < length word → b ≡ get_or word i 0 → digit_value b < 10 → d ≡ digit_value b → number x (drop i word) ≡ number (x * 10 + d) (drop (i + 1) word)
  unfolding number
  digit_more h e g v = rw (drop-cons word i 0 h, ← e, lt-ltb _ _ g, v, add-one)

  pub no_digit : {b : ℕ} → i < length word → b ≡ get_or word i 0 → (digit_value b < 10 → ⊥) → number x (drop i word) ≡ None
  unfolding number
  no_digit {b} h e g = let k : 10 ≤ digit_value b = omega arith in rw (drop-cons word i 0 h, ← e, le-ltb _ _ k)

  pub no_more : i ≡ length word → number x (drop i word) ≡ Some x
  unfolding number
  no_more e = rw (e, drop-length)

module _ (x d i : ℕ) (h : x < 10 ^ i) (g : d < 10) where
  pub below : x * 10 + d < 10 ^ (i + 1)
  below = rw (add-one, pow-suc 10 i) (omega arith)

  pub fits : i < 16 → x * 10 + d < 10000000000000000
  fits k =
      let l : i + 1 ≤ 16 = omega arith
      in let p : 10 ^ (i + 1) ≤ 10 ^ 16 = pow-le-pow_right (omega arith) l
      in omega (arith, below)
