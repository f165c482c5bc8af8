-- A run of bytes, one more: what the loop of `put` stores in a turn and at its end, and what the loop of `eight_of` has read.
use Rattle.std.proofs.Common.{ℕ, zero, suc, ◌+◌, ◌-◌, ◌*◌, ◌%◌, ◌^◌, ◌<◌, ◌≤◌, get_or, bit_or, w8, Fits, lit<, mod-eq_of_lt}
use lib.Bits.{or_shifted}
use lib.Pow.{pow-add}
use Rattle.std.proofs.Math.Nat.{pow-le-pow_right}
use mathlib.Core.Path.{◌≡◌, refl}
use mathlib.Core.List.{List}
use native.Mathlib.Numerals.{add-one}
use native.Mathlib.Omega.{arith}
use lib.ListN.{set}
use lib.Seq.{sets}
use Rattle.memory.specs.Bytes.{byte, bytes_of, eight_of}

pub sets_next : (l : List ℕ) (i k n x : ℕ) → k < n
    → sets (set l (i + k) (byte x (n - 1 - k))) (i + (k + 1)) (bytes_of (n - (k + 1)) x) ≡ sets l (i + k) (bytes_of (n - k) x)
unfolding bytes_of
sets_next l i k n x h =
    let e : n - k ≡ suc (n - 1 - k) = omega arith in
    let f : n - (k + 1) ≡ n - 1 - k = omega arith in
    let g : i + (k + 1) ≡ suc (i + k) = omega arith in
    rw (e, f, g) refl

pub sets_none : (l : List ℕ) (i n x : ℕ) → n ≤ 0 → sets l i (bytes_of n x) ≡ l
unfolding bytes_of
sets_none l i zero x h = refl
sets_none l i (suc k) x h = absurd (omega arith)

-- the first k bytes of a list as one number, the first on top
unfoldable pub run : List ℕ → ℕ → ℕ
run l zero = 0
run l (suc k) = run l k * 2 ^ 8 + get_or l k 0

pub run_none : (l : List ℕ) → 0 ≡ run l 0
unfolding run
run_none l = refl

module _ (l : List ℕ) (h : (k : ℕ) → Fits w8 (get_or l k 0)) where
  run_lt : (k : ℕ) → run l k < 2 ^ (8 * k)
  unfolding run
  run_lt zero = lit< tt
  run_lt (suc k) =
      let e : 8 * suc k ≡ 8 * k + 8 = omega arith in
      rw (e, pow-add 2 (8 * k) 8) (omega (arith, run_lt k, (h k).fits))

  -- a byte more at the right
  pub run_next : (k n b : ℕ) → k < 8 → n ≡ run l k → b ≡ get_or l k 0 → bit_or (n * 2 ^ 8 % 2 ^ 64) b ≡ run l (k + 1)
  unfolding run
  run_next k n b lt en eb =
      let d : 8 * k ≤ 56 = omega arith in
      let e : 2 ^ (8 * k) ≤ 2 ^ 56 = pow-le-pow_right (lit< tt) d in
      let t : b < 2 ^ 8 = omega (arith, (h k).fits) in
      let s : n * 2 ^ 8 < 2 ^ 64 = omega (arith, run_lt k) in
      rw (add-one k, mod-eq_of_lt s, or_shifted n 8 b t, en, eb) refl

-- eight of them
pub run_eight : (l : List ℕ) → run l 8 ≡ eight_of l
unfolding run eight_of
run_eight l = omega arith
