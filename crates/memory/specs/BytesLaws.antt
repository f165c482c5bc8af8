-- Laws of bytes: what a shift and a cut leave of them, and that a merge has at each place the byte of the one number or of the other.
use Rattle.std.specs.Prelude.{ℕ, zero, suc, ◌+◌, ◌-◌, ◌*◌, ◌/◌, ◌%◌, ◌^◌, ◌≤◌, ◌<◌, ◌≡◌}
use Rattle.std.proofs.Math.Nat.{mod-one}
use Rattle.std.proofs.Common.{mod-lt, add-mul, mul_assoc, ◌∙◌, subst, pow_pos, shr-shr}
use native.Mathlib.Omega.{arith}
use Rattle.std.proofs.Math.Path.{sym, ap}
use Rattle.std.proofs.Math.Arith.{digits_lt}
use Rattle.std.proofs.Math.Pow as Pow
use Rattle.std.proofs.Math.Pow.{pow-add, shr_lt, mod-mod-pow, high}
use Rattle.std.proofs.lemmas.Nat.{mod-pow-add}
use Rattle.memory.specs.Bytes.{byte, with_bytes}

pub byte_lt : (x k : ℕ) → byte x k < 256
unfolding byte
byte_lt x k = mod-lt (x / 2 ^ (8 * k)) (pow_pos 8)

-- a shift by whole bytes counts the bytes anew
pub byte_shift : (x m k : ℕ) → byte (x / 2 ^ (8 * m)) k ≡ byte x (m + k)
unfolding byte
byte_shift x m k =
    let e : 8 * m + 8 * k ≡ 8 * (m + k) = omega arith in
    ap (λ (n : ℕ). n % 2 ^ 8) (shr-shr x (8 * m) (8 * k) ∙ ap (λ (n : ℕ). x / 2 ^ n) e)

-- the low m bytes of a number have its bytes
pub byte_mod : (x m k : ℕ) → k < m → byte (x % 2 ^ (8 * m)) k ≡ byte x k
unfolding byte
byte_mod x m k h =
    let e : 8 * m ≡ 8 * (m - 1 - k) + (8 + 8 * k) = omega arith in
    sym (Pow.field (x % 2 ^ (8 * m)) 8 (8 * k))
    ∙ ap (λ (n : ℕ). n / 2 ^ (8 * k)) (ap (λ (n : ℕ). x % 2 ^ n % 2 ^ (8 + 8 * k)) e ∙ mod-mod-pow x (8 * (m - 1 - k)) (8 + 8 * k))
    ∙ Pow.field x 8 (8 * k)

-- two numbers with the same low bytes have the same low part
pub same_bytes : (s x y : ℕ) → ((i : ℕ) → i < s → byte x i ≡ byte y i) → x % 2 ^ (8 * s) ≡ y % 2 ^ (8 * s)
unfolding byte
same_bytes zero x y h = mod-one x ∙ sym (mod-one y)
same_bytes (suc s) x y h =
    let e : 8 * suc s ≡ 8 + 8 * s = omega arith in
    rw (e, mod-pow-add x 8 (8 * s), mod-pow-add y 8 (8 * s), h s (omega arith), same_bytes s x y (λ i l. h i (omega arith)))

-- a merge, said byte by byte (with_below, with_in, with_above: no proof needs them, they tell a reader what `with_bytes` is)
module _ (x low count y : ℕ) where
  top : ℕ
  top = x / 2 ^ (8 * (low + count))

  powers : 2 ^ (8 * (low + count)) ≡ 2 ^ (8 * count) * 2 ^ (8 * low)
  powers = let e : 8 * (low + count) ≡ 8 * count + 8 * low = omega arith in ap (λ (n : ℕ). 2 ^ n) e ∙ pow-add 2 (8 * count) (8 * low)

  with_split : with_bytes x low count y ≡ (top * 2 ^ (8 * count) + y % 2 ^ (8 * count)) * 2 ^ (8 * low) + x % 2 ^ (8 * low)
  unfolding with_bytes top
  with_split =
      ap (λ (n : ℕ). n + x % 2 ^ (8 * low))
      (ap (λ (n : ℕ). n + y % 2 ^ (8 * count) * 2 ^ (8 * low))
      (ap (λ (n : ℕ). x / 2 ^ (8 * (low + count)) * n) powers ∙ sym (mul_assoc top (2 ^ (8 * count)) (2 ^ (8 * low))))
      ∙ sym (add-mul (top * 2 ^ (8 * count)) (y % 2 ^ (8 * count)) (2 ^ (8 * low))))

  with_high : with_bytes x low count y / 2 ^ (8 * low) ≡ top * 2 ^ (8 * count) + y % 2 ^ (8 * count)
  with_high = ap (λ (n : ℕ). n / 2 ^ (8 * low)) with_split ∙ high _ (8 * low) (mod-lt x (pow_pos (8 * low)))

  -- below the replaced bytes
  pub with_below : (k : ℕ) → k < low → byte (with_bytes x low count y) k ≡ byte x k
  with_below k h =
      sym (byte_mod (with_bytes x low count y) low k h)
      ∙ ap (λ (n : ℕ). byte n k) (ap (λ (n : ℕ). n % 2 ^ (8 * low)) with_split ∙ Pow.low _ (8 * low) (mod-lt x (pow_pos (8 * low))))
      ∙ byte_mod x low k h

  -- among them
  pub with_in : (k : ℕ) → low ≤ k → k < low + count → byte (with_bytes x low count y) k ≡ byte y (k - low)
  with_in k l h =
      let e : k ≡ low + (k - low) = omega arith in
      let b : k - low < count = omega arith in
      ap (byte (with_bytes x low count y)) e
      ∙ sym (byte_shift (with_bytes x low count y) low (k - low))
      ∙ ap (λ (n : ℕ). byte n (k - low)) with_high
      ∙ sym (byte_mod _ count (k - low) b)
      ∙ ap (λ (n : ℕ). byte n (k - low)) (Pow.low top (8 * count) (mod-lt y (pow_pos (8 * count))))
      ∙ byte_mod y count (k - low) b

  -- above them
  pub with_above : (k : ℕ) → low + count ≤ k → byte (with_bytes x low count y) k ≡ byte x k
  unfolding top
  with_above k h =
      let e : k ≡ low + (count + (k - (low + count))) = omega arith in
      let f : low + count + (k - (low + count)) ≡ k = omega arith in
      ap (byte (with_bytes x low count y)) e
      ∙ sym (byte_shift (with_bytes x low count y) low (count + (k - (low + count))))
      ∙ ap (λ (n : ℕ). byte n (count + (k - (low + count)))) with_high
      ∙ sym (byte_shift _ count (k - (low + count)))
      ∙ ap (λ (n : ℕ). byte n (k - (low + count))) (high top (8 * count) (mod-lt y (pow_pos (8 * count))))
      ∙ byte_shift x (low + count) (k - (low + count))
      ∙ ap (byte x) f

  -- a merge into a register fits it
  pub with_lt : low + count ≤ 8 → x < 2 ^ 64 → with_bytes x low count y < 2 ^ 64
  unfolding top
  with_lt h l =
      let up = 8 * (8 - (low + count)) in
      let e : 64 ≡ up + 8 * (low + count) = omega arith in
      let f : up + 8 * count + 8 * low ≡ 64 = omega arith in
      let t : top < 2 ^ up = shr_lt up (8 * (low + count)) (subst (λ (n : ℕ). x < 2 ^ n) e l) in
      rw with_split
      (subst (λ (n : ℕ). (top * 2 ^ (8 * count) + y % 2 ^ (8 * count)) * 2 ^ (8 * low) + x % 2 ^ (8 * low) < 2 ^ n) f
      (rw (pow-add 2 (up + 8 * count) (8 * low), pow-add 2 up (8 * count))
      (digits_lt (digits_lt t (mod-lt y (pow_pos (8 * count)))) (mod-lt x (pow_pos (8 * low))))))
