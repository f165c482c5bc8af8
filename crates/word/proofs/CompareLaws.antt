-- Comparisons over the width, as the code makes them on whole registers and on the signed type.
use Rattle.std.proofs.Common.{◌≡◌, ℕ, ◌^◌, ◌≤◌, Bool, true, false, eqb, ltb, leb, ltb-true, ltb-false, le-leb, ℤ, refl, ap, ◌∙◌, arith, w32, w64, Fits, SFits, to_z, of_z}
use Rattle.std.specs.Int.{from_bool}
use borrow.Author.Tests.{lt-leb}
use mathlib.Core.Bool as Bool
use Rattle.promise.specs.Pick.{not}
use lib.Signed.{lt_z}
use mir.Syntax.{Width}
use mir.Val.{hbits}
use mir.ValLaws.{of_z_fits, to_z-of_z}
use Rattle.word.specs.Extend.{signed, extend}
use Rattle.word.specs.Compare.{less_signed, less_unsigned, same, flag}
use Rattle.word.proofs.Registers.{low_whole, signed_fits}

-- whole registers are their own low bits
module _ (a b : ℕ) (f : Fits w64 a) (g : Fits w64 b) where
  pub less_whole : less_unsigned w64 a b ≡ ltb a b
  unfolding less_unsigned
  less_whole = (λ i. ltb (low_whole a f i) (low_whole b g i))

  pub same_whole : same w64 a b ≡ eqb a b
  unfolding same
  same_whole = (λ i. eqb (low_whole a f i) (low_whole b g i))

-- the code's test turned round, and a test as a number
pub not_is : (t : Bool) → Bool.not t ≡ not t
not_is true = refl
not_is false = refl

pub flag_is : (t : Bool) → from_bool t ≡ flag t
flag_is true = refl
flag_is false = refl

pub at_least : (m n : ℕ) → leb n m ≡ not (ltb m n)
at_least m n = go (ltb m n) refl
  where
    go : (t : Bool) → ltb m n ≡ t → leb n m ≡ not t
    go true t = lt-leb n m (ltb-true m n t)
    go false t = le-leb n m (ltb-false m n t)

-- a signed number that the code read, and what an operation of two of them sees
pub seen : (w : Width) (a : ℕ) (x : ℤ) → x ≡ signed w a → to_z w (of_z w x) ≡ signed w a
seen w a x e = ap (λ (z : ℤ). to_z w (of_z w z)) e ∙ to_z-of_z w (signed w a) (signed_fits w a)

-- the same of one that was widened
pub seen_wide : (v w : Width) (a : ℕ) {x y : ℤ} → 2 ^ hbits v ≤ 2 ^ hbits w → x ≡ signed v a → y ≡ to_z v (of_z v x) → to_z w (of_z w y) ≡ signed v a
seen_wide v w a {x} h ex ey =
    ap (λ (z : ℤ). to_z w (of_z w z)) (ey ∙ seen v a x ex) ∙ to_z-of_z w (signed v a) (record { sfits = omega (arith, (signed_fits v a).sfits) })

pub seen_both : (w : Width) (a b : ℕ) {x y : ℤ} {B : Type 0} (o : ℤ → ℤ → B) → x ≡ signed w a → y ≡ signed w b
    → o (to_z w (of_z w x)) (to_z w (of_z w y)) ≡ o (signed w a) (signed w b)
seen_both w a b {x} {y} o ex ey = (λ i. o (seen w a x ex i) (seen w b y ey i))

-- less, on the signed type
pub less_signed_lem : (w : Width) (a b : ℕ) (x y : ℤ) → x ≡ signed w a → y ≡ signed w b → lt_z (to_z w (of_z w x)) (to_z w (of_z w y)) ≡ less_signed w a b
unfolding less_signed
less_signed_lem w a b x y ex ey = seen_both w a b lt_z ex ey

-- a sign-extended word is the same signed number at 64 bits
extended : (x : ℕ) → signed w64 (extend w32 x) ≡ signed w32 x
unfolding extend
extended x =
    let f : SFits w64 (signed w32 x) = record { sfits = omega (arith, (signed_fits w32 x).sfits) } in
    ap (to_z w64) (low_whole (of_z w64 (signed w32 x)) (of_z_fits w64 (signed w32 x) f)) ∙ to_z-of_z w64 (signed w32 x) f

-- so SLT of two registers that hold words compares the words, as signed numbers of 32 bits
pub less_words : (a b : ℕ) → less_signed w64 (extend w32 a) (extend w32 b) ≡ less_signed w32 a b
unfolding less_signed
less_words a b = (λ i. lt_z (extended a i) (extended b i))
