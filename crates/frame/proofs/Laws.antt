-- Laws of digits and of lines.
use Prim.Native.Nat.{ℕ, suc, ◌+◌, ◌-◌, ◌*◌, ◌^◌, ◌<◌, ◌≤◌}
use mathlib.Core.Bool.{Bool, true, false}
use mathlib.Core.Path.{◌≡◌, refl, sym, ap, ◌∙◌}
use mathlib.Core.List.{List, [], ◌∷◌}
use native.Mathlib.Nat.{pow-suc, pow-le-pow_right, lt_of_lt_of_le}
use native.Mathlib.Numerals.{add-one, one-add}
use native.Mathlib.Omega.{arith}
use Rattle.std.proofs.lemmas.Bool.Decides.{nat_tests}
use borrow.Author.Tests.{ltb-false}
use lib.Dec.{eqb, ltb}
use lib.Seq.{take_all}
use lib.ListN.{length, take, drop, get_or}
use Rattle.std.specs.Prelude.{Some, None, cond, unwrap_or, position}
use Rattle.std.specs.List.{before_first, position_or_len}
use Rattle.std.proofs.lemmas.List.{get_or-take, get_or-drop}
use Rattle.std.proofs.lemmas.Option.{same_Some, none-some}
use Rattle.frame.specs.Line.{LF, line_of}
use Rattle.frame.specs.Digits.{digit, number_from}

before_one : (x : ℕ) (xs : List ℕ) (b : Bool) → eqb x LF ≡ b → line_of xs ≡ before_first (λ (y : ℕ). eqb y LF) xs → line_of (x ∷ xs) ≡ before_first (λ (y : ℕ). eqb y LF) (x ∷ xs)
unfolding line_of
before_one x xs true e h = simp e
before_one x xs false e h = simp (e, one-add) (ap (λ (t : List ℕ). x ∷ t) h)

-- a line is what stands before the first LF
pub line_before : (t : List ℕ) → line_of t ≡ before_first (λ (y : ℕ). eqb y LF) t
unfolding line_of
line_before [] = refl
line_before (x ∷ xs) = before_one x xs (eqb x LF) refl (line_before xs)

cut_by : (n end : ℕ) (t : List ℕ) (b : Bool) → ltb n (length t) ≡ b → Some end ≡ cond b (Some n) None → take end t ≡ take n t
cut_by n end t true p h = ap (λ (k : ℕ). take k t) (same_Some _ _ h)
cut_by n end t false p h = absurd (none-some _ (sym h))

whole_by : (n : ℕ) (t : List ℕ) (b : Bool) → ltb n (length t) ≡ b → None ≡ cond b (Some n) None → t ≡ take n t
whole_by n t true p h = absurd (none-some _ h)
whole_by n t false p h = sym (take_all n t (ltb-false _ _ p))

-- of a text with an LF, and of one with none
pub line_cut : (t : List ℕ) (end : ℕ) → Some end ≡ position (λ (y : ℕ). eqb y LF) t → take end t ≡ line_of t
line_cut t end h = cut_by _ end t (ltb (position_or_len (λ (y : ℕ). eqb y LF) t) (length t)) refl h ∙ sym (line_before t)

pub line_whole : (t : List ℕ) → None ≡ position (λ (y : ℕ). eqb y LF) t → t ≡ line_of t
line_whole t h = whole_by _ t (ltb (position_or_len (λ (y : ℕ). eqb y LF) t) (length t)) refl h ∙ sym (line_before t)

-- a digit counts less than 16
value_lt : (x : ℕ) → unwrap_or (digit x) 0 < 16
value_lt x = grind (arith, nat_tests)

-- sixteen digits have room in 64 bits
pub room : (left v : ℕ) → v < 16 ^ (16 - left) → v < 2 ^ 64
room left v r = lt_of_lt_of_le r (pow-le-pow_right {n = 16} (omega arith) {i = 16 - left} {j = 16} (omega arith))

-- so has a number with one digit more
room_after : (i v d : ℕ) → i < 16 → v < 16 ^ i → d < 16 → (v * 16 + d < 16 ^ (i + 1)) × (v * 16 + d < 2 ^ 64)
room_after i v d h b r =
    let k : v * 16 + d < 16 ^ (i + 1) = rw (add-one, pow-suc 16 i) (omega arith) in
    (k, lt_of_lt_of_le k (pow-le-pow_right {n = 16} (omega arith) {i = i + 1} {j = 16} (omega arith)))

module _ (l : List ℕ) (at i many v : ℕ) (h : i < many) where
  -- the digit at a place
  pub digit_at : get_or (take (at + many - at) (drop at l)) i 0 ≡ get_or l (at + i) 0
  digit_at = get_or-take (at + many - at) (drop at l) i 0 (omega arith) ∙ get_or-drop at l i 0

  -- with it the number has room
  pub fits : (d : ℕ) → d ≡ unwrap_or (digit (get_or (take (at + many - at) (drop at l)) i 0)) 0 → many ≤ 16 → v < 16 ^ i → (v * 16 + d < 16 ^ (i + 1)) × (v * 16 + d < 2 ^ 64)
  fits d q k b = room_after i v d (omega arith) b (rw q (value_lt (get_or (take (at + many - at) (drop at l)) i 0)))

  -- it comes before those that are left
  pub number_next : (d : ℕ) → d ≡ unwrap_or (digit (get_or (take (at + many - at) (drop at l)) i 0)) 0 → number_from l (at + i) (many - i) v ≡ number_from l (at + (i + 1)) (many - (i + 1)) (v * 16 + d)
  unfolding number_from
  number_next d q = let e : many - i ≡ suc (many - (i + 1)) = omega arith in let f : at + (i + 1) ≡ at + i + 1 = omega arith in rw (e, f, q, digit_at)

-- none is left
pub number_end : (l : List ℕ) (at i many v : ℕ) → many ≤ i → number_from l (at + i) (many - i) v ≡ v
unfolding number_from
number_end l at i many v h = let e : many - i ≡ 0 = omega arith in rw e
