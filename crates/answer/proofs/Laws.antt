-- Laws of digits, of fields and of runs of lines: one more, and none left.
use Prim.Native.Nat.{ℕ, zero, suc, ◌+◌, ◌-◌, ◌^◌, ◌<◌, ◌≤◌}
use mathlib.Core.Bool.{Bool, true, false}
use mir.Val.{bool_byte}
use mathlib.Core.Path.{◌≡◌, refl, ap}
use mathlib.Core.List.{List, [], ◌∷◌, ◌++◌}
use native.Mathlib.Omega.{arith}
use native.Mathlib.Numerals.{add-one}
use borrow.Author.Tests.{leb-true}
use lib.ListN.{length, get_or, drop, drop_of_length-le}
use lib.Seq.{drop-cons}
use Rattle.std.specs.Prelude.{IsTrue, nat_le, Option}
use Rattle.std.specs.List.{list_all}
use Rattle.std.proofs.lemmas.List.Sums.{AllPass-from_list_all}
use Rattle.frame.specs.Line.{LF}
use Rattle.frame.specs.declared.Frame.{Frame}
use Rattle.answer.specs.Digits.{character, digit, hex_of}
use Rattle.answer.specs.Frames.{flag, fields_text, each, IsEach}

pub hex_next : (n x : ℕ) → 0 < n → hex_of n x ≡ character (digit x (n - 1)) ∷ hex_of (n - 1) x
unfolding hex_of
hex_next zero x h = absurd (omega arith)
hex_next (suc k) x h = let e : suc k - 1 ≡ k = omega arith in rw e

pub hex_none : (n x : ℕ) → n ≤ 0 → hex_of n x ≡ []
unfolding hex_of
hex_none zero x h = refl
hex_none (suc k) x h = absurd (omega arith)

pub length_hex : (n x : ℕ) → length (hex_of n x) ≡ n
unfolding hex_of
length_hex zero x = refl
length_hex (suc n) x = ap suc (length_hex n x)

pub digit_lt : (x k : ℕ) → digit x k < 16
digit_lt x k = omega arith

-- a flag as a byte
pub flag_is : (b : Bool) → bool_byte b ≡ flag b
flag_is true = refl
flag_is false = refl

-- fields, one by one
module _ (fs : List (ℕ × ℕ)) (i : ℕ) where
  pub field_small : IsTrue (list_all (λ (f : ℕ × ℕ). nat_le f.0 16) fs) → i < length fs → (get_or fs i (0, 0)).0 ≤ 16
  field_small h l = leb-true _ _ (AllPass-from_list_all (λ (f : ℕ × ℕ). nat_le f.0 16) fs h i (0, 0) l)

  pub fields_next : i < length fs → fields_text (drop i fs) ≡ hex_of (get_or fs i (0, 0)).0 (get_or fs i (0, 0)).1 ++ fields_text (drop (i + 1) fs)
  fields_next h = rw (add-one, drop-cons fs i (0, 0))

  pub fields_none : length fs ≤ i → fields_text (drop i fs) ≡ LF ∷ []
  fields_none h = rw (drop_of_length-le fs h)

-- bytes, one by one
pub bytes_next : (t : List ℕ) (i : ℕ) → i < length t → drop i t ≡ (get_or t i 0 ∷ []) ++ drop (i + 1) t
bytes_next t i h = rw add-one (drop-cons t i 0 h)

pub bytes_none : (t : List ℕ) (i : ℕ) → length t ≤ i → drop i t ≡ []
bytes_none t i h = drop_of_length-le t h

-- lines that are told of one by one, where each is known
pub each_is : (L : ℕ → Option Frame → Type 0) (f : ℕ → Option Frame) → ((i : ℕ) (r : Option Frame) → i < 2 ^ 16 → L i r → r ≡ f i) → (n i : ℕ) (text : List ℕ) → IsEach L n i text → text ≡ each f n i
unfolding each IsEach
each_is L f h zero i text k = k
each_is L f h (suc n) i text k = rw (k.4, h i k.0 k.2 k.3, each_is L f h n (i + 1) k.1 k.5)
