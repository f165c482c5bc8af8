-- What it is to have written a text into a lent buffer, and how two texts become one.
use Rattle.std.specs.Prelude.{ℕ, suc, ◌+◌, ◌≡◌, refl, List, [], ◌∷◌, ◌++◌, length, set}
use Rattle.std.proofs.Common.{arith, ◌∙◌, length-append}
use Rattle.std.proofs.lemmas.List.Edits.{sets}

-- the buffer holds the text from `at` on, as far as it reaches, and is otherwise as it was; `end` is where the text ends
pub record Wrote (was : List ℕ) (at : ℕ) (text : List ℕ) (end : ℕ) (is : List ℕ) : Type 0 where
  pub ends : end ≡ at + length text
  pub filled : is ≡ sets was at text

-- a text written in two pieces
pub sets_append : (l : List ℕ) (i : ℕ) (s t : List ℕ) → sets (sets l i s) (i + length s) t ≡ sets l i (s ++ t)
sets_append l i [] t = let e : i + 0 ≡ i = omega arith in rw e
sets_append l i (v ∷ s) t = let e : i + suc (length s) ≡ suc i + length s = omega arith in rw e (sets_append _ (suc i) s t)

infixl 60 ◌then◌
pub ◌then◌ : {l m n s t : List ℕ} {a b e : ℕ} → Wrote l a s b m → Wrote m b t e n → Wrote l a (s ++ t) e n
◌then◌ {l} {m} {n} {s} {t} {a} {b} {e} p q =
    record {
      ends = omega (arith, p.ends, q.ends, length-append s t);
      filled = q.filled ∙ rw (p.filled, p.ends) (sets_append l a s t);
    }

-- nothing to write
pub nothing : {l : List ℕ} {a : ℕ} → Wrote l a [] a l
nothing {l} {a} = record { ends = omega arith; filled = refl }

-- one byte
pub one : {l m : List ℕ} {a v : ℕ} → m ≡ set l a v → Wrote l a (v ∷ []) (a + 1) m
one p = record { ends = refl; filled = p }

-- what is left to write gives the buffer `all`, and ends at `end`
pub record Left (was : List ℕ) (at : ℕ) (text : List ℕ) (all : List ℕ) (end : ℕ) : Type 0 where
  pub fills : sets was at text ≡ all
  pub ends : at + length text ≡ end

-- a piece was written
pub went : {l m s t w : List ℕ} {a b e : ℕ} → Wrote l a s b m → Left l a (s ++ t) w e → Left m b t w e
went {l} {m} {s} {t} {w} {a} {b} {e} p q =
    record {
      fills = rw (p.filled, p.ends) (sets_append l a s t ∙ q.fills);
      ends = omega (arith, p.ends, q.ends, length-append s t);
    }

-- nothing is left
pub done : {l m s : List ℕ} {a b : ℕ} → Left m b [] (sets l a s) (a + length s) → Wrote l a s b m
done {l} {m} {s} {a} {b} p = record { ends = omega (arith, p.ends); filled = p.fills }
