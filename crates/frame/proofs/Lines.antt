-- The lines of a text begin with the line up to its first LF: what a loop over a text goes by.
use Prim.Native.Nat.{ℕ, suc, ◌<◌, ◌≤◌}
use mathlib.Core.Bool.{Bool, true, false}
use mathlib.Core.Path.{◌≡◌, refl}
use mathlib.Core.List.{List, [], ◌∷◌}
use native.Mathlib.Nat.{le_of_suc-le-suc, not-suc-le-zero}
use native.Mathlib.Omega.{arith}
use borrow.Author.Tests.{ltb-true, ltb-false}
use lib.Dec.{eqb}
use lib.ListN.{length, drop}
use Rattle.frame.specs.Line.{LF, line_of, done, unended, line, before, lines_of, ended_line}

-- a first line that is ended, and what comes after it
abbrev pub Next : List ℕ → Type 0
Next t = length (line_of t) < length t → lines_of t ≡ line (line_of t) (lines_of (drop (suc (length (line_of t))) t))

next_one : (x : ℕ) (xs : List ℕ) (b : Bool) → eqb x LF ≡ b → Next xs → Next (x ∷ xs)
unfolding line_of lines_of before
next_one x xs true e later h = simp e
next_one x xs false e later h =
    let i : length (line_of xs) < length xs = le_of_suc-le-suc (simp e at h) in
    simp (e, later i)

pub next : (t : List ℕ) → Next t
unfolding line_of
next [] = λ h. absurd (not-suc-le-zero h)
next (x ∷ xs) = next_one x xs (eqb x LF) refl (next xs)

-- a last line that no LF ends
abbrev pub Last : List ℕ → Type 0
Last t = 0 < length t → length t ≤ length (line_of t) → lines_of t ≡ unended (line_of t)

last_one : (x : ℕ) (b : Bool) → eqb x LF ≡ b → Last (x ∷ [])
unfolding line_of lines_of before
last_one x true e p h = let i : 1 ≤ 0 = simp e at h in absurd (omega arith)
last_one x false e p h = simp e

last_more : (x y : ℕ) (ys : List ℕ) (b : Bool) → eqb x LF ≡ b → Last (y ∷ ys) → Last (x ∷ y ∷ ys)
unfolding line_of lines_of before
last_more x y ys true e later p h = let i : suc (suc (length ys)) ≤ 0 = simp e at h in absurd (omega arith)
last_more x y ys false e later p h =
    let i : length (y ∷ ys) ≤ length (line_of (y ∷ ys)) = le_of_suc-le-suc (simp e at h) in
    simp (e, later (omega arith) i)

pub last : (t : List ℕ) → Last t
last [] = λ p h. absurd (not-suc-le-zero p)
last (x ∷ []) = last_one x (eqb x LF) refl
last (x ∷ y ∷ ys) = last_more x y ys (eqb x LF) refl (last (y ∷ ys))

-- the three forms of a text: nothing; a line that no LF ends; a line that is ended, and what comes after it
pub data Form (t : List ℕ) : Type 0 where
  empty : length t ≡ 0 → lines_of t ≡ done → Form t
  cut : 0 < length t → ended_line t ≡ false → lines_of t ≡ unended (line_of t) → Form t
  whole : ended_line t ≡ true → lines_of t ≡ line (line_of t) (lines_of (drop (suc (length (line_of t))) t)) → Form t

pub form : (t : List ℕ) → Form t
unfolding lines_of ended_line
form [] = empty refl refl
form (x ∷ xs) = go (ended_line (x ∷ xs)) refl
  where
    go : (b : Bool) → ended_line (x ∷ xs) ≡ b → Form (x ∷ xs)
    go true e = whole e (next (x ∷ xs) (ltb-true _ _ e))
    go false e = cut (omega arith) e (last (x ∷ xs) (omega arith) (ltb-false _ _ e))
