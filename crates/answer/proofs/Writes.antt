-- Texts that are written piece by piece.
use Prim.Native.Nat.{ℕ, suc, ◌+◌, ◌^◌, ◌<◌}
use mathlib.Core.Path.{◌≡◌, refl, ◌∙◌, subst, subst⁻¹}
use mathlib.Core.List.{List, [], ◌∷◌, ◌++◌}
use lib.ListN.{length, set}
use lib.Seq.{sets}
use Rattle.std.specs.Prelude.{Option}
use Rattle.std.specs.Borrow.{MutBor}
use Rattle.frame.specs.declared.Frame.{Frame}
use Rattle.answer.specs.declared.Text.{Text}
use Rattle.answer.specs.Put.{Put}
use Rattle.answer.specs.Wrote as one_buffer
use Rattle.answer.specs.Frames.{printed, each, IsEach}
use Rattle.answer.proofs.Laws.{each_is}

infixl 60 ◌then◌
pub ◌then◌ : {t u v : Text} {a b : List ℕ} → Put t u a → Put u v b → Put t v (a ++ b)
◌then◌ p q = record { same = q.same ∙ p.same; wrote = one_buffer.◌then◌ p.wrote q.wrote }

-- nothing to write
pub nothing : {t : Text} → Put t t []
nothing = record { same = refl; wrote = one_buffer.nothing }

-- one byte
pub put_one : {t : Text} {m : MutBor (List ℕ)} {b : ℕ} → m.ghost_name ≡ t.out.ghost_name → m.now ≡ set t.out.now t.at b → Put t (record { out = m; at = t.at + 1 }) (b ∷ [])
put_one p q = record { same = p; wrote = one_buffer.one q }

-- what is left to write of a text
pub record Still (was is : Text) (text rest : List ℕ) : Type 0 where
  pub same : is.out.ghost_name ≡ was.out.ghost_name
  pub left : one_buffer.Left is.out.now is.at rest (sets was.out.now was.at text) (was.at + length text)

pub start : {t : Text} {a : List ℕ} → Still t t a a
start = record { same = refl; left = record { fills = refl; ends = refl } }

pub step : {t u v : Text} {a s r : List ℕ} → Still t u a (s ++ r) → Put u v s → Still t v a r
step p q = record { same = q.same ∙ p.same; left = one_buffer.went q.wrote p.left }

pub finish : {t u : Text} {a : List ℕ} → Still t u a [] → Put t u a
finish p = record { same = p.same; wrote = one_buffer.done p.left }

-- ---- lines

-- whatever the lines that are left, those before them are written
pub record Going (L : ℕ → Option Frame → Type 0) (total from : ℕ) (t : Text) (n i : ℕ) (u : Text) : Type 0 where
  pub with : (rest : List ℕ) → IsEach L n i rest → (text : List ℕ) × IsEach L total from text × Still t u text rest

pub begin : {L : ℕ → Option Frame → Type 0} {n i : ℕ} {t : Text} → Going L n i t n i t
begin = record { with = λ rest k. (rest, k, start) }

module _ {L : ℕ → Option Frame → Type 0} {total from i : ℕ} {t : Text} where
  pub one_more : {u v : Text} {n m : ℕ} (f : Option Frame) → m ≡ suc n → i < 2 ^ 16 → L i f → Put u v (printed f) → Going L total from t m i u → Going L total from t n (i + 1) v
  unfolding IsEach
  one_more f e b p w h =
      record {
        with =
            λ rest k.
            let x = h.with (printed f ++ rest) (subst⁻¹ (λ (j : ℕ). IsEach L j i (printed f ++ rest)) e (f, rest, b, p, refl, k)) in
            (x.0, x.1, step x.2 w);
      }

  pub no_more : {u : Text} {n : ℕ} → n ≡ 0 → Going L total from t n i u → (text : List ℕ) × IsEach L total from text × Put t u text
  unfolding IsEach
  no_more e h =
      let x = h.with [] (subst⁻¹ (λ (j : ℕ). IsEach L j i []) e refl) in
      (x.0, x.1, finish x.2)

-- where each line is known, the lines are
pub lines : {L : ℕ → Option Frame → Type 0} {t u : Text} (n i : ℕ) (f : ℕ → Option Frame) → ((k : ℕ) (r : Option Frame) → k < 2 ^ 16 → L k r → r ≡ f k) → (text : List ℕ) × IsEach L n i text × Put t u text → Put t u (each f n i)
lines {L} {t} {u} n i f h x = subst (Put t u) (each_is L f h n i x.0 x.1) x.2
