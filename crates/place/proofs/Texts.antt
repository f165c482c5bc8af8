-- Laws of the entry, of what the reader makes of a text, and of the answer.
use Prim.Native.Nat.{ℕ, ◌+◌, ◌^◌, ◌<◌, ◌≤◌}
use mathlib.Core.Bool.{Bool, true, false}
use mathlib.Core.Bool as bool
use mathlib.Core.Path.{◌≡◌, refl, sym, ap, ◌∙◌}
use mathlib.Core.List.{List}
use Rattle.std.specs.Prelude.{Ok, Err}
use native.Mathlib.Omega.{arith}
use borrow.Author.Tests.{le-leb, lt-leb}
use lib.Dec.{eqb}
use lib.ListN.{length, take, drop}
use lib.Seq.{sets, sets-eq, take-append_seam}
use Rattle.word.specs.Extend as Extend
use Rattle.word.specs.Word as Word
use Rattle.answer.specs.Wrote.{Wrote}
use Rattle.answer.specs.Placed.{placed_text}
use Rattle.promise.specs.Pick.{not}
use Rattle.place.specs.declared.Refusal.TheVariants.{TooLong}
use Rattle.place.specs.Made.{Verdict, or, extended, read_refusal, text_made, written, text_answer, Answered}

-- a word, extended as a register's low word is
pub extended_is : (v : ℕ) → v < 2 ^ 32 → Word.extend v ≡ extended v
unfolding extended Extend.extend
extended_is v h = grind arith

-- what is read back is the text
pub reads_back : (out text : List ℕ) → length text ≤ length out → take (length text) (sets out 0 text) ≡ text
reads_back out text h =
    let g : 0 + length text ≤ length out = omega arith in
    ap (take (length text)) (sets-eq text out 0 g) ∙ take-append_seam text (drop (0 + length text) out)

-- a flag's two negations
pub not_is : (t : Bool) → bool.not t ≡ not t
not_is true = refl
not_is false = refl

-- the answer of a text that was written
module _ (tlb ram : List ℕ) (used n pc : ℕ) (settings out : List ℕ) (user : Bool) (u : user ≡ not (eqb n 0)) (end : ℕ) (is : List ℕ) (w : Wrote out 0 (placed_text tlb ram used user pc settings) end is) where
  text : List ℕ
  text = written tlb ram used n pc settings

  text_by : placed_text tlb ram used user pc settings ≡ text
  unfolding text
  text_by = ap (λ (t : Bool). placed_text tlb ram used t pc settings) u

  ends : length text ≡ end
  ends = omega (arith, w.ends, ap length text_by)

  filled : is ≡ sets out 0 text
  filled = w.filled ∙ ap (sets out 0) text_by

  pub too_long : 65536 < end → Answered (Err (TooLong end)) is (text_answer tlb ram used n pc settings) (sets out 0 (written tlb ram used n pc settings))
  unfolding text text_made
  too_long h = record { answer = simp (ends, lt-leb end 65536 h); buffer = filled }

  read_is : length out ≡ 65536 → end ≤ 65536 → take end is ≡ text
  read_is l h =
      ap (take end) filled
      ∙ ap (λ (k : ℕ). take k (sets out 0 text)) (sym ends)
      ∙ reads_back out text (omega (arith, ends))

  pub text_is : length out ≡ 65536 → end ≤ 65536 → (v : Verdict) → v ≡ read_refusal (take end is) n tlb ram → Answered (or v (Ok end)) is (text_answer tlb ram used n pc settings) (sets out 0 (written tlb ram used n pc settings))
  unfolding text text_made
  text_is l h v e =
      record {
        answer = ap (λ (s : Verdict). or s (Ok end)) (e ∙ ap (λ (t : List ℕ). read_refusal t n tlb ram) (read_is l h)) ∙ simp (ends, le-leb end 65536 h);
        buffer = filled;
      }
