-- What is written fits: the line of a refusal or of a word its 16 bytes, an image its 65,536.
use Prim.Native.Nat.{ℕ, ◌≤◌}
use mathlib.Core.Bool.{Bool, true, false}
use mathlib.Core.List.{List}
use mathlib.Core.Path.{◌≡◌, refl, sym, ap, ◌∙◌}
use native.Mathlib.Omega.{arith}
use lib.Dec.{leb}
use lib.ListN.{length}
use lib.Seq.{sets, length-sets}
use borrow.Author.Tests.{leb-true}
use Rattle.std.specs.Prelude.{Result, Ok, Err, IfOk}
use Rattle.std.proofs.lemmas.Result.{IfOk-at_ok}
use Rattle.promise.specs.Pick.{pick}
use Rattle.io.specs.Counts.{IsPrefixLen}
use Rattle.io.proofs.Counting.{prefix_len_of_le}
use Rattle.answer.specs.Wrote.{Wrote}
use Rattle.place.specs.declared.Refusal.{Refusal}
use Rattle.place.specs.declared.Refusal.TheVariants.{TooLong}
use Rattle.place.specs.Plan.{plan_of}
use Rattle.place.specs.Ram.{ram_of}
use Rattle.place.specs.Made.{Verdict, or, after, early, text_of, read_refusal, text_made, made_of, out_after, Answered}

-- a line
pub line : {was text is : List ℕ} {n : ℕ} → Wrote was 0 text n is → n ≤ 16 → length is ≡ 16 → IsPrefixLen n is
line {was} {text} {is} {n} w h e = prefix_len_of_le n is (omega arith)

-- a text that is not refused has at most 65,536 bytes
abbrev Most : Result ℕ Refusal → Type 0
Most r = IfOk r (λ n. n ≤ 65536)

or_most : (v : Verdict) (r : Result ℕ Refusal) → Most r → Most (or v r)
or_most (Ok u) r h = h
or_most (Err e) r h = tt

text_most : (text : List ℕ) (n : ℕ) (tlb ram : List ℕ) → Most (text_made text n tlb ram)
unfolding text_made
text_most text n tlb ram = go (leb (length text) 65536) refl
  where
    go : (t : Bool) → leb (length text) 65536 ≡ t → Most (pick t (or (read_refusal text n tlb ram) (Ok (length text))) (Err (TooLong (length text))))
    go true p = or_most (read_refusal text n tlb ram) (Ok (length text)) (leb-true _ _ p)
    go false p = tt

made_most : (file : ℕ → List ℕ) (n : ℕ) (settings : List ℕ) → Most (made_of file n settings)
unfolding made_of
made_most file n settings = or_most (early file n) _ (text_most (text_of file n settings) n (plan_of file n).tlb (ram_of file n))

-- the buffer is as long as it was
out_long : (file : ℕ → List ℕ) (n : ℕ) (settings was : List ℕ) → length (out_after file n settings was) ≡ length was
unfolding out_after
out_long file n settings was = go (early file n)
  where
    go : (v : Verdict) → length (after v (sets was 0 (text_of file n settings)) was) ≡ length was
    go (Ok u) = length-sets was 0 (text_of file n settings)
    go (Err r) = refl

-- an image
pub image : {r : Result ℕ Refusal} {m : ℕ} {out : List ℕ} (file : ℕ → List ℕ) (n : ℕ) (settings was : List ℕ) → Answered r out (made_of file n settings) (out_after file n settings was) → r ≡ Ok m → length was ≡ 65536 → IsPrefixLen m out
image {r} {m} {out} file n settings was w e l =
    let h : m ≤ 65536 = IfOk-at_ok _ (sym w.answer ∙ e) (made_most file n settings) in
    let o : length out ≡ 65536 = ap length w.buffer ∙ out_long file n settings was ∙ l in
    prefix_len_of_le m out (omega arith)
