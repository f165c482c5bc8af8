-- A sum or difference that is tested for overflow: the signed type has a value where the number fits the width, and the register holds it.
use Rattle.std.proofs.Common.{◌≡◌, ℕ, ◌^◌, Bool, true, false, ℤ, pos, negsuc, sym, refl, ap, ◌∙◌, w64, SFits, of_z, ltb-true, lt-ltb}
use Rattle.std.specs.Prelude.{Option, Some, None, MatchOption, IsSomeAnd}
use Rattle.std.specs.Option.{SomeIff}
use mir.Syntax.{Width}
use mir.Val.{hbits}
use Rattle.word.specs.Sum.{fits?, checked}
use Rattle.word.proofs.Registers.{register_fits}

-- the rule's test says whether a number fits
test : (w : Width) (z : ℤ) → SFits w z → fits? w z ≡ true
test w (pos n) f = lt-ltb n (2 ^ hbits w) f.sfits
test w (negsuc n) f = lt-ltb n (2 ^ hbits w) f.sfits

tested : (w : Width) (z : ℤ) → fits? w z ≡ true → SFits w z
tested w (pos n) e = record { sfits = ltb-true n (2 ^ hbits w) e }
tested w (negsuc n) e = record { sfits = ltb-true n (2 ^ hbits w) e }

-- what the signed type answers of the number z, and the register r that the answer is turned into
pub checked_is : (w : Width) (z : ℤ) (o : Option ℤ) (r : Option ℕ) → SomeIff o (SFits w z) z
    → MatchOption o (r ≡ None) (λ x. IsSomeAnd r (λ y. y ≡ of_z w64 x))
    → r ≡ checked w z
unfolding checked
checked_is w z None r n m = m ∙ go (fits? w z) refl
  where
    go : (b : Bool) → fits? w z ≡ b → None ≡ checked w z
    go true e = absurd (n (tested w z e))
    go false e = rw e
checked_is w z (Some x) None f m = absurd m
checked_is w z (Some x) (Some y) f m = rw (test w z f.0) (ap Some (m ∙ ap (of_z w64) f.1 ∙ sym (register_fits w z f.0)))
