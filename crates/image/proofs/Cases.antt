-- Of one line, 6, 7, 8 or none is given exactly in its case (N14, N16).
use Prim.Native.Nat.{ℕ, ◌≤◌}
use mathlib.Core.Bool.{Bool, true, false}
use mathlib.Core.Path.{◌≡◌, refl}
use native.Mathlib.Omega.{arith}
use Rattle.std.specs.Prelude.{Option, Some, None}
use Rattle.std.specs.Option.{IsSomeAnd}
use Rattle.std.proofs.lemmas.Option.{same_Some}
use Rattle.promise.specs.Pick.{pick}
use Rattle.frame.specs.declared.Frame.{Frame}
use Rattle.image.specs.Allowed.{allowed}
use Rattle.image.specs.Refusals.{refusal_of}

-- a frame whose value is allowed, and one whose value is not
abbrev pub Good : Option Frame → Type 0
Good f = IsSomeAnd f (λ (g : Frame). allowed g ≡ true)

abbrev pub Bad : Option Frame → Type 0
Bad f = IsSomeAnd f (λ (g : Frame). allowed g ≡ false)

-- what the number that a line gives says of it
pub record Given (after : Bool) (f : Option Frame) (number : ℕ) : Type 0 where
  pub six : number ≡ 6 → f ≡ None
  pub seven : number ≡ 7 → Bad f
  pub eight : number ≡ 8 → Good f × (after ≡ true)
  pub among : (6 ≤ number) × (number ≤ 8)

module _ (g : Frame) where
  given_frame : (x y : Bool) (number : ℕ) → allowed g ≡ x → pick x (pick y (Some 8) None) (Some 7) ≡ Some number → Given y (Some g) number
  given_frame true true number p h =
      let e : 8 ≡ number = same_Some _ _ h in
      record { six = λ z. absurd (omega arith); seven = λ z. absurd (omega arith); eight = λ z. (p, refl); among = (omega arith, omega arith) }
  given_frame true false number p h = absurd (none h)
    where
      none : None ≡ Some number → ⊥
      none e = cc
  given_frame false y number p h =
      let e : 7 ≡ number = same_Some _ _ h in
      record { six = λ z. absurd (omega arith); seven = λ z. p; eight = λ z. absurd (omega arith); among = (omega arith, omega arith) }

  passed_frame : (x y : Bool) → allowed g ≡ x → pick {A = Option ℕ} x (pick y (Some 8) None) (Some 7) ≡ None → (allowed g ≡ true) × (y ≡ false)
  passed_frame true true p h = absurd (cc)
  passed_frame true false p h = (p, refl)
  passed_frame false y p h = absurd (cc)

pub given : (after : Bool) (f : Option Frame) (number : ℕ) → refusal_of after f ≡ Some number → Given after f number
given after None number h =
    let e : 6 ≡ number = same_Some _ _ h in
    record { six = λ z. refl; seven = λ z. absurd (omega arith); eight = λ z. absurd (omega arith); among = (omega arith, omega arith) }
given after (Some g) number h = given_frame g (allowed g) after number refl h

-- a line that gives none passes
pub passed : (after : Bool) (f : Option Frame) → refusal_of after f ≡ None → Good f × (after ≡ false)
passed after None h = absurd (cc)
passed after (Some g) h = passed_frame g (allowed g) after refl h

pub gives_6 : (after : Bool) (f : Option Frame) → f ≡ None → refusal_of after f ≡ Some 6
gives_6 after f e = rw e

pub gives_7 : (after : Bool) (f : Option Frame) → Bad f → refusal_of after f ≡ Some 7
gives_7 after None p = elim p [ ]
gives_7 after (Some g) p = simp p

pub gives_8 : (after : Bool) (f : Option Frame) → Good f → after ≡ true → refusal_of after f ≡ Some 8
gives_8 after None p e = elim p [ ]
gives_8 after (Some g) p e = simp (p, e)

pub gives_none : (after : Bool) (f : Option Frame) → Good f → after ≡ false → refusal_of after f ≡ None
gives_none after None p e = elim p [ ]
gives_none after (Some g) p e = simp (p, e)
