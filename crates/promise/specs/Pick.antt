-- A choice by a test, as every definition of the rulebook makes it.
use Rattle.std.specs.Prelude.{Bool, true, false, ◌≡◌, refl}

-- the first where the test holds, else the second
abbrev pub pick : {A : Type 0} → Bool → A → A → A
pick true a b = a
pick false a b = b

-- both tests hold
abbrev pub both : Bool → Bool → Bool
both a b = pick a b false

-- one of two tests holds, or both do
abbrev pub either : Bool → Bool → Bool
either a b = pick a true b

-- the test does not hold
abbrev pub not : Bool → Bool
not a = pick a false true

-- a function may go inside a choice
pub pick_ap : {A B : Type 0} (f : A → B) (t : Bool) (a b : A) → f (pick t a b) ≡ pick t (f a) (f b)
pick_ap f true a b = refl
pick_ap f false a b = refl

-- where the second of two tests does not hold, not both do
pub both_false : (a b : Bool) → b ≡ false → both a b ≡ false
both_false true b e = e
both_false false b e = refl
