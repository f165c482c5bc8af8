-- Each test of the code is a test of the definition.
use Rattle.memory.specs.Memory.{part, place}
use mathlib.Core.Path.{refl}
use borrow.Author.Tests.{lt-ltb, le-ltb, le-leb, lt-leb}
use native.Mathlib.Nat.{add-sub_cancel_left}
use Rattle.memory.proofs.part.Goals as goal

pub returns-then-k-ram : goal.returns-then-k-ram
unfolding part place
returns-then-k-ram c = simp (lt-ltb _ _ c.if-k-ram.true, add-sub_cancel_left) (refl, refl)

pub returns-then-at-lt-ROM_BASE : goal.returns-then-at-lt-ROM_BASE
unfolding part place
returns-then-at-lt-ROM_BASE c = simp (le-ltb _ _ c.if-k-ram.false, lt-leb _ _ c.if-at-lt-ROM_BASE.true) (refl, refl)

pub returns-then-j-rom : goal.returns-then-j-rom
unfolding part place
returns-then-j-rom c = simp (le-ltb _ _ c.if-k-ram.false, le-leb _ _ c.if-at-lt-ROM_BASE.false, lt-ltb _ _ c.if-j-rom.true, add-sub_cancel_left) (refl, refl)

pub returns : goal.returns
unfolding part place
returns c = simp (le-ltb _ _ c.if-k-ram.false, le-leb _ _ c.if-at-lt-ROM_BASE.false, le-ltb _ _ c.if-j-rom.false) (refl, refl)
