-- The first segment that covers the address.
use mathlib.Core.Path.{sym, ◌∙◌}
use Rattle.elf.specs.Home.{stands}
use Rattle.elf.proofs.Laws.{covers_on}
use Rattle.elf.proofs.Turns.{stands_turn, stands_done}
use Rattle.elf.proofs.homes.stands.Goals as goal

pub byte_of-requires : goal.byte_of-requires
byte_of-requires c = rw (c.home.ensures) (covers_on _ _ _ _ (sym c.covers.ensures ∙ c.if-covers.true)).0

pub returns-then-covers : goal.returns-then-covers
unfolding stands
returns-then-covers c = rw (c.byte_of.ensures, c.home.ensures, c.header-h.ensures) (sym (c.loop-i.invariant ∙ stands_turn _ _ _ _ _ c.loop-i-test.true ∙ simp (sym c.header-h.ensures, sym c.covers.ensures ∙ c.if-covers.true)))

pub loop-i-preserved : goal.loop-i-preserved
loop-i-preserved c = c.loop-i.invariant ∙ stands_turn _ _ _ _ _ c.loop-i-test.true ∙ simp (sym c.header-h.ensures, sym c.covers.ensures ∙ c.if-covers.false)

pub returns : goal.returns
unfolding stands
returns c = sym (c.loop-i.invariant ∙ stands_done _ _ _ _ _ c.loop-i-test.false)
