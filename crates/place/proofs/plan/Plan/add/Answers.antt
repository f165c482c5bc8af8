-- The slot is found; then it has the page, or the next page is taken, or RAM is full.
use Rattle.place.specs.Plan.{again, crowded}
use Rattle.place.proofs.Pages.{add_again, add_crowded, add_taken}
use Rattle.place.proofs.plan.Plan.add.Goals as goal

pub returns-then-lo-ne0 : goal.returns-then-lo-ne0
unfolding again
returns-then-lo-ne0 c = rw (← c.self.view_is, c.granted.ensures, c.lo_at-at.ensures.0) (add_again _ _ _ _ _ c.key.ensures _ c.find-i.ensures.0 _ c.lo_at-at.ensures.0 c.if-lo-ne0.true)

pub returns-then-self-lt-RAM_PAGES : goal.returns-then-self-lt-RAM_PAGES
returns-then-self-lt-RAM_PAGES c = rw (c.take.ensures, ← c.self.view_is) (add_taken _ _ _ _ _ c.key.ensures _ c.find-i.ensures.0 _ c.lo_at-at.ensures.0 c.if-lo-ne0.false c.if-self-lt-RAM_PAGES.true)

pub returns-else-self-lt-RAM_PAGES : goal.returns-else-self-lt-RAM_PAGES
unfolding crowded
returns-else-self-lt-RAM_PAGES c = rw (← c.self.view_is, c.or-self-inside.ensures) (add_crowded _ _ _ _ _ c.key.ensures _ c.find-i.ensures.0 _ c.lo_at-at.ensures.0 c.if-lo-ne0.false c.if-self-lt-RAM_PAGES.false)
