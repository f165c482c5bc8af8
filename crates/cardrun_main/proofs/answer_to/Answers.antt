-- The image is read, then refused or run, as the definition says.
use Rattle.cardrun_main.specs.Printed.{printed}
use Rattle.cardrun_main.proofs.answer_to.Goals as goal

pub returns-in-Some : goal.returns-in-Some
unfolding printed
returns-in-Some c = rw (← c.read_image-i.ensures.0, c.in-Some.is) c.refusal_text.ensures

pub returns-in-None : goal.returns-in-None
unfolding printed
returns-in-None c =
    rw (← c.read_image-i.ensures.0, ← c.read_image-i.ensures.1, c.in-None.is, ← c.run.ensures.0) c.cardrun_text.ensures
