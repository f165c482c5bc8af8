-- The image is read, then refused or run, as the definition says.
use Rattle.cardstate_main.specs.Printed.{printed, ram_left}
use Rattle.cardstate_main.proofs.answer_to.Goals as goal

pub returns-in-Some-clause-answer : goal.returns-in-Some-clause-answer
unfolding printed
returns-in-Some-clause-answer c = rw (← c.read_image-i.ensures.0, c.in-Some.is) c.refusal_text.ensures

pub returns-in-Some-clause-memory : goal.returns-in-Some-clause-memory
unfolding ram_left
returns-in-Some-clause-memory c = rw (← c.read_image-i.ensures.0, c.in-Some.is) c.read_image-i.ensures.1

pub returns-in-None-clause-answer : goal.returns-in-None-clause-answer
unfolding printed
returns-in-None-clause-answer c =
    rw (← c.read_image-i.ensures.0, ← c.read_image-i.ensures.1, c.in-None.is, ← c.run-ran.ensures.0, ← c.run-ran.ensures.1)
    c.cardstate_text.ensures

pub returns-in-None-clause-memory : goal.returns-in-None-clause-memory
unfolding ram_left
returns-in-None-clause-memory c =
    rw (← c.read_image-i.ensures.0, ← c.read_image-i.ensures.1, c.in-None.is) c.run-ran.ensures.1
