-- How long an answer may be: no text is longer than the buffer that its program lends.
use Rattle.std.specs.Prelude.{ℕ, ◌≤◌, List, ◌≡◌, length}
use Rattle.card.specs.declared.Ran.{Ran}
use Rattle.answer.specs.Frames.{refusal_frame}
use Rattle.answer.specs.Texts.{cardrun_text, cardstate_text}

-- of every run: a refusal has 13 bytes; `cardrun` prints 13, at most 33 registers of 21, and PC of 21; `cardstate` prints 13, 35 registers of 21, 23, 20 registers of CP0 of 21, 48 slots of 37 and at most 8,192 doublewords of 27 (I13, I14)
pub record Lengths : Type 0 where
  pub refusal : (number line : ℕ) → length (refusal_frame number line) ≡ 13
  pub cardrun : (r : Ran) → length (cardrun_text r) ≤ 727
  pub cardstate : (r : Ran) (ram : List ℕ) → length (cardstate_text r ram) ≤ 224151
