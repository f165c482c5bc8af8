-- What `cardrun` prints for a text.
use Rattle.std.specs.Prelude.{ℕ, ◌≤◌, List, [], length}
use Rattle.std.specs.Option.{option_map_or}
use Rattle.card.specs.Run.{run_of, ran}
use Rattle.image.specs.declared.Refusal.{Refusal}
use Rattle.image.specs.Image.{image_of, ram_after}
use Rattle.answer.specs.Frames.{refusal_frame}
use Rattle.answer.specs.Texts.{cardrun_text}

-- a refusal prints only its frame; where there is none, the image is run with no ROM and lines 0 (I12, I13, I14)
unfoldable pub printed : List ℕ → List ℕ → List ℕ
printed text ram =
    option_map_or (λ (r : Refusal). refusal_frame r.number r.line) (image_of text ram).refusal
    (cardrun_text (ran (run_of [] 0 (image_of text ram).budget (image_of text ram).machine (ram_after text ram))))

-- it is never longer than the program's buffer of 1,024 bytes
abbrev pub Fits : Type 0
Fits = (text ram : List ℕ) → length (printed text ram) ≤ 1024
