-- What `cardstate` prints for a text, a boot ROM and interrupt lines.
use Rattle.std.specs.Prelude.{ℕ, ◌≤◌, List, length}
use Rattle.std.specs.Option.{option_map_or}
use Rattle.card.specs.Run.{Whole, run_of, ran}
use Rattle.image.specs.declared.Refusal.{Refusal}
use Rattle.image.specs.Image.{image_of, ram_after}
use Rattle.answer.specs.Frames.{refusal_frame}
use Rattle.answer.specs.Texts.{cardstate_text}

-- a run's text, with the RAM that it left
abbrev pub state_of : Whole → List ℕ
state_of w = cardstate_text (ran w) w.ram

-- the run of an image (I12)
abbrev pub run : List ℕ → List ℕ → List ℕ → ℕ → Whole
run text ram rom lines = run_of rom lines (image_of text ram).budget (image_of text ram).machine (ram_after text ram)

-- a refusal prints only its frame; where there is none, the state after the run (house; I14)
unfoldable pub printed : List ℕ → List ℕ → List ℕ → ℕ → List ℕ
printed text ram rom lines =
    option_map_or (λ (r : Refusal). refusal_frame r.number r.line) (image_of text ram).refusal (state_of (run text ram rom lines))

-- RAM after it: as the run left it; where the image is refused, as the reader left it (N15)
unfoldable pub ram_left : List ℕ → List ℕ → List ℕ → ℕ → List ℕ
ram_left text ram rom lines = option_map_or (λ (r : Refusal). ram_after text ram) (image_of text ram).refusal (run text ram rom lines).ram

-- it is never longer than the program's buffer of 262,144 bytes
abbrev pub Fits : Type 0
Fits = (text ram rom : List ℕ) (lines : ℕ) → length (printed text ram rom lines) ≤ 262144
