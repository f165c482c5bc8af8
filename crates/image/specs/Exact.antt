-- The refusals of an image, each exactly in its case and at its line, over the lines of the text as a reader counts them (N6 to N9, N14 to N16, I1, I9, I10).
use Rattle.std.specs.Prelude.{ℕ, ◌<◌, ◌≤◌, true, false, List, Option, Some, None, ◌↔◌, ◌⊎◌, ◌≡◌, length}
use Rattle.std.specs.Option.{IsSomeAnd}
use Rattle.promise.specs.Pick.{pick}
use Rattle.frame.specs.Line.{line_of, ended_line, from_line}
use Rattle.frame.specs.Frame.{frame_of}
use Rattle.frame.specs.declared.Frame.{Frame}
use Rattle.card.specs.Machine.{in_range}
use Rattle.image.specs.Allowed.{allowed}
use Rattle.image.specs.Refusals.{refusal, is_budget}
use Rattle.image.specs.Image.{image_of, ram_after}

-- line n is there: some of the text is left where it begins (I1)
abbrev pub There : List ℕ → ℕ → Type 0
There text n = 0 < length (from_line text n)

-- the frame that line n is; none where no LF ends the line (I1)
unfoldable pub frame_at : List ℕ → ℕ → Option Frame
frame_at text n = pick (ended_line (from_line text n)) (frame_of (line_of (from_line text n))) None

-- a budget frame stands before line n (I9)
pub record Budgeted (text : List ℕ) (n : ℕ) : Type 0 where
  pub place : ℕ
  pub counted : 1 ≤ place
  pub before : place < n
  pub is : is_budget (frame_at text place) ≡ true

-- line n is a frame whose value is allowed
abbrev pub AllowedAt : List ℕ → ℕ → Type 0
AllowedAt text n = IsSomeAnd (frame_at text n) (λ (f : Frame). allowed f ≡ true)

-- line n passes: it is a frame, its value is allowed, and no budget frame stands before it (N16)
pub record Passes (text : List ℕ) (n : ℕ) : Type 0 where
  pub frame : AllowedAt text n
  pub in_time : Budgeted text n → ⊥

-- line n, counted from 1, is come to: every line before it passes (N16)
pub record Reached (text : List ℕ) (n : ℕ) : Type 0 where
  pub counted : 1 ≤ n
  pub passed : (k : ℕ) → 1 ≤ k → k < n → Passes text k

-- refusal 6: line n is there, and is not ended or is no frame (N7)
abbrev pub NoFrame : List ℕ → ℕ → Type 0
NoFrame text n = Reached text n × There text n × (frame_at text n ≡ None)

-- refusal 7: line n is a frame whose value is not allowed (N8)
abbrev pub BadValue : List ℕ → ℕ → Type 0
BadValue text n = Reached text n × IsSomeAnd (frame_at text n) (λ (f : Frame). allowed f ≡ false)

-- refusal 8: line n is an allowed frame after the budget's (N9, I10)
abbrev pub AfterBudget : List ℕ → ℕ → Type 0
AfterBudget text n = Reached text n × AllowedAt text n × Budgeted text n

-- refusal 8: there is no line n, one past the last, and no budget frame came (N9, I10)
abbrev pub NoBudget : List ℕ → ℕ → Type 0
NoBudget text n = Reached text n × (There text n → ⊥) × (Budgeted text n → ⊥)

-- no refusal: all lines pass, and a budget frame is among them, so that it is the last (I9)
pub record Whole (text : List ℕ) : Type 0 where
  pub past : ℕ
  pub reached : Reached text past
  pub over : There text past → ⊥
  pub budget : Budgeted text past

-- RAM has 65,536 bytes, and the text has no more (N6, N15)
abbrev pub Fits : List ℕ → List ℕ → Type 0
Fits text ram = (length ram ≡ 65536) × (length text ≤ 65536)

-- reading refuses by this number at this line
abbrev pub Gives : List ℕ → List ℕ → ℕ → ℕ → Type 0
Gives text ram number n = (image_of text ram).refusal ≡ Some (refusal number n)

-- of every text and every RAM: nothing is refused just in its case; each number is given just in its case and at its line, and no other number is; a refusal leaves RAM unchanged; the machine is in range, so that a run does not refuse it (N5 to N9, N14 to N16)
pub record Exact (text ram : List ℕ) : Type 0 where
  pub zero : ((image_of text ram).refusal ≡ None) ↔ (Fits text ram × Whole text)
  pub one : (n : ℕ) → Gives text ram 1 n ↔ ((length ram ≡ 65536 → ⊥) × (n ≡ 0))
  pub five : (n : ℕ) → Gives text ram 5 n ↔ ((length ram ≡ 65536) × (65536 < length text) × (n ≡ 0))
  pub six : (n : ℕ) → Gives text ram 6 n ↔ (Fits text ram × NoFrame text n)
  pub seven : (n : ℕ) → Gives text ram 7 n ↔ (Fits text ram × BadValue text n)
  pub eight : (n : ℕ) → Gives text ram 8 n ↔ (Fits text ram × (AfterBudget text n ⊎ NoBudget text n))
  pub no_other : (number n : ℕ) → Gives text ram number n → (number ≡ 1) ⊎ ((5 ≤ number) × (number ≤ 8))
  pub same_ram : (number n : ℕ) → Gives text ram number n → ram_after text ram ≡ ram
  pub is_in_range : in_range (image_of text ram).machine ≡ true
