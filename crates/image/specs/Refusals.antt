-- Refusals of an image, by the numbers of document 01's table and the line that each names.
use Rattle.std.specs.Prelude.{ℕ, ◌+◌, Bool, true, false, List, Option, Some, None, option_map, eqb, leb, length}
use Rattle.std.specs.Option.{option_or}
use Rattle.promise.specs.Pick.{pick, either}
use Rattle.frame.specs.Line.{Lines, done, unended, line, lines_of}
use Rattle.frame.specs.Frame.{frame_of}
use Rattle.frame.specs.declared.Frame.{Frame}
use Rattle.frame.specs.declared.Frame.TheVariants.{Register, Memory, Budget, Cp0, Slot}
use Rattle.image.specs.declared.Refusal.{Refusal}
use Rattle.image.specs.declared.refusals.Why.{Why}
use Rattle.image.specs.declared.refusals.Why.TheVariants.{RamLength, TooLong, NoFrame, BadValue, BudgetNotLast}
use Rattle.image.specs.Allowed.{allowed}

-- a refusal: its number, and the line that it names
abbrev pub refusal : ℕ → ℕ → Refusal
refusal number at = record { number = number; line = at }

-- why an image is refused, by number: RAM of another length, a text that is too long, a line that is no frame, a value that is not allowed, a budget that is missing or not last (N6 to N9, N15)
abbrev pub number : Why → ℕ
number RamLength = 1
number TooLong = 5
number NoFrame = 6
number BadValue = 7
number BudgetNotLast = 8

-- a line is the budget's frame
abbrev pub is_budget : Option Frame → Bool
is_budget (Some (Budget n)) = true
is_budget (Some (Register number value)) = false
is_budget (Some (Memory address value)) = false
is_budget (Some (Cp0 number value)) = false
is_budget (Some (Slot index mask hi lo0 lo1)) = false
is_budget None = false

-- of one line: 6 where it is no frame, 7 where its value is not allowed, 8 for any frame after the budget; else none (N7, N8, N9, N16, I10)
abbrev pub refusal_of : Bool → Option Frame → Option ℕ
refusal_of after None = Some 6
refusal_of after (Some f) = pick (allowed f) (pick after (Some 8) None) (Some 7)

-- line n's refusal, where it has one (N16)
abbrev pub refused_at : ℕ → Bool → Option Frame → Option Refusal
refused_at n after f = option_map (λ (number : ℕ). refusal number n) (refusal_of after f)

-- of lines counted from n, after the budget or before it: the first that is refused; a line that no LF ends is 6; with no budget 8 names one past the last (N16, I1, I10)
unfoldable pub first_of : Lines → ℕ → Bool → Option Refusal
first_of done n after = pick after None (Some (refusal 8 n))
first_of (unended l) n after = Some (refusal 6 n)
first_of (line l ls) n after =
    option_or (refused_at n after (frame_of l)) (first_of ls (n + 1) (either after (is_budget (frame_of l))))

-- the bytes of RAM that an image needs, and the most that its text may have (N6, N15)
abbrev pub size : ℕ
size = 65536

-- of a text and lent RAM: 1 for RAM of another length, then 5 for a text that is too long, both at line 0; then of the lines, counted from 1 (N6, N15, I1)
unfoldable pub image_refusal : List ℕ → List ℕ → Option Refusal
image_refusal text ram =
    pick (eqb (length ram) size)
    (pick (leb (length text) size) (first_of (lines_of text) 1 false) (Some (refusal 5 0)))
    (Some (refusal 1 0))
