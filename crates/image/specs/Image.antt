-- The image of a text: the refusal, or what its frames leave.
use Rattle.std.specs.Prelude.{ℕ, List, Option, Some, None, ◌≡◌, length, replicate}
use Rattle.frame.specs.Line.{lines_of}
use Rattle.card.specs.declared.Machine.{Machine}
use Rattle.card.specs.Machine.{fresh}
use Rattle.image.specs.declared.Refusal.{Refusal}
use Rattle.image.specs.declared.Image.{Image}
use Rattle.image.specs.Refusals.{image_refusal}
use Rattle.image.specs.Acts.{Loaded, loaded, acts}

-- the frames of a text act on the fresh machine, on RAM that is zeroed, and on budget 0 (I11)
unfoldable pub loaded_by : List ℕ → List ℕ → Loaded
loaded_by text ram = acts (lines_of text) (loaded fresh (replicate (length ram) 0) 0)

-- a machine and a budget, with the refusal where there is one
abbrev pub image : Machine → ℕ → Option Refusal → Image
image m budget r = record { machine = m; budget = budget; refusal = r }

-- what was read is what the frames leave
pub record Has (l : Loaded) (r : Image) (ram : List ℕ) : Type 0 where
  pub image : r ≡ image l.machine l.budget None
  pub memory : ram ≡ l.ram

-- all that is read, by the refusal: where there is none, what the frames leave; else the fresh machine and no budget
abbrev pub image_by : Option Refusal → Loaded → Image
image_by None l = image l.machine l.budget None
image_by (Some r) l = image fresh 0 (Some r)

-- RAM after it: a refusal leaves it unchanged
abbrev pub ram_by : Option Refusal → Loaded → List ℕ → List ℕ
ram_by None l ram = l.ram
ram_by (Some r) l ram = ram

-- the image of a text (N6 to N9, N15)
unfoldable pub image_of : List ℕ → List ℕ → Image
image_of text ram = image_by (image_refusal text ram) (loaded_by text ram)

-- RAM after it is read (N15)
unfoldable pub ram_after : List ℕ → List ℕ → List ℕ
ram_after text ram = ram_by (image_refusal text ram) (loaded_by text ram) ram
