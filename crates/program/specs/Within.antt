-- How much a reading may say that it read.
use Rattle.std.specs.Prelude.{ℕ, List, Result, IfOk}
use Rattle.io.specs.Counts.{IsPrefixLen}
use Rattle.program.specs.declared.ReadFailed.{ReadFailed}

-- no more bytes than the room has; a failed reading says nothing of it
abbrev pub Within : Result ℕ ReadFailed → List ℕ → Type 0
Within read buf = IfOk read (λ n. IsPrefixLen n buf)
