-- The argument that says what is wanted, and how many files go with it.
use Rattle.std.specs.Prelude.{ℕ, List, Option, Some, None, codes, bytes_eq, eqb, leb}
use Rattle.promise.specs.Pick.{pick, both}
use Rattle.cardimage_main.specs.declared.arguments.Mode.{Mode}
use Rattle.cardimage_main.specs.declared.arguments.Mode.TheVariants.{User, Kernel, Symbol}

-- what a word says (L1)
abbrev pub mode_of : List ℕ → Option Mode
mode_of word =
    pick (bytes_eq word (codes "user")) (Some User)
    (pick (bytes_eq word (codes "kernel")) (Some Kernel) (pick (bytes_eq word (codes "symbol")) (Some Symbol) None))

-- how many arguments go with it, the program's own name and this word counted: a kernel and 1 to 7 programs; one program; a program and a name (L1)
abbrev pub counted : Mode → ℕ → Option Mode
counted User n = pick (both (leb 4 n) (leb n 10)) (Some User) None
counted Kernel n = pick (eqb n 3) (Some Kernel) None
counted Symbol n = pick (eqb n 4) (Some Symbol) None
