-- The files of an image, one after the other in one list: the kernel is file 0, the programs are 1, 2, ..
use Rattle.std.specs.Prelude.{ℕ, zero, suc, ◌-◌, List, [], leb, length, get_or, take, drop}
use Rattle.promise.specs.Pick.{pick, both}
use Rattle.place.specs.declared.files.Files.{Files}

-- where file k begins: the first at 0, each other where the one before it ends
unfoldable pub start : List ℕ → ℕ → ℕ
start ends zero = 0
start ends (suc k) = get_or ends k 0

-- where file k ends
unfoldable pub end : List ℕ → ℕ → ℕ
end ends k = get_or ends k 0

-- file k; where the ends are not in order or past the list, nothing (L2)
unfoldable pub file_at : List ℕ → List ℕ → ℕ → List ℕ
file_at files ends k =
    pick (both (leb (start ends k) (end ends k)) (leb (end ends k) (length files)))
    (take (end ends k - start ends k) (drop (start ends k) files))
    []

-- file k of these
abbrev pub file_of : Files → ℕ → List ℕ
file_of f k = file_at f.bytes.now f.ends.now k
