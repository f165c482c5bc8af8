-- What the RAM holds.
use Rattle.std.specs.Prelude.{ℕ, zero, suc, ◌+◌, ◌*◌, ◌/◌, ◌%◌, List, [], ◌∷◌, Option, Some, None, ltb, get_or}
use Rattle.promise.specs.Pick.{pick}
use Rattle.elf.specs.declared.Space.TheVariants.{User, Kernel}
use Rattle.elf.specs.Home.{stands}
use Rattle.place.specs.declared.Owner.{Owner}
use Rattle.place.specs.Plan.{kernel_pages, plan_of}

-- at physical address p of a page of RAM that is so owned: what stands at that address of the program; 0 of nobody's (L20)
unfoldable pub owned_byte : (ℕ → List ℕ) → Option Owner → ℕ → ℕ
owned_byte file None p = 0
owned_byte file (Some o) p = stands User (file o.asid) (o.page * 4096 + p % 4096)

-- at physical address p: in the kernel's pages what stands there of the kernel, else what its owner has there (L19, L20)
unfoldable pub byte_at : (ℕ → List ℕ) → ℕ → List (Option Owner) → ℕ → ℕ
byte_at file kernel pages p =
    pick (ltb (p / 4096) kernel) (stands Kernel (file 0) p) (owned_byte file (get_or pages (p / 4096) None) p)

-- n bytes from physical address p on
unfoldable pub bytes_from : (ℕ → List ℕ) → ℕ → List (Option Owner) → ℕ → ℕ → List ℕ
bytes_from file kernel pages zero p = []
bytes_from file kernel pages (suc n) p = byte_at file kernel pages p ∷ bytes_from file kernel pages n (p + 1)

-- the RAM of a kernel and n programs (L19, L20)
unfoldable pub ram_of : (ℕ → List ℕ) → ℕ → List ℕ
ram_of file n = bytes_from file (kernel_pages (file 0)) (plan_of file n).pages 65536 0
