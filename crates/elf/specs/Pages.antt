-- The pages of a segment at home, each of 4096 bytes.
use Rattle.std.specs.Prelude.{ℕ, ◌+◌, ◌-◌, ◌/◌, ◌%◌, false, List, eqb, ltb}
use Rattle.promise.specs.Pick.{pick}
use Rattle.elf.specs.declared.Header.{Header}
use Rattle.elf.specs.declared.Pages.{Pages}
use Rattle.elf.specs.declared.Space.{Space}
use Rattle.elf.specs.Header.{count, header, loads}
use Rattle.elf.specs.Home.{home}

-- how many pages n addresses from a on touch, n not 0
unfoldable pub spans : ℕ → ℕ → ℕ
spans a n = (a + n + 4095) / 4096 - a / 4096

-- the pages of a header, writable if bit 1 of its flags is set; none where it is no segment (L20)
unfoldable pub pages_of : Space → List ℕ → Header → Pages
pages_of space file h =
    record {
      first = home space h.vaddr / 4096;
      count = pick (loads file h) (spans (home space h.vaddr) h.memsz) 0;
      writable = eqb (h.flags / 2 % 2) 1;
    }

-- of header i; none past the last
unfoldable pub pages_at : Space → List ℕ → ℕ → Pages
pages_at space file i = pick (ltb i (count file)) (pages_of space file (header file i)) (record { first = 0; count = 0; writable = false })
