-- Where the segments of a file are at home, and what stands there.
use Rattle.std.specs.Prelude.{ℕ, zero, suc, ◌+◌, ◌-◌, Bool, List, leb, ltb}
use Rattle.promise.specs.Pick.{pick, both, either}
use Rattle.elf.specs.declared.Header.{Header}
use Rattle.elf.specs.declared.Space.{Space}
use Rattle.elf.specs.declared.Space.TheVariants.{User, Kernel}
use Rattle.elf.specs.Bytes.{byte}
use Rattle.elf.specs.Header.{header, count, loads}

-- the physical address of an unmapped one, from 80000000 or a0000000 on; a mapped one is its own, or far past the RAM (L13)
unfoldable pub physical : ℕ → ℕ
physical v = pick (leb 0xa0000000 v) (v - 0xa0000000) (pick (leb 0x80000000 v) (v - 0x80000000) v)

-- a User program's address is its own; a kernel's is the physical one (L13)
unfoldable pub home : Space → ℕ → ℕ
home User v = v
home Kernel v = physical v

-- n addresses from v on go into the stack's page or above it (L14)
unfoldable pub outside_user : ℕ → ℕ → Bool
outside_user v n = ltb 0x7ffff000 (v + n)

-- n addresses from v on are not unmapped ones, or go past the RAM, 65,536 bytes; from c0000000 on they do (L14)
unfoldable pub outside_kernel : ℕ → ℕ → Bool
outside_kernel v n = either (ltb v 0x80000000) (ltb 65536 (physical v + n))

-- a header is outside (L14)
unfoldable pub outside : Space → Header → Bool
outside User h = outside_user h.vaddr h.memsz
outside Kernel h = outside_kernel h.vaddr h.memsz

-- address a is one of n from b on
unfoldable pub within : ℕ → ℕ → ℕ → Bool
within b n a = both (leb b a) (ltb a (b + n))

-- a header is a segment whose home has address a
unfoldable pub covers : Space → List ℕ → Header → ℕ → Bool
covers space file h a = both (within (home space h.vaddr) h.memsz a) (loads file h)

-- of a segment at home at b: the file's byte, or 0 in its tail (L18)
unfoldable pub byte_of : List ℕ → Header → ℕ → ℕ → ℕ
byte_of file h b a = pick (ltb (a - b) h.filesz) (byte file (h.offset + (a - b))) 0

-- of the first segment, of `left` headers from header i on, that covers address a; 0 where there is none (L18)
unfoldable pub stands_from : Space → List ℕ → ℕ → ℕ → ℕ → ℕ
stands_from space file a zero i = 0
stands_from space file a (suc left) i =
    pick (covers space file (header file i) a)
    (byte_of file (header file i) (home space (header file i).vaddr) a)
    (stands_from space file a left (i + 1))

-- what stands at address a of a file's home (L18)
unfoldable pub stands : Space → List ℕ → ℕ → ℕ
stands space file a = stands_from space file a (count file) 0
