-- Memory: RAM from physical 0 and ROM from 1FC00000, read as the eight aligned bytes that hold an address.
use Rattle.std.specs.Prelude.{ℕ, ◌+◌, ◌-◌, ◌*◌, ◌/◌, List, [], Bool, leb, ltb, length, take, drop, Option, Some, None}
use Rattle.promise.specs.Pick.{pick, both}
use Rattle.memory.specs.Bytes.{eight_of}
use Rattle.memory.specs.declared.PAddr.{PAddr}
use Rattle.memory.specs.declared.Eight.{Eight}
use Rattle.memory.specs.declared.Eight.TheVariants.{Ram, Rom}

-- where ROM starts (D8)
abbrev pub rom_base : ℕ
rom_base = 0x1FC00000

-- RAM, which starts at 0, has the eight aligned bytes that hold p (D8)
abbrev pub in_ram : List ℕ → PAddr → Bool
in_ram ram p = ltb (p.0 / 8) (length ram / 8)

-- ROM has them (D8)
abbrev pub in_rom : List ℕ → PAddr → Bool
in_rom rom p = both (leb rom_base p.0) (ltb ((p.0 - rom_base) / 8) (length rom / 8))

-- the eight aligned bytes of a list that hold its place a
abbrev pub eight_at : List ℕ → ℕ → List ℕ
eight_at l a = take 8 (drop (a / 8 * 8) l)

-- the eight aligned bytes that hold p, of RAM or of ROM; elsewhere none (D10)
unfoldable pub part : List ℕ → List ℕ → PAddr → List ℕ
part ram rom p = pick (in_ram ram p) (eight_at ram p.0) (pick (in_rom rom p) (eight_at rom (p.0 - rom_base)) [])

-- `far` bytes on from a pointer, which is a block and an offset in it
abbrev pub further : ℕ × ℕ → ℕ → ℕ × ℕ
further at far = (at.0, far + at.1)

-- where they stand: among the bytes of RAM or of ROM themselves, so nothing is copied; an empty part stands where RAM starts (D10)
unfoldable pub place : ℕ × ℕ → ℕ × ℕ → List ℕ → List ℕ → PAddr → ℕ × ℕ
place ramAt romAt ram rom p =
    pick (in_ram ram p) (further ramAt (p.0 / 8 * 8))
    (pick (in_rom rom p) (further romAt ((p.0 - rom_base) / 8 * 8)) (further ramAt 0))

-- the part as one number, and whose it is: all that a step sees of memory (D8, D9, D10)
unfoldable pub read : List ℕ → List ℕ → PAddr → Option Eight
read ram rom p =
    pick (in_ram ram p) (Some (Ram (eight_of (part ram rom p)))) (pick (in_rom rom p) (Some (Rom (eight_of (part ram rom p)))) None)
