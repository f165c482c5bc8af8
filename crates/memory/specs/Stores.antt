-- Stores: which bytes go where, and what becomes of RAM.
use Rattle.std.specs.Prelude.{ℕ, ◌+◌, ◌-◌, ◌*◌, ◌/◌, ◌%◌, ◌^◌, List, Bool, leb, Option, Some, None, Result, Ok, Err}
use Rattle.std.proofs.lemmas.List.Edits.{sets}
use Rattle.promise.specs.Pick.{pick, both}
use Rattle.memory.specs.declared.PAddr.{PAddr}
use Rattle.memory.specs.declared.Store.{Store}
use Rattle.memory.specs.declared.BusError.{BusError}
use Rattle.memory.specs.Bytes.{bytes_of}
use Rattle.memory.specs.Memory.{in_ram}

-- SB: the low byte of the register (C4)
abbrev pub sb : PAddr → ℕ → Store
sb p value = record { to = p; size = 1; value = value }

-- SH: the low halfword (C4)
abbrev pub sh : PAddr → ℕ → Store
sh p value = record { to = p; size = 2; value = value }

-- SW: the low word (C4)
abbrev pub sw : PAddr → ℕ → Store
sw p value = record { to = p; size = 4; value = value }

-- SD: the doubleword (C4)
abbrev pub sd : PAddr → ℕ → Store
sd p value = record { to = p; size = 8; value = value }

-- left: the top of the register's low `size` bytes, from p to the end of the aligned `size` (C4)
abbrev pub store_left : ℕ → PAddr → ℕ → Store
store_left size p value = record { to = p; size = size - p.0 % size; value = value / 2 ^ (8 * (p.0 % size)) }

-- right: the bottom of the register, from the start of the aligned `size` to p (C4)
abbrev pub store_right : ℕ → PAddr → ℕ → Store
store_right size p value = record { to = record { 0 = p.0 / size * size }; size = p.0 % size + 1; value = value }

-- SWL: left of a word (C4)
abbrev pub swl : PAddr → ℕ → Store
swl p value = store_left 4 p value

-- SWR: right of a word (C4)
abbrev pub swr : PAddr → ℕ → Store
swr p value = store_right 4 p value

-- SDL: left of a doubleword (C4)
abbrev pub sdl : PAddr → ℕ → Store
sdl p value = store_left 8 p value

-- SDR: right of a doubleword (C4)
abbrev pub sdr : PAddr → ℕ → Store
sdr p value = store_right 8 p value

-- a store lands where RAM has the place and one to eight bytes go out, all within the eight aligned ones (D9)
abbrev pub lands : List ℕ → Store → Bool
lands ram s = both (in_ram ram s.to) (both (leb 1 s.size) (leb (s.to.0 % 8 + s.size) 8))

-- RAM after a store: the bytes from its place on are set, and no others; nothing where it does not land, or where there is no store (D9)
unfoldable pub put_bytes : List ℕ → Option Store → List ℕ
put_bytes ram None = ram
put_bytes ram (Some s) = pick (lands ram s) (sets ram s.to.0 (bytes_of s.size s.value)) ram

-- whether it is a bus error, as elsewhere and in ROM (D9)
unfoldable pub put_answer : List ℕ → Option Store → Result Unit BusError
put_answer ram None = Ok tt
put_answer ram (Some s) = pick (lands ram s) (Ok tt) (Err (record {}))
