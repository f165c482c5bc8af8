-- Worked examples: reads of RAM, of ROM and elsewhere, by computation.
use Prim.Native.Nat.{ℕ}
use mathlib.Core.Path.{◌≡◌, refl}
use mathlib.Core.List.{List, [], ◌∷◌}
use Rattle.std.specs.Prelude.{Some, None}
use Rattle.memory.specs.declared.PAddr.{PAddr}
use Rattle.memory.specs.declared.Eight.TheVariants.{Ram, Rom}
use Rattle.memory.specs.Bytes.{eight_of}
use Rattle.memory.specs.Memory.{part, read}

abbrev at : ℕ → PAddr
at a = record { 0 = a }

abbrev eight : List ℕ
eight = 0x11 ∷ 0x22 ∷ 0x33 ∷ 0x44 ∷ 0x55 ∷ 0x66 ∷ 0x77 ∷ 0x88 ∷ []

-- an address in RAM gives the eight bytes that hold it (D8, D10)
pub of_ram : read eight [] (at 3) ≡ Some (Ram 0x1122334455667788)
unfolding read part eight_of
of_ram = refl

-- and one in ROM (D8, D10)
pub of_rom : read [] eight (at 0x1FC00007) ≡ Some (Rom 0x1122334455667788)
unfolding read part eight_of
of_rom = refl

-- past the end of RAM there is nothing (D9)
pub past_the_end : read eight eight (at 8) ≡ None
unfolding read
past_the_end = refl
