-- Addresses of one 4 KiB page, and what they share.
use Rattle.std.specs.Prelude.{◌+◌, ◌*◌, ◌/◌, ◌%◌, ◌^◌, ◌≡◌}
use Rattle.memory.specs.declared.PAddr.{PAddr}
use Rattle.tlb.specs.declared.VAddr.{VAddr}
use Rattle.tlb.specs.declared.Where.{Where}
use Rattle.tlb.specs.declared.Where.TheVariants.{Mapped, Unmapped, Invalid, Refill, Double, AddressError}
use Rattle.tlb.specs.Translate.{paddr}

-- two addresses lie in one 4 KiB page
abbrev pub SamePage : VAddr → VAddr → Type 0
SamePage v w = v.0 / 2 ^ 12 ≡ w.0 / 2 ^ 12

-- the physical address in p's 4 KiB at w's offset
abbrev pub at_offset : PAddr → VAddr → PAddr
at_offset p w = paddr (p.0 / 2 ^ 12 * 2 ^ 12 + w.0 % 2 ^ 12)

-- the answer for an address, moved to another of its page: the same, but for the physical address's offset
unfoldable pub toward : VAddr → Where → Where
toward w (Mapped p h) = Mapped (at_offset p w) h
toward w (Unmapped p) = Unmapped (at_offset p w)
toward w (Invalid h) = Invalid h
toward w Refill = Refill
toward w Double = Double
toward w AddressError = AddressError
