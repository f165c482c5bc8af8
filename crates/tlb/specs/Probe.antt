-- TLBP: what Index becomes.
use Rattle.std.specs.Prelude.{ℕ, List, Result, Ok, Err}
use Rattle.tlb.specs.declared.Found.{Found}
use Rattle.tlb.specs.declared.Found.TheVariants.{Absent, One, Many}
use Rattle.tlb.specs.declared.DoubleMatch.{DoubleMatch}
use Rattle.tlb.specs.Slot.{asid_of}
use Rattle.tlb.specs.Match.{lookup}
use Rattle.tlb.specs.Translate.{vaddr}

-- the slot that matches; 80000000 where none does (T10); two that match are stop 16 (N18)
unfoldable pub probed : Found → Result ℕ DoubleMatch
probed Absent = Ok 0x80000000
probed (One i) = Ok i
probed Many = Err (record {})

-- the page and the ASID are EntryHi's
unfoldable pub probe : List ℕ → ℕ → Result ℕ DoubleMatch
probe tlb entryhi = probed (lookup tlb (asid_of entryhi) (vaddr entryhi))
