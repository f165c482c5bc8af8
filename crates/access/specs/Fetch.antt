-- The fetch: address error, refill or stop 16, invalid, bus error, in this order, else the word at PC (S5).
-- `look` is memory: from a physical address to its eight bytes.
use Rattle.std.specs.Prelude.{ℕ, true, false, Option, Some, None, Result, Ok, Err}
use Rattle.memory.specs.declared.PAddr.{PAddr}
use Rattle.memory.specs.declared.Eight.{Eight}
use Rattle.memory.specs.declared.Eight.TheVariants.{Ram, Rom}
use Rattle.memory.specs.Loads.{lwu}
use Rattle.tlb.specs.declared.VAddr.{VAddr}
use Rattle.tlb.specs.declared.Where.{Where}
use Rattle.tlb.specs.declared.Where.TheVariants.{Mapped, Unmapped, Invalid, Refill, Double, AddressError}
use Rattle.cp0.specs.declared.Exception.TheVariants.{TLBL, AdEL, IBE}
use Rattle.access.specs.declared.Unfetched.{Unfetched}
use Rattle.access.specs.declared.Unfetched.TheVariants as unfetched

-- the word of the eight bytes found, or a bus error
unfoldable pub word_found : PAddr → Option Eight → Result ℕ Unfetched
word_found p (Some (Ram n)) = Ok (lwu n p)
word_found p (Some (Rom n)) = Ok (lwu n p)
word_found p None = Err (unfetched.Raise IBE)

-- the word at PC, once PC is translated
unfoldable pub word_at : VAddr → (PAddr → Option Eight) → Where → Result ℕ Unfetched
word_at pc look (Mapped p h) = word_found p (look p)
word_at pc look (Unmapped p) = word_found p (look p)
word_at pc look (Invalid h) = Err (unfetched.Raise (TLBL pc false))
word_at pc look Refill = Err (unfetched.Raise (TLBL pc true))
word_at pc look Double = Err unfetched.Double
word_at pc look AddressError = Err (unfetched.Raise (AdEL pc))
