-- Which slots match an address, of all 48.
use Rattle.std.specs.Prelude.{ℕ, zero, suc, ◌+◌, ◌/◌, ◌%◌, ◌^◌, ◌<◌, Bool, true, false, List, ◌≡◌, eqb}
use Rattle.promise.specs.Pick.{both, either}
use Rattle.tlb.specs.declared.VAddr.{VAddr}
use Rattle.tlb.specs.declared.Slot.{Slot}
use Rattle.tlb.specs.declared.Found.{Found}
use Rattle.tlb.specs.declared.Found.TheVariants.{Absent, One, Many}
use Rattle.tlb.specs.Slot.{slot_at, asid_of, global_of}

-- two page numbers agree: of their `width` bits each is masked or the same in both (T4)
unfoldable pub agree : ℕ → ℕ → ℕ → ℕ → Bool
agree zero mask p q = true
agree (suc width) mask p q = both (either (eqb (mask % 2) 1) (eqb (p % 2) (q % 2))) (agree width (mask / 2) (p / 2) (q / 2))

-- the bits of a page number: 31..13 of an address (T4)
abbrev pub page_width : ℕ
page_width = 19

-- the slot is global or of this address space (T4)
unfoldable pub same_space : ℕ → ℕ → Bool
same_space hi asid = either (global_of hi) (eqb (asid_of hi) asid)

-- mask and page of a slot match an address over a width of page number; nothing is asked of V (T4, T5)
unfoldable pub hits : ℕ → ℕ → ℕ → ℕ → ℕ → Bool
hits width mask hi asid v = both (agree width (mask / 2 ^ 13) (hi / 2 ^ 13) (v / 2 ^ 13)) (same_space hi asid)

-- a slot matches an address (T4, T5)
abbrev pub matches : Slot → ℕ → VAddr → Bool
matches s asid v = hits page_width s.mask s.hi asid v.0

-- slot i of the TLB matches
unfoldable pub matches_at : List ℕ → ℕ → VAddr → ℕ → Bool
matches_at tlb asid v i = matches (slot_at tlb i) asid v

-- one slot more is looked at: the first that matches is the one, two are many
unfoldable pub more : Bool → ℕ → Found → Found
more false i f = f
more true i Absent = One i
more true i (One j) = Many
more true i Many = Many

-- `left` slots from i on are looked at, after those that gave f
unfoldable pub seek : ℕ → ℕ → List ℕ → ℕ → VAddr → Found → Found
seek zero i tlb asid v f = f
seek (suc left) i tlb asid v f = seek left (i + 1) tlb asid v (more (matches_at tlb asid v i) i f)

-- all 48 slots are looked at (C1)
unfoldable pub lookup : List ℕ → ℕ → VAddr → Found
lookup tlb asid v = seek 48 0 tlb asid v Absent

-- two different slots below n match
pub record Two (matching : ℕ → Bool) (n : ℕ) : Type 0 where
  pub first : ℕ
  pub second : ℕ
  pub apart : first < second
  pub below : second < n
  pub first_matches : matching first ≡ true
  pub second_matches : matching second ≡ true

-- slot i below n matches, and it alone
pub record Only (matching : ℕ → Bool) (n i : ℕ) : Type 0 where
  pub below : i < n
  pub matches_it : matching i ≡ true
  pub alone : (j : ℕ) → j < n → matching j ≡ true → j ≡ i

-- what a search of n slots tells: none matches, just this one does, or two do
unfoldable pub Tells : (ℕ → Bool) → ℕ → Found → Type 0
Tells matching n Absent = (j : ℕ) → j < n → matching j ≡ false
Tells matching n (One i) = Only matching n i
Tells matching n Many = Two matching n
