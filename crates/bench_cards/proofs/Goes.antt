-- Card 10: slot i matches alone, so the address goes through its half.
use Prim.Native.Nat.{ℕ, ◌<◌}
use mathlib.Core.Path.{◌≡◌, refl, ap, ◌∙◌}
use mathlib.Core.Bool.{true}
use mathlib.Core.List.{List}
use native.Mathlib.Omega.{arith}
use lib.Dec.{ltb}
use Rattle.tlb.specs.declared.VAddr.{VAddr}
use Rattle.tlb.specs.declared.Slot.{Slot}
use Rattle.tlb.specs.declared.Mode.{Mode}
use Rattle.tlb.specs.declared.Mode.TheVariants.{User}
use Rattle.tlb.specs.declared.Found.TheVariants.{Absent}
use Rattle.tlb.specs.Slot.{slot_at, stored}
use Rattle.tlb.specs.Match.{matches, matches_at, lookup, Only}
use Rattle.tlb.specs.Translate.{through_slot, through_found, mapped}
use Rattle.tlb.specs.Segments.{word, aligned, extended, segment, translate}
use Rattle.tlb.proofs.Tells.{only_one, absent_none}
use Rattle.tlb.proofs.Written.{put_same, put_other}
use Rattle.card.specs.Machine.{fresh_slots, fresh}
use Rattle.bench_cards.specs.Cards.{moved, written, Granted}

-- what the write stores
abbrev held : Slot
held = stored moved

module _ (mode : Mode) (tlb : List ℕ) (i align : ℕ) (v : VAddr) (g : Granted mode tlb i align v) where
  holds : slot_at (written tlb i) i ≡ held
  holds = put_same tlb i moved g.full g.there

  -- no other slot matches after the write either
  alone : (j : ℕ) → j < 48 → matches_at (written tlb i) 1 v j ≡ true → j ≡ i
  unfolding matches_at
  alone j h m =
      let o = put_other tlb i j moved in
      let f = g.no_other j h in
      grind arith

  -- the address goes through the slot
  through_it : matches held 1 v ≡ true → mapped (written tlb i) 1 v ≡ through_slot held i v
  unfolding mapped through_found matches_at
  through_it m =
      let o : Only (matches_at (written tlb i) 1 v) 48 i = record { below = g.there; matches_it = ap (λ (s : Slot). matches s 1 v) holds ∙ m; alone = alone } in
      ap (through_found (written tlb i) v) (only_one (written tlb i) 1 v i o) ∙ ap (λ (s : Slot). through_slot s i v) holds

  pub goes : matches held 1 v ≡ true → extended v ≡ true → ltb (word v) 0x80000000 ≡ true → translate mode 1 (written tlb i) align v ≡ through_slot held i v
  unfolding translate segment
  goes m e l =
      let t = through_it m in
      let f = g.fits in
      let n = g.no_error in
      grind arith

-- no slot of the fresh machine matches, so it is granted of whichever is written
module _ (v : VAddr) (a : aligned 1 v ≡ true) (none : lookup fresh.tlb 1 v ≡ Absent) (i : ℕ) (h : i < 48) where
  pub granted : Granted User fresh.tlb i 1 v
  unfolding fresh fresh_slots
  granted =
      record {
        full = refl;
        there = h;
        fits = a;
        no_error = λ e. cc;
        no_other = λ j l n. absent_none fresh.tlb 1 v none j l;
      }
