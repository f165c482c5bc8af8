-- A stage that goes on: it does not stop, it enters no exception, and what it sends out lands, since translation keeps an address's offset.
use Prim.Native.Nat.{ℕ, ◌/◌, ◌%◌, ◌^◌, ◌<◌}
use native.Mathlib.Omega.{arith}
use mathlib.Core.Path.{◌≡◌, refl}
use mathlib.Core.Bool.{Bool, true, false}
use mathlib.Core.List.{List}
use lib.ListN.{length}
use Rattle.std.specs.Prelude.{Option, Some, None, Ok}
use Rattle.memory.specs.declared.PAddr.{PAddr}
use Rattle.memory.specs.declared.Store.{Store}
use Rattle.memory.specs.Stores.{put_answer}
use Rattle.memory.specs.Landings.{sb_done, sh_done, sw_done, sd_done, swl_done, swr_done, sdl_done, sdr_done}
use Rattle.tlb.specs.declared.VAddr.{VAddr}
use Rattle.tlb.specs.declared.Mode.{Mode}
use Rattle.tlb.specs.declared.Where.{Where}
use Rattle.tlb.specs.declared.Where.TheVariants.{Mapped, Unmapped, Invalid, Refill, Double, AddressError}
use Rattle.tlb.specs.declared.SlotWrite.{SlotWrite}
use Rattle.tlb.specs.Translate.{mapped}
use Rattle.tlb.specs.Segments.{aligned, upper, segment, translate}
use Rattle.tlb.proofs.Near.{mapped_offset}
use Rattle.tlb.proofs.UserMap.{mapped_not_unmapped}
use Rattle.decode.specs.declared.LoadOp.{LoadOp}
use Rattle.decode.specs.declared.StoreOp.{StoreOp}
use Rattle.execute.specs.LoadStore.{store_align, goes_out}
use Rattle.access.specs.declared.Turn.{Turn}
use Rattle.access.specs.declared.Turn.TheVariants as turn
use Rattle.access.specs.declared.Effect.{Effect}
use Rattle.access.specs.Effect.{effects}
use Rattle.access.specs.Access.{linking, if_linked, sending}

-- the turn is the entry of an exception
abbrev pub entering : Turn → Bool
entering turn.Next = false
entering (turn.Branch to) = false
entering turn.Skip = false
entering (turn.HiLo hi lo) = false
entering (turn.Link p) = false
entering (turn.Enter e) = true
entering (turn.Move number value) = false
entering (turn.Read s) = false
entering (turn.Probed i) = false
entering turn.Eret = false
entering turn.Stay = false

-- an effect that goes on, with this RAM
pub record On (s : List ℕ) (e : Effect) : Type 0 where
  pub stop : e.stop ≡ None
  pub turn : entering e.turn ≡ false
  pub store : put_answer s e.store ≡ Ok tt

-- nothing is sent out
pub quiet : (s : List ℕ) (t : Turn) (reg value : ℕ) (w : Option SlotWrite) → entering t ≡ false → On s (effects t reg value w None None)
unfolding put_answer
quiet s t reg value w h = record { stop = refl; turn = h; store = refl }

pub linking_on : (op : LoadOp) (p : PAddr) → entering (linking op p) ≡ false
unfolding linking
linking_on op p = grind arith

-- what SC and SCD let through is the same or nothing
if_linked_lem : (s : List ℕ) (link : Bool) (w : Store) → put_answer s (Some w) ≡ Ok tt → put_answer s (if_linked link w) ≡ Ok tt
unfolding put_answer
if_linked_lem s true w h = h
if_linked_lem s false w h = refl

-- so they send out what lands
pub sending_on : (s : List ℕ) (op : StoreOp) (reg : ℕ) (link : Bool) (w : Store) → put_answer s (Some w) ≡ Ok tt → On s (sending op reg link w)
unfolding sending put_answer
sending_on s op reg link w h = grind arith

-- ---- translation keeps the offset in 4 KiB

-- where an address leads, if it does, has the address's offset
abbrev pub Keeps : VAddr → Where → Type 0
Keeps v (Mapped p h) = p.0 % 2 ^ 12 ≡ v.0 % 2 ^ 12
Keeps v (Unmapped p) = p.0 % 2 ^ 12 ≡ v.0 % 2 ^ 12
Keeps v (Invalid h) = Unit {0}
Keeps v Refill = Unit {0}
Keeps v Double = Unit {0}
Keeps v AddressError = Unit {0}

module _ (asid : ℕ) (tlb : List ℕ) (v : VAddr) where
  mapped_keeps : Keeps v (mapped tlb asid v)
  mapped_keeps = grind (arith, mapped_offset, mapped_not_unmapped)

  segment_keeps : (mode : Mode) → Keeps v (segment mode asid tlb v)
  unfolding segment upper
  segment_keeps mode = let k = mapped_keeps in grind arith

  -- an address that is no error is aligned and leads where it keeps its offset
  pub led_on : (mode : Mode) (align : ℕ) (x : Where) → translate mode asid tlb align v ≡ x → (x ≡ AddressError → ⊥) → (v.0 % align ≡ 0) × Keeps v x
  unfolding translate aligned
  led_on mode align x e n = let k = segment_keeps mode in grind arith

-- ---- so what goes out lands

module _ (s : List ℕ) (p : PAddr) (v : VAddr) (value : ℕ) (h : p.0 / 8 < length s / 8) (o : p.0 % 2 ^ 12 ≡ v.0 % 2 ^ 12) where
  pub out_lands : (op : StoreOp) → v.0 % store_align op ≡ 0 → put_answer s (Some (goes_out op p value)) ≡ Ok tt
  unfolding store_align goes_out
  out_lands op a = grind (arith, sb_done, sh_done, sw_done, sd_done, swl_done, swr_done, sdl_done, sdr_done)
