-- What isolation rests on: an exception leads out of User mode and keeps the ASID; the end of a step and LL change neither.
use Rattle.std.proofs.Common.{Option, None, Some, ◌≡◌, ℕ, ◌/◌, ◌%◌, ◌^◌, Bool, true, false, refl, ap, ◌∙◌, arith, eq-eqb}
use Rattle.memory.specs.declared.PAddr.{PAddr}
use Rattle.tlb.specs.declared.Mode.TheVariants.{User}
use Rattle.cp0.specs.declared.Cp0.{Cp0}
use Rattle.cp0.specs.declared.Bad.{Bad}
use Rattle.cp0.specs.declared.Bad.TheVariants.{Address, Page}
use Rattle.cp0.specs.declared.Exception.{Exception}
use Rattle.cp0.specs.Registers.{set, replaced, linked}
use Rattle.cp0.specs.Status.{EXL, user, mode_of}
use Rattle.cp0.specs.Exceptions.{told, addressed, entered}
use Rattle.cp0.specs.Tick.{ended}

-- User mode is where `user` says so
pub mode_user : (status : ℕ) → user status ≡ true → mode_of status ≡ User
unfolding mode_of
mode_user status h = rw h

-- with EXL set it is not User mode
not_user : (status : ℕ) → EXL status ≡ true → user status ≡ false
unfolding user
not_user status h = grind arith

addressed_status : (c : Cp0) (b : Option Bad) → (addressed c b).status ≡ c.status
unfolding addressed set
addressed_status c None = refl
addressed_status c (Some (Address v)) = refl
addressed_status c (Some (Page v)) = refl

addressed_asid : (c : Cp0) (b : Option Bad) → (addressed c b).entryhi % 2 ^ 8 ≡ c.entryhi % 2 ^ 8
unfolding addressed set
addressed_asid c None = refl
addressed_asid c (Some (Address v)) = refl
addressed_asid c (Some (Page v)) = omega arith

module _ (c : Cp0) (pc : ℕ) (slot : Bool) (e : Exception) where
  entered_status : (entered c pc slot e).status ≡ replaced c.status 1 1 1
  unfolding entered set
  entered_status = addressed_status _ (told e).bad

  pub entered_exl : EXL (entered c pc slot e).status ≡ true
  entered_exl = let one : replaced c.status 1 1 1 / 2 % 2 ≡ 1 = omega arith in eq-eqb _ _ (ap (λ (s : ℕ). s / 2 % 2) entered_status ∙ one)

  pub entered_not_user : user (entered c pc slot e).status ≡ false
  entered_not_user = not_user (entered c pc slot e).status entered_exl

  pub entered_asid : (entered c pc slot e).entryhi % 2 ^ 8 ≡ c.entryhi % 2 ^ 8
  unfolding entered set
  entered_asid = addressed_asid _ (told e).bad

-- the end of a step
pub ended_status : (wrote : Bool) (c : Cp0) → (ended wrote c).status ≡ c.status
unfolding ended set
ended_status wrote c = refl

pub ended_entryhi : (wrote : Bool) (c : Cp0) → (ended wrote c).entryhi ≡ c.entryhi
unfolding ended set
ended_entryhi wrote c = refl

-- LL
pub linked_status : (c : Cp0) (p : PAddr) → (linked c p).status ≡ c.status
unfolding linked set
linked_status c p = refl

pub linked_entryhi : (c : Cp0) (p : PAddr) → (linked c p).entryhi ≡ c.entryhi
unfolding linked set
linked_entryhi c p = refl
