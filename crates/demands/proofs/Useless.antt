-- Each useless emulator is wrong of document 01's own program, or of two with branches in a slot.
use native.Mathlib.Omega.{arith}
use mathlib.Core.Path.{◌≡◌, refl, ◌∙◌, ap}
use Rattle.card.specs.declared.Machine.{Machine}
use Rattle.card.specs.Machine.{fresh}
use Rattle.card.specs.Run.{Whole}
use Rattle.demands.specs.Given.{all_below, Given}
use Rattle.demands.specs.Useless.{Emulator, Right, RefusesAll, AlwaysFresh, Untouched, AllAtOnce, MadeUp, Useless}
use Rattle.demands.proofs.Example.{start_with, at_start, program, branches, branches_later, worked, given}

-- ---- these calls can be given

one_given : Given (program 1)
unfolding all_below
one_given = given _ _ (omega arith) refl

two_given : Given (program 2)
unfolding all_below
two_given = given _ _ (omega arith) refl

early_given : Given branches
unfolding all_below
early_given = given _ _ (omega arith) refl

late_given : Given branches_later
unfolding all_below
late_given = given _ _ (omega arith) refl

-- ---- PC before and after

start_pc : at_start.cpu.pc ≡ 0xffffffff80000000
unfolding start_with
start_pc = refl

fresh_pc : fresh.cpu.pc ≡ 0xffffffffbfc00000
unfolding fresh
fresh_pc = refl

module _ (f : Emulator) (r : Right f) where
  pc_one : (f (program 1)).machine.cpu.pc ≡ 0xffffffff80000004
  pc_one = ap (λ (w : Whole). w.machine.cpu.pc) (r (program 1) one_given) ∙ worked.one.pc_left

  pc_two : (f (program 2)).machine.cpu.pc ≡ 0xffffffff80000008
  pc_two = ap (λ (w : Whole). w.machine.cpu.pc) (r (program 2) two_given) ∙ worked.two.pc_left

  refuses_all : RefusesAll f → ⊥
  refuses_all p =
      let l = (p (program 1) one_given).0 in
      let e : (f (program 1)).stop ≡ 0 = ap (λ (w : Whole). w.stop) (r (program 1) one_given) ∙ worked.one.stop in
      omega arith

  always_fresh : AlwaysFresh f → ⊥
  always_fresh p =
      let e = pc_one in
      let d : (f (program 1)).machine.cpu.pc ≡ 0xffffffffbfc00000 = ap (λ (m : Machine). m.cpu.pc) (p (program 1) one_given) ∙ fresh_pc in
      omega arith

  untouched : Untouched f → ⊥
  untouched p =
      let e = pc_one in
      let d : (f (program 1)).machine.cpu.pc ≡ 0xffffffff80000000 = ap (λ (m : Machine). m.cpu.pc) (p (program 1) one_given) ∙ start_pc in
      omega arith

  all_at_once : AllAtOnce f → ⊥
  all_at_once p =
      let e = pc_one in
      let d = pc_two in
      let s : (f (program 2)).machine.cpu.pc ≡ (f (program 1)).machine.cpu.pc = ap (λ (m : Machine). m.cpu.pc) (p (program 1) 1 two_given) in
      omega arith

  made_up : MadeUp f → ⊥
  made_up p =
      let early = r branches early_given in
      let late = r branches_later late_given in
      let a : (f branches).steps ≡ p.0 3 17 = p.1 branches early_given ∙ ap (p.0 3) (ap (λ (w : Whole). w.stop) early ∙ worked.early.stop) in
      let b : (f branches_later).steps ≡ p.0 3 17 = p.1 branches_later late_given ∙ ap (p.0 3) (ap (λ (w : Whole). w.stop) late ∙ worked.late.stop) in
      let c : (f branches).steps ≡ 1 = ap (λ (w : Whole). w.steps) early ∙ worked.early.steps in
      let d : (f branches_later).steps ≡ 2 = ap (λ (w : Whole). w.steps) late ∙ worked.late.steps in
      omega arith

pub useless : Useless
useless =
    record {
      refuses_all = λ f p r. refuses_all f r p;
      always_fresh = λ f p r. always_fresh f r p;
      untouched = λ f p r. untouched f r p;
      all_at_once = λ f p r. all_at_once f r p;
      made_up = λ f p r. made_up f r p;
    }
