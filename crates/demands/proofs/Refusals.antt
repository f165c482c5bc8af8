-- Refusals: the four tests in order give one of five verdicts, and each number is that of just one of them.
use Prim.Native.Nat.{ℕ, ◌%◌, ◌≤◌}
use native.Mathlib.Omega.{arith}
use mathlib.Core.Path.{◌≡◌, refl, ◌∙◌, ap}
use mathlib.Core.Bool.{true}
use mathlib.Core.Logic.{◌⊎◌, ◌↔◌, inl, inr}
use lib.ListN.{length}
use Rattle.card.specs.Run.{Whole, whole, eights, ram_fits, refusal_by, refusal, run_of}
use Rattle.demands.specs.Call.{Call, run}
use Rattle.demands.specs.Refusals.{RamFits, BadRam, BadRom, BadLines, BadMachine, Accepted, Refusals}
use Rattle.demands.specs.Runs.{after}
use Rattle.demands.proofs.StepStops.{stop_least}
use Rattle.demands.proofs.Runs.{On, Stops, ends}

-- the test of a length, in plain inequalities
pub eights_read : (least most n : ℕ) → eights least most n ≡ true → (n % 8 ≡ 0) × (least ≤ n) × (n ≤ most)
eights_read least most n e = (grind arith, grind arith, grind arith)

pub eights_made : (least most n : ℕ) → n % 8 ≡ 0 → least ≤ n → n ≤ most → eights least most n ≡ true
eights_made least most n a b c = grind arith

module _ (c : Call) where
  abbrev number : ℕ
  number = refusal c.machine c.ram c.rom c.lines

  -- ---- the number of each case

  pub bad_ram : (number ≡ 1) ↔ BadRam c
  unfolding refusal_by
  bad_ram = (λ e f. grind arith, λ b. let r : ram_fits (length c.ram) ≡ true → RamFits c = λ e. grind arith in grind arith)

  bad_rom : (number ≡ 2) ↔ BadRom c
  unfolding refusal_by
  bad_rom = (λ e. (grind arith, λ f. grind arith), λ b. grind arith)

  bad_lines : (number ≡ 3) ↔ BadLines c
  unfolding refusal_by
  bad_lines = (λ e. grind arith, λ b. grind arith)

  bad_machine : (number ≡ 4) ↔ BadMachine c
  unfolding refusal_by
  bad_machine = (λ e. grind arith, λ b. grind arith)

  pub no_number : (number ≡ 0) ↔ Accepted c
  unfolding refusal_by
  no_number = (λ e. grind arith, λ a. grind arith)

  -- ---- the run

  refused : (number ≡ 0 → ⊥) → run c ≡ whole c.machine c.ram 0 number
  unfolding run_of
  refused n = grind arith

  pub accepted : Accepted c → run c ≡ after c c.budget
  unfolding run_of
  accepted a = rw (no_number.1 a)

  -- an accepted run gives no refusal's number
  pub beyond : Accepted c → ((run c).stop ≡ 0) ⊎ (16 ≤ (run c).stop)
  beyond a = rw (accepted a) (go (ends c.rom c.lines c.budget c.machine c.ram))
    where
      go : On c.rom c.lines c.budget c.machine c.ram ⊎ Stops c.rom c.lines c.budget c.machine c.ram → ((after c c.budget).stop ≡ 0) ⊎ (16 ≤ (after c c.budget).stop)
      go (inl o) = inl o.no_stop
      go (inr t) = inr (rw t.is (stop_least _ _ _ _ t.stop).0)

  stop_refused : (number ≡ 0 → ⊥) → (run c).stop ≡ number
  stop_refused n = ap (λ (w : Whole). w.stop) (refused n)

  stop_accepted : number ≡ 0 → ((run c).stop ≡ 0) ⊎ (16 ≤ (run c).stop)
  stop_accepted e = beyond (no_number.0 e)

  at_most : number ≤ 4
  unfolding refusal_by
  at_most = grind arith

  -- a run gives a refusal's number just where it is the call's
  same_number : (n : ℕ) → 1 ≤ n → n ≤ 4 → ((run c).stop ≡ n) ↔ (number ≡ n)
  same_number n l u = (λ e. grind (arith, stop_refused, stop_accepted), λ e. grind (arith, stop_refused, stop_accepted))

  pub refused_kept : 1 ≤ (run c).stop → (run c).stop ≤ 4 → run c ≡ whole c.machine c.ram 0 (run c).stop
  refused_kept l u =
      let e = (same_number (run c).stop l u).0 refl in
      refused (λ z. omega arith) ∙ ap (whole c.machine c.ram 0) e

  -- where the number is none of a refusal the call is accepted
  pub is_accepted : (1 ≤ (run c).stop → (run c).stop ≤ 4 → ⊥) → Accepted c
  is_accepted n = no_number.0 (let m = at_most in grind (arith, stop_refused))

  pub refusals : Refusals c
  refusals =
      record {
        one = let s = same_number 1 (omega arith) (omega arith) in (λ e. bad_ram.0 (s.0 e), λ b. s.1 (bad_ram.1 b));
        two = let s = same_number 2 (omega arith) (omega arith) in (λ e. bad_rom.0 (s.0 e), λ b. s.1 (bad_rom.1 b));
        three = let s = same_number 3 (omega arith) (omega arith) in (λ e. bad_lines.0 (s.0 e), λ b. s.1 (bad_lines.1 b));
        four = let s = same_number 4 (omega arith) (omega arith) in (λ e. bad_machine.0 (s.0 e), λ b. s.1 (bad_machine.1 b));
        no_step = λ l u. ap (λ (w : Whole). w.steps) (refused_kept l u);
        same_machine = λ l u. ap (λ (w : Whole). w.machine) (refused_kept l u);
        same_ram = λ l u. ap (λ (w : Whole). w.ram) (refused_kept l u);
      }
