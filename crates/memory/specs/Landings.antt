-- A store to a place that reads as RAM is no bus error: of each store, at an address that raised no address error.
use Rattle.std.specs.Prelude.{ℕ, ◌+◌, ◌/◌, ◌%◌, ◌≤◌, ◌<◌, ◌≡◌, refl, List, Bool, true, false, length, Some, Ok}
use Rattle.std.proofs.Common.{arith, lt-ltb, le-leb, ltb-true}
use Rattle.memory.specs.declared.PAddr.{PAddr}
use Rattle.memory.specs.declared.Eight.TheVariants.{Ram}
use Rattle.memory.specs.declared.Store.{Store}
use Rattle.memory.specs.Memory.{in_ram, in_rom, read}
use Rattle.memory.specs.Stores.{sb, sh, sw, sd, swl, swr, sdl, sdr, put_answer}

-- what reads as RAM is in RAM
pub ram_read : (ram rom : List ℕ) (p : PAddr) (n : ℕ) → read ram rom p ≡ Some (Ram n) → p.0 / 8 < length ram / 8
unfolding read
ram_read ram rom p n e = go (in_ram ram p) refl (in_rom rom p) refl
  where
    go : (b : Bool) → in_ram ram p ≡ b → (d : Bool) → in_rom rom p ≡ d → p.0 / 8 < length ram / 8
    go true t d f = ltb-true _ _ t
    go false t true f = let h = rw (t, f) at e in let z : ◌≡◌ {A = ℕ} 0 1 = cc in absurd (omega arith)
    go false t false f = let h = rw (t, f) at e in let z : ◌≡◌ {A = ℕ} 0 1 = cc in absurd (omega arith)

pub done : (ram : List ℕ) (s : Store) → s.to.0 / 8 < length ram / 8 → 1 ≤ s.size → s.to.0 % 8 + s.size ≤ 8 → put_answer ram (Some s) ≡ Ok tt
unfolding put_answer
done ram s h l r = rw (lt-ltb _ _ h, le-leb _ _ l, le-leb _ _ r)

module _ (ram : List ℕ) (p : PAddr) (value : ℕ) (h : p.0 / 8 < length ram / 8) where
  pub sb_done : put_answer ram (Some (sb p value)) ≡ Ok tt
  sb_done = done ram (sb p value) h (omega arith) (omega arith)

  pub sh_done : p.0 % 2 ≡ 0 → put_answer ram (Some (sh p value)) ≡ Ok tt
  sh_done a = done ram (sh p value) h (omega arith) (omega arith)

  pub sw_done : p.0 % 4 ≡ 0 → put_answer ram (Some (sw p value)) ≡ Ok tt
  sw_done a = done ram (sw p value) h (omega arith) (omega arith)

  pub sd_done : p.0 % 8 ≡ 0 → put_answer ram (Some (sd p value)) ≡ Ok tt
  sd_done a = done ram (sd p value) h (omega arith) (omega arith)

  pub swl_done : put_answer ram (Some (swl p value)) ≡ Ok tt
  swl_done = done ram (swl p value) h (omega arith) (omega arith)

  pub swr_done : put_answer ram (Some (swr p value)) ≡ Ok tt
  swr_done = done ram (swr p value) (omega arith) (omega arith) (omega arith)

  pub sdl_done : put_answer ram (Some (sdl p value)) ≡ Ok tt
  sdl_done = done ram (sdl p value) h (omega arith) (omega arith)

  pub sdr_done : put_answer ram (Some (sdr p value)) ≡ Ok tt
  sdr_done = done ram (sdr p value) (omega arith) (omega arith) (omega arith)
