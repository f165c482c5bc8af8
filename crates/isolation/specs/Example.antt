-- The promise is not empty: two concrete worlds that meet every hypothesis, differ in a byte that is not reached, and run a program that tries to read it.
use Rattle.std.specs.Prelude.{ℕ, ◌/◌, ◌%◌, ◌≡◌, List, [], ◌∷◌, ◌++◌, false, get_or, replicate}
use Rattle.cp0.specs.declared.Cp0.{Cp0}
use Rattle.cp0.specs.Registers as cp0
use Rattle.effect.specs.After.{cpu_of}
use Rattle.card.specs.declared.Machine.{Machine}
use Rattle.card.specs.Machine.{machine}
use Rattle.card.specs.Run.{Whole}
use Rattle.isolation.specs.Isolation.{World}

-- CP0 in User mode, with ASID 1
unfoldable pub user_cp0 : Cp0
user_cp0 = cp0.set (cp0.set cp0.fresh cp0.Status 0x10) cp0.EntryHi 1

-- slot 0 is global and maps page 0 onto frame 0, valid and not dirty; its odd half and all other slots are not valid
unfoldable pub one_slot : List ℕ
one_slot = 0 ∷ 0x1000 ∷ 2 ∷ 0 ∷ replicate 188 0

-- a User machine at address 0
unfoldable pub mill : Machine
mill = machine (cpu_of 0 false 0 0 0 false) user_cp0 (replicate 32 0) one_slot

-- a page with the program, LW r8, 4096(r0)
unfoldable pub page : List ℕ
page = 0x8c ∷ 0x08 ∷ 0x10 ∷ 0x00 ∷ replicate 4092 0

-- and eight bytes after it, of which the first is another mill's entry
unfoldable pub with_entry : ℕ → List ℕ
with_entry secret = page ++ (secret ∷ replicate 7 0)

-- a world in which the other mill's entry is this
unfoldable pub world : ℕ → World
world secret = record { machine = mill; ram = with_entry secret; rom = []; lines = 0 }

-- the attempt as its one step leaves it: the step is counted, it is a TLB exception on a load at 1000h, and r8 has learnt nothing (T24 to T27)
pub record Caught (w : Whole) : Type 0 where
  pub stop : w.stop ≡ 0
  pub counted : w.steps ≡ 1
  pub vector : w.machine.cpu.pc ≡ 0xffffffff80000180
  pub code : w.machine.cp0.cause / 4 % 32 ≡ 2
  pub address : w.machine.cp0.badvaddr ≡ 0x1000
  pub nothing_learnt : get_or w.machine.regs 8 0 ≡ 0
