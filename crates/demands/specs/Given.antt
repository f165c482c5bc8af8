-- The calls that there are: every number fits the type that the card has for it, and the machine has its 32 registers and 48 slots.
use Rattle.std.specs.Prelude.{ℕ, ◌^◌, ◌<◌, ◌≡◌, Bool, true, List, [], ◌∷◌, ltb, length}
use Rattle.promise.specs.Pick.{both}
use Rattle.cp0.specs.declared.Cp0.{Cp0}
use Rattle.effect.specs.declared.Cpu.{Cpu}
use Rattle.card.specs.declared.Machine.{Machine}
use Rattle.demands.specs.Call.{Call}

-- every number of a list is below n
unfoldable pub all_below : ℕ → List ℕ → Bool
all_below n [] = true
all_below n (x ∷ xs) = both (ltb x n) (all_below n xs)

-- PC, the pending target, HI and LO are doublewords
pub record GivenCpu (cpu : Cpu) : Type 0 where
  pub pc : cpu.pc < 2 ^ 64
  pub target : cpu.target < 2 ^ 64
  pub hi : cpu.hi < 2 ^ 64
  pub lo : cpu.lo < 2 ^ 64

-- Context, BadVAddr, EntryHi and the two EPCs are held as doublewords, the other CP0 registers as words
pub record GivenCp0 (cp0 : Cp0) : Type 0 where
  pub index : cp0.index < 2 ^ 32
  pub random : cp0.random < 2 ^ 32
  pub entrylo0 : cp0.entrylo0 < 2 ^ 32
  pub entrylo1 : cp0.entrylo1 < 2 ^ 32
  pub context : cp0.context < 2 ^ 64
  pub pagemask : cp0.pagemask < 2 ^ 32
  pub wired : cp0.wired < 2 ^ 32
  pub badvaddr : cp0.badvaddr < 2 ^ 64
  pub count : cp0.count < 2 ^ 32
  pub entryhi : cp0.entryhi < 2 ^ 64
  pub compare : cp0.compare < 2 ^ 32
  pub status : cp0.status < 2 ^ 32
  pub cause : cp0.cause < 2 ^ 32
  pub epc : cp0.epc < 2 ^ 64
  pub prid : cp0.prid < 2 ^ 32
  pub config : cp0.config < 2 ^ 32
  pub lladdr : cp0.lladdr < 2 ^ 32
  pub taglo : cp0.taglo < 2 ^ 32
  pub taghi : cp0.taghi < 2 ^ 32
  pub errorepc : cp0.errorepc < 2 ^ 64

-- 32 registers and 48 slots of four numbers, all doublewords
pub record GivenMachine (m : Machine) : Type 0 where
  pub cpu : GivenCpu m.cpu
  pub cp0 : GivenCp0 m.cp0
  pub registers : length m.regs ≡ 32
  pub registers_fit : all_below (2 ^ 64) m.regs ≡ true
  pub slots : length m.tlb ≡ 192
  pub slots_fit : all_below (2 ^ 64) m.tlb ≡ true

-- the lines are a byte, the budget a doubleword, RAM and ROM are bytes, and the machine is one
pub record Given (c : Call) : Type 0 where
  pub lines : c.lines < 256
  pub budget : c.budget < 2 ^ 64
  pub ram : all_below 256 c.ram ≡ true
  pub rom : all_below 256 c.rom ≡ true
  pub machine : GivenMachine c.machine
