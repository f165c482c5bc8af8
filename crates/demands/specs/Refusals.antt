-- Refusals 1 to 4: each is given exactly in its case, and a refusal takes no step and changes nothing (N14, N16).
use Rattle.std.specs.Prelude.{◌%◌, ◌≤◌, ◌<◌, ◌≡◌, true, false, ◌↔◌, length}
use Rattle.card.specs.Machine.{in_range}
use Rattle.demands.specs.Call.{Call, run}

-- RAM's length is a multiple of 8 in 8..16,777,216 (N2)
abbrev pub RamFits : Call → Type 0
RamFits c = (length c.ram % 8 ≡ 0) × (8 ≤ length c.ram) × (length c.ram ≤ 16777216)

-- ROM's length is a multiple of 8 in 0..4,194,304 (N3)
abbrev pub RomFits : Call → Type 0
RomFits c = (length c.rom % 8 ≡ 0) × (length c.rom ≤ 4194304)

-- refusal 1: RAM's length does not fit (N2)
abbrev pub BadRam : Call → Type 0
BadRam c = RamFits c → ⊥

-- refusal 2: RAM's length fits, and ROM's does not (N3)
abbrev pub BadRom : Call → Type 0
BadRom c = RamFits c × (RomFits c → ⊥)

-- refusal 3: both fit, and the interrupt lines are above 31 (N4)
abbrev pub BadLines : Call → Type 0
BadLines c = RamFits c × RomFits c × (31 < c.lines)

-- refusal 4: all these fit, and the machine has a field outside its range (N5)
abbrev pub BadMachine : Call → Type 0
BadMachine c = RamFits c × RomFits c × (c.lines ≤ 31) × (in_range c.machine ≡ false)

-- no refusal: all these fit, and the machine is in its range
pub record Accepted (c : Call) : Type 0 where
  pub ram : RamFits c
  pub rom : RomFits c
  pub lines : c.lines ≤ 31
  pub machine : in_range c.machine ≡ true

-- of every call: its refusal's number is given just in that number's case, and then no step is taken and nothing changes
pub record Refusals (c : Call) : Type 0 where
  pub one : ((run c).stop ≡ 1) ↔ BadRam c
  pub two : ((run c).stop ≡ 2) ↔ BadRom c
  pub three : ((run c).stop ≡ 3) ↔ BadLines c
  pub four : ((run c).stop ≡ 4) ↔ BadMachine c
  pub no_step : 1 ≤ (run c).stop → (run c).stop ≤ 4 → (run c).steps ≡ 0
  pub same_machine : 1 ≤ (run c).stop → (run c).stop ≤ 4 → (run c).machine ≡ c.machine
  pub same_ram : 1 ≤ (run c).stop → (run c).stop ≤ 4 → (run c).ram ≡ c.ram
