-- Memory as a step sees it: from a physical address to its eight bytes.
use Rattle.std.specs.Prelude.{Option}
use Rattle.memory.specs.declared.PAddr.{PAddr}
use Rattle.memory.specs.declared.Eight.{Eight}
use Rattle.memory.specs.Memory.{read}
use Rattle.access.specs.declared.Memory.{Memory}

-- the eight aligned bytes that hold an address, of RAM or of ROM
abbrev pub look : Memory → PAddr → Option Eight
look m = read m.ram.now m.rom.now
