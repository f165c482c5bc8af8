-- Loads and stores: their address and its alignment, what a load writes of the eight bytes that memory gives, and which bytes a store sends out.
use Rattle.std.specs.Prelude.{ℕ, ◌+◌, ◌%◌, ◌^◌}
use Rattle.word.specs.Word.{extend_immediate}
use Rattle.tlb.specs.declared.VAddr.{VAddr}
use Rattle.memory.specs.Loads as memory
use Rattle.memory.specs.Unaligned as unaligned
use Rattle.memory.specs.Stores as stores
use Rattle.memory.specs.declared.PAddr.{PAddr}
use Rattle.memory.specs.declared.Store.{Store}
use Rattle.flow.specs.declared.Act.{Act}
use Rattle.flow.specs.declared.Act.TheVariants as act
use Rattle.decode.specs.declared.LoadOp.{LoadOp}
use Rattle.decode.specs.declared.LoadOp.TheVariants.{LB, LBU, LH, LHU, LW, LWU, LD, LWL, LWR, LDL, LDR, LL, LLD}
use Rattle.decode.specs.declared.StoreOp.{StoreOp}
use Rattle.decode.specs.declared.StoreOp.TheVariants.{SB, SH, SW, SD, SWL, SWR, SDL, SDR, SC, SCD}

-- an effective address: the wrapping sum of the base and the sign-extended offset (D2)
unfoldable pub effective : ℕ → ℕ → VAddr
effective base offset = record { 0 = (base + extend_immediate offset) % 2 ^ 64 }

-- A load asks for register rt to be loaded from its address, a store for it to be stored there.
unfoldable pub load : LoadOp → ℕ → ℕ → ℕ → Act
load op rt base offset = act.Load op rt (effective base offset)

unfoldable pub store : StoreOp → ℕ → ℕ → ℕ → Act
store op rt base offset = act.Store op rt (effective base offset)

-- A load's address is a multiple of this; the unaligned forms take any (S7).
unfoldable pub load_align : LoadOp → ℕ
load_align LB = 1
load_align LBU = 1
load_align LH = 2
load_align LHU = 2
load_align LW = 4
load_align LWU = 4
load_align LD = 8
load_align LWL = 1
load_align LWR = 1
load_align LDL = 1
load_align LDR = 1
load_align LL = 4
load_align LLD = 8

-- And a store's.
unfoldable pub store_align : StoreOp → ℕ
store_align SB = 1
store_align SH = 2
store_align SW = 4
store_align SD = 8
store_align SWL = 1
store_align SWR = 1
store_align SDL = 1
store_align SDR = 1
store_align SC = 4
store_align SCD = 8

-- What a load writes: of the eight bytes that hold the address, and for the unaligned forms of the register as it was (A12). LL loads as LW does, LLD as LD.
unfoldable pub finish : LoadOp → ℕ → PAddr → ℕ → ℕ
finish LB eight p old = memory.lb eight p
finish LBU eight p old = memory.lbu eight p
finish LH eight p old = memory.lh eight p
finish LHU eight p old = memory.lhu eight p
finish LW eight p old = memory.lw eight p
finish LWU eight p old = memory.lwu eight p
finish LD eight p old = memory.ld eight p
finish LWL eight p old = unaligned.lwl eight p old
finish LWR eight p old = unaligned.lwr eight p old
finish LDL eight p old = unaligned.ldl eight p old
finish LDR eight p old = unaligned.ldr eight p old
finish LL eight p old = memory.lw eight p
finish LLD eight p old = memory.ld eight p

-- The bytes that a store sends out, of the register's value. SC sends out what SW does, SCD what SD does; whether they are stored, the link bit says (A14).
unfoldable pub goes_out : StoreOp → PAddr → ℕ → Store
goes_out SB p value = stores.sb p value
goes_out SH p value = stores.sh p value
goes_out SW p value = stores.sw p value
goes_out SD p value = stores.sd p value
goes_out SWL p value = stores.swl p value
goes_out SWR p value = stores.swr p value
goes_out SDL p value = stores.sdl p value
goes_out SDR p value = stores.sdr p value
goes_out SC p value = stores.sw p value
goes_out SCD p value = stores.sd p value
