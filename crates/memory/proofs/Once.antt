-- No two different outcomes satisfy a contract of this crate: each names its result, `put_bytes` RAM too, and `part` where in
-- memory its result stands and what it holds. (A reference has besides a ghost name, which is in proofs only.)
use mathlib.Core.Path.{◌≡◌, refl}
use contract.Lifetimes.{Lfts}
use denote.Triple.Clauses.{Lasts, at_exit}
use borrow.Fn.Kinds.{Dens, res_t, ended_of}
use Rattle.promise.specs.Unique.{Unique, same}
use Rattle.memory.proofs.part.Kinds as part-kinds
use Rattle.memory.proofs.part.Reads as part-reads
use Rattle.memory.proofs.read.Kinds as read-kinds
use Rattle.memory.proofs.read.Reads as read-reads
use Rattle.memory.proofs.loads.lb.Kinds as lb-kinds
use Rattle.memory.proofs.loads.lb.Reads as lb-reads
use Rattle.memory.proofs.loads.lbu.Kinds as lbu-kinds
use Rattle.memory.proofs.loads.lbu.Reads as lbu-reads
use Rattle.memory.proofs.loads.lh.Kinds as lh-kinds
use Rattle.memory.proofs.loads.lh.Reads as lh-reads
use Rattle.memory.proofs.loads.lhu.Kinds as lhu-kinds
use Rattle.memory.proofs.loads.lhu.Reads as lhu-reads
use Rattle.memory.proofs.loads.lw.Kinds as lw-kinds
use Rattle.memory.proofs.loads.lw.Reads as lw-reads
use Rattle.memory.proofs.loads.lwu.Kinds as lwu-kinds
use Rattle.memory.proofs.loads.lwu.Reads as lwu-reads
use Rattle.memory.proofs.loads.ld.Kinds as ld-kinds
use Rattle.memory.proofs.loads.ld.Reads as ld-reads
use Rattle.memory.proofs.unaligned.lwl.Kinds as lwl-kinds
use Rattle.memory.proofs.unaligned.lwl.Reads as lwl-reads
use Rattle.memory.proofs.unaligned.lwr.Kinds as lwr-kinds
use Rattle.memory.proofs.unaligned.lwr.Reads as lwr-reads
use Rattle.memory.proofs.unaligned.ldl.Kinds as ldl-kinds
use Rattle.memory.proofs.unaligned.ldl.Reads as ldl-reads
use Rattle.memory.proofs.unaligned.ldr.Kinds as ldr-kinds
use Rattle.memory.proofs.unaligned.ldr.Reads as ldr-reads
use Rattle.memory.proofs.stores.sb.Kinds as sb-kinds
use Rattle.memory.proofs.stores.sb.Reads as sb-reads
use Rattle.memory.proofs.stores.sh.Kinds as sh-kinds
use Rattle.memory.proofs.stores.sh.Reads as sh-reads
use Rattle.memory.proofs.stores.sw.Kinds as sw-kinds
use Rattle.memory.proofs.stores.sw.Reads as sw-reads
use Rattle.memory.proofs.stores.sd.Kinds as sd-kinds
use Rattle.memory.proofs.stores.sd.Reads as sd-reads
use Rattle.memory.proofs.stores.swl.Kinds as swl-kinds
use Rattle.memory.proofs.stores.swl.Reads as swl-reads
use Rattle.memory.proofs.stores.swr.Kinds as swr-kinds
use Rattle.memory.proofs.stores.swr.Reads as swr-reads
use Rattle.memory.proofs.stores.sdl.Kinds as sdl-kinds
use Rattle.memory.proofs.stores.sdl.Reads as sdl-reads
use Rattle.memory.proofs.stores.sdr.Kinds as sdr-kinds
use Rattle.memory.proofs.stores.sdr.Reads as sdr-reads
use Rattle.memory.proofs.stores.put_bytes.Kinds as put-bytes-kinds
use Rattle.memory.proofs.stores.put_bytes.Reads as put-bytes-reads

pub part_once :
    (κs : Lfts 1) (a : Dens κs part-kinds.ps)
    → part-reads.Pre κs a
    → (z₁ z₂ : (res_t part-kinds.r κs).Denot) (ws₁ ws₂ : Lasts (ended_of 1 part-kinds.ps part-kinds.r) κs a)
    → part-reads.Post κs a z₁ (at_exit (ended_of 1 part-kinds.ps part-kinds.r) κs a ws₁)
    → part-reads.Post κs a z₂ (at_exit (ended_of 1 part-kinds.ps part-kinds.r) κs a ws₂)
    → (z₁.ref_ptr ≡ z₂.ref_ptr) × (z₁.now ≡ z₂.now) × (ws₁ ≡ ws₂)
part_once κs a p z₁ z₂ ws₁ ws₂ h₁ h₂ = (same h₁.1 h₂.1, same h₁.0 h₂.0, refl)

pub read_once : Unique read-kinds.ps read-kinds.r read-reads.Pre read-reads.Post
read_once κs a p z₁ z₂ ws₁ ws₂ h₁ h₂ = (same h₁ h₂, refl)

pub lb_once : Unique lb-kinds.ps lb-kinds.r lb-reads.Pre lb-reads.Post
lb_once κs a p z₁ z₂ ws₁ ws₂ h₁ h₂ = (same h₁ h₂, refl)

pub lbu_once : Unique lbu-kinds.ps lbu-kinds.r lbu-reads.Pre lbu-reads.Post
lbu_once κs a p z₁ z₂ ws₁ ws₂ h₁ h₂ = (same h₁ h₂, refl)

pub lh_once : Unique lh-kinds.ps lh-kinds.r lh-reads.Pre lh-reads.Post
lh_once κs a p z₁ z₂ ws₁ ws₂ h₁ h₂ = (same h₁ h₂, refl)

pub lhu_once : Unique lhu-kinds.ps lhu-kinds.r lhu-reads.Pre lhu-reads.Post
lhu_once κs a p z₁ z₂ ws₁ ws₂ h₁ h₂ = (same h₁ h₂, refl)

pub lw_once : Unique lw-kinds.ps lw-kinds.r lw-reads.Pre lw-reads.Post
lw_once κs a p z₁ z₂ ws₁ ws₂ h₁ h₂ = (same h₁ h₂, refl)

pub lwu_once : Unique lwu-kinds.ps lwu-kinds.r lwu-reads.Pre lwu-reads.Post
lwu_once κs a p z₁ z₂ ws₁ ws₂ h₁ h₂ = (same h₁ h₂, refl)

pub ld_once : Unique ld-kinds.ps ld-kinds.r ld-reads.Pre ld-reads.Post
ld_once κs a p z₁ z₂ ws₁ ws₂ h₁ h₂ = (same h₁ h₂, refl)

pub lwl_once : Unique lwl-kinds.ps lwl-kinds.r lwl-reads.Pre lwl-reads.Post
lwl_once κs a p z₁ z₂ ws₁ ws₂ h₁ h₂ = (same h₁ h₂, refl)

pub lwr_once : Unique lwr-kinds.ps lwr-kinds.r lwr-reads.Pre lwr-reads.Post
lwr_once κs a p z₁ z₂ ws₁ ws₂ h₁ h₂ = (same h₁ h₂, refl)

pub ldl_once : Unique ldl-kinds.ps ldl-kinds.r ldl-reads.Pre ldl-reads.Post
ldl_once κs a p z₁ z₂ ws₁ ws₂ h₁ h₂ = (same h₁ h₂, refl)

pub ldr_once : Unique ldr-kinds.ps ldr-kinds.r ldr-reads.Pre ldr-reads.Post
ldr_once κs a p z₁ z₂ ws₁ ws₂ h₁ h₂ = (same h₁ h₂, refl)

pub sb_once : Unique sb-kinds.ps sb-kinds.r sb-reads.Pre sb-reads.Post
sb_once κs a p z₁ z₂ ws₁ ws₂ h₁ h₂ = (same h₁ h₂, refl)

pub sh_once : Unique sh-kinds.ps sh-kinds.r sh-reads.Pre sh-reads.Post
sh_once κs a p z₁ z₂ ws₁ ws₂ h₁ h₂ = (same h₁ h₂, refl)

pub sw_once : Unique sw-kinds.ps sw-kinds.r sw-reads.Pre sw-reads.Post
sw_once κs a p z₁ z₂ ws₁ ws₂ h₁ h₂ = (same h₁ h₂, refl)

pub sd_once : Unique sd-kinds.ps sd-kinds.r sd-reads.Pre sd-reads.Post
sd_once κs a p z₁ z₂ ws₁ ws₂ h₁ h₂ = (same h₁ h₂, refl)

pub swl_once : Unique swl-kinds.ps swl-kinds.r swl-reads.Pre swl-reads.Post
swl_once κs a p z₁ z₂ ws₁ ws₂ h₁ h₂ = (same h₁ h₂, refl)

pub swr_once : Unique swr-kinds.ps swr-kinds.r swr-reads.Pre swr-reads.Post
swr_once κs a p z₁ z₂ ws₁ ws₂ h₁ h₂ = (same h₁ h₂, refl)

pub sdl_once : Unique sdl-kinds.ps sdl-kinds.r sdl-reads.Pre sdl-reads.Post
sdl_once κs a p z₁ z₂ ws₁ ws₂ h₁ h₂ = (same h₁ h₂, refl)

pub sdr_once : Unique sdr-kinds.ps sdr-kinds.r sdr-reads.Pre sdr-reads.Post
sdr_once κs a p z₁ z₂ ws₁ ws₂ h₁ h₂ = (same h₁ h₂, refl)

pub put_bytes_once : Unique put-bytes-kinds.ps put-bytes-kinds.r put-bytes-reads.Pre put-bytes-reads.Post
put_bytes_once κs a p z₁ z₂ ws₁ ws₂ h₁ h₂ = (same h₁.0 h₂.0, λ i. (same h₁.1 h₂.1 i, (tt, tt)))
