-- No two different results satisfy the contract of a function of this crate: each says all.
use Rattle.std.proofs.Common.{refl}
use Rattle.promise.specs.Unique.{Unique, same}
use Rattle.word.proofs.reading.low_word.Kinds as low-word-kinds
use Rattle.word.proofs.reading.low_word.Reads as low-word-reads
use Rattle.word.proofs.reading.extend.Kinds as extend-kinds
use Rattle.word.proofs.reading.extend.Reads as extend-reads
use Rattle.word.proofs.reading.extend_half.Kinds as extend-half-kinds
use Rattle.word.proofs.reading.extend_half.Reads as extend-half-reads
use Rattle.word.proofs.reading.extend_byte.Kinds as extend-byte-kinds
use Rattle.word.proofs.reading.extend_byte.Reads as extend-byte-reads
use Rattle.word.proofs.reading.extend_immediate.Kinds as extend-immediate-kinds
use Rattle.word.proofs.reading.extend_immediate.Reads as extend-immediate-reads
use Rattle.word.proofs.reading.signed32.Kinds as signed32-kinds
use Rattle.word.proofs.reading.signed32.Reads as signed32-reads
use Rattle.word.proofs.reading.pattern32.Kinds as pattern32-kinds
use Rattle.word.proofs.reading.pattern32.Reads as pattern32-reads
use Rattle.word.proofs.sums.addu.Kinds as addu-kinds
use Rattle.word.proofs.sums.addu.Reads as addu-reads
use Rattle.word.proofs.sums.subu.Kinds as subu-kinds
use Rattle.word.proofs.sums.subu.Reads as subu-reads
use Rattle.word.proofs.sums.daddu.Kinds as daddu-kinds
use Rattle.word.proofs.sums.daddu.Reads as daddu-reads
use Rattle.word.proofs.sums.dsubu.Kinds as dsubu-kinds
use Rattle.word.proofs.sums.dsubu.Reads as dsubu-reads
use Rattle.word.proofs.sums.add.Kinds as add-kinds
use Rattle.word.proofs.sums.add.Reads as add_reads
use Rattle.word.proofs.sums.sub.Kinds as sub-kinds
use Rattle.word.proofs.sums.sub.Reads as sub-reads
use Rattle.word.proofs.sums.dadd.Kinds as dadd-kinds
use Rattle.word.proofs.sums.dadd.Reads as dadd-reads
use Rattle.word.proofs.sums.dsub.Kinds as dsub-kinds
use Rattle.word.proofs.sums.dsub.Reads as dsub-reads
use Rattle.word.proofs.logic.and.Kinds as and-kinds
use Rattle.word.proofs.logic.and.Reads as and-reads
use Rattle.word.proofs.logic.or.Kinds as or-kinds
use Rattle.word.proofs.logic.or.Reads as or-reads
use Rattle.word.proofs.logic.xor.Kinds as xor-kinds
use Rattle.word.proofs.logic.xor.Reads as xor-reads
use Rattle.word.proofs.logic.nor.Kinds as nor-kinds
use Rattle.word.proofs.logic.nor.Reads as nor-reads
use Rattle.word.proofs.logic.lui.Kinds as lui-kinds
use Rattle.word.proofs.logic.lui.Reads as lui-reads
use Rattle.word.proofs.comparisons.slt.Kinds as slt-kinds
use Rattle.word.proofs.comparisons.slt.Reads as slt-reads
use Rattle.word.proofs.comparisons.sltu.Kinds as sltu-kinds
use Rattle.word.proofs.comparisons.sltu.Reads as sltu-reads
use Rattle.word.proofs.comparisons.tlt.Kinds as tlt-kinds
use Rattle.word.proofs.comparisons.tlt.Reads as tlt-reads
use Rattle.word.proofs.comparisons.tge.Kinds as tge-kinds
use Rattle.word.proofs.comparisons.tge.Reads as tge-reads
use Rattle.word.proofs.comparisons.tltu.Kinds as tltu-kinds
use Rattle.word.proofs.comparisons.tltu.Reads as tltu-reads
use Rattle.word.proofs.comparisons.tgeu.Kinds as tgeu-kinds
use Rattle.word.proofs.comparisons.tgeu.Reads as tgeu-reads
use Rattle.word.proofs.comparisons.teq.Kinds as teq-kinds
use Rattle.word.proofs.comparisons.teq.Reads as teq-reads
use Rattle.word.proofs.comparisons.tne.Kinds as tne-kinds
use Rattle.word.proofs.comparisons.tne.Reads as tne-reads
use Rattle.word.proofs.shifts.sll.Kinds as sll-kinds
use Rattle.word.proofs.shifts.sll.Reads as sll-reads
use Rattle.word.proofs.shifts.srl.Kinds as srl-kinds
use Rattle.word.proofs.shifts.srl.Reads as srl-reads
use Rattle.word.proofs.shifts.sra.Kinds as sra-kinds
use Rattle.word.proofs.shifts.sra.Reads as sra-reads
use Rattle.word.proofs.shifts.dsll.Kinds as dsll-kinds
use Rattle.word.proofs.shifts.dsll.Reads as dsll-reads
use Rattle.word.proofs.shifts.dsrl.Kinds as dsrl-kinds
use Rattle.word.proofs.shifts.dsrl.Reads as dsrl-reads
use Rattle.word.proofs.shifts.dsra.Kinds as dsra-kinds
use Rattle.word.proofs.shifts.dsra.Reads as dsra-reads
use Rattle.word.proofs.shifts.dsll32.Kinds as dsll32-kinds
use Rattle.word.proofs.shifts.dsll32.Reads as dsll32-reads
use Rattle.word.proofs.shifts.dsrl32.Kinds as dsrl32-kinds
use Rattle.word.proofs.shifts.dsrl32.Reads as dsrl32-reads
use Rattle.word.proofs.shifts.dsra32.Kinds as dsra32-kinds
use Rattle.word.proofs.shifts.dsra32.Reads as dsra32-reads
use Rattle.word.proofs.products.mult.Kinds as mult-kinds
use Rattle.word.proofs.products.mult.Reads as mult-reads
use Rattle.word.proofs.products.multu.Kinds as multu-kinds
use Rattle.word.proofs.products.multu.Reads as multu-reads
use Rattle.word.proofs.products.dmultu.Kinds as dmultu-kinds
use Rattle.word.proofs.products.dmultu.Reads as dmultu-reads
use Rattle.word.proofs.products.dmult.Kinds as dmult-kinds
use Rattle.word.proofs.products.dmult.Reads as dmult-reads
use Rattle.word.proofs.quotients.divu.Kinds as divu-kinds
use Rattle.word.proofs.quotients.divu.Reads as divu-reads
use Rattle.word.proofs.quotients.ddivu.Kinds as ddivu-kinds
use Rattle.word.proofs.quotients.ddivu.Reads as ddivu-reads
use Rattle.word.proofs.quotients.div.Kinds as div-kinds
use Rattle.word.proofs.quotients.div.Reads as div-reads
use Rattle.word.proofs.quotients.ddiv.Kinds as ddiv-kinds
use Rattle.word.proofs.quotients.ddiv.Reads as ddiv-reads

-- reading
pub low_word_once : Unique low-word-kinds.ps low-word-kinds.r low-word-reads.Pre low-word-reads.Post
low_word_once κs a p z₁ z₂ ws₁ ws₂ h₁ h₂ = (same h₁ h₂, refl)

pub extend_once : Unique extend-kinds.ps extend-kinds.r extend-reads.Pre extend-reads.Post
extend_once κs a p z₁ z₂ ws₁ ws₂ h₁ h₂ = (same h₁ h₂, refl)

pub extend_half_once : Unique extend-half-kinds.ps extend-half-kinds.r extend-half-reads.Pre extend-half-reads.Post
extend_half_once κs a p z₁ z₂ ws₁ ws₂ h₁ h₂ = (same h₁ h₂, refl)

pub extend_byte_once : Unique extend-byte-kinds.ps extend-byte-kinds.r extend-byte-reads.Pre extend-byte-reads.Post
extend_byte_once κs a p z₁ z₂ ws₁ ws₂ h₁ h₂ = (same h₁ h₂, refl)

pub extend_immediate_once : Unique extend-immediate-kinds.ps extend-immediate-kinds.r extend-immediate-reads.Pre extend-immediate-reads.Post
extend_immediate_once κs a p z₁ z₂ ws₁ ws₂ h₁ h₂ = (same h₁ h₂, refl)

pub signed32_once : Unique signed32-kinds.ps signed32-kinds.r signed32-reads.Pre signed32-reads.Post
signed32_once κs a p z₁ z₂ ws₁ ws₂ h₁ h₂ = (same h₁ h₂, refl)

pub pattern32_once : Unique pattern32-kinds.ps pattern32-kinds.r pattern32-reads.Pre pattern32-reads.Post
pattern32_once κs a p z₁ z₂ ws₁ ws₂ h₁ h₂ = (same h₁ h₂, refl)

-- sums
pub addu_once : Unique addu-kinds.ps addu-kinds.r addu-reads.Pre addu-reads.Post
addu_once κs a p z₁ z₂ ws₁ ws₂ h₁ h₂ = (same h₁ h₂, refl)

pub subu_once : Unique subu-kinds.ps subu-kinds.r subu-reads.Pre subu-reads.Post
subu_once κs a p z₁ z₂ ws₁ ws₂ h₁ h₂ = (same h₁ h₂, refl)

pub daddu_once : Unique daddu-kinds.ps daddu-kinds.r daddu-reads.Pre daddu-reads.Post
daddu_once κs a p z₁ z₂ ws₁ ws₂ h₁ h₂ = (same h₁ h₂, refl)

pub dsubu_once : Unique dsubu-kinds.ps dsubu-kinds.r dsubu-reads.Pre dsubu-reads.Post
dsubu_once κs a p z₁ z₂ ws₁ ws₂ h₁ h₂ = (same h₁ h₂, refl)

pub add_once : Unique add-kinds.ps add-kinds.r add_reads.Pre add_reads.Post
add_once κs a p z₁ z₂ ws₁ ws₂ h₁ h₂ = (same h₁ h₂, refl)

pub sub_once : Unique sub-kinds.ps sub-kinds.r sub-reads.Pre sub-reads.Post
sub_once κs a p z₁ z₂ ws₁ ws₂ h₁ h₂ = (same h₁ h₂, refl)

pub dadd_once : Unique dadd-kinds.ps dadd-kinds.r dadd-reads.Pre dadd-reads.Post
dadd_once κs a p z₁ z₂ ws₁ ws₂ h₁ h₂ = (same h₁ h₂, refl)

pub dsub_once : Unique dsub-kinds.ps dsub-kinds.r dsub-reads.Pre dsub-reads.Post
dsub_once κs a p z₁ z₂ ws₁ ws₂ h₁ h₂ = (same h₁ h₂, refl)

-- logic
pub and_once : Unique and-kinds.ps and-kinds.r and-reads.Pre and-reads.Post
and_once κs a p z₁ z₂ ws₁ ws₂ h₁ h₂ = (same h₁ h₂, refl)

pub or_once : Unique or-kinds.ps or-kinds.r or-reads.Pre or-reads.Post
or_once κs a p z₁ z₂ ws₁ ws₂ h₁ h₂ = (same h₁ h₂, refl)

pub xor_once : Unique xor-kinds.ps xor-kinds.r xor-reads.Pre xor-reads.Post
xor_once κs a p z₁ z₂ ws₁ ws₂ h₁ h₂ = (same h₁ h₂, refl)

pub nor_once : Unique nor-kinds.ps nor-kinds.r nor-reads.Pre nor-reads.Post
nor_once κs a p z₁ z₂ ws₁ ws₂ h₁ h₂ = (same h₁ h₂, refl)

pub lui_once : Unique lui-kinds.ps lui-kinds.r lui-reads.Pre lui-reads.Post
lui_once κs a p z₁ z₂ ws₁ ws₂ h₁ h₂ = (same h₁ h₂, refl)

-- comparisons
pub slt_once : Unique slt-kinds.ps slt-kinds.r slt-reads.Pre slt-reads.Post
slt_once κs a p z₁ z₂ ws₁ ws₂ h₁ h₂ = (same h₁ h₂, refl)

pub sltu_once : Unique sltu-kinds.ps sltu-kinds.r sltu-reads.Pre sltu-reads.Post
sltu_once κs a p z₁ z₂ ws₁ ws₂ h₁ h₂ = (same h₁ h₂, refl)

pub tlt_once : Unique tlt-kinds.ps tlt-kinds.r tlt-reads.Pre tlt-reads.Post
tlt_once κs a p z₁ z₂ ws₁ ws₂ h₁ h₂ = (same h₁ h₂, refl)

pub tge_once : Unique tge-kinds.ps tge-kinds.r tge-reads.Pre tge-reads.Post
tge_once κs a p z₁ z₂ ws₁ ws₂ h₁ h₂ = (same h₁ h₂, refl)

pub tltu_once : Unique tltu-kinds.ps tltu-kinds.r tltu-reads.Pre tltu-reads.Post
tltu_once κs a p z₁ z₂ ws₁ ws₂ h₁ h₂ = (same h₁ h₂, refl)

pub tgeu_once : Unique tgeu-kinds.ps tgeu-kinds.r tgeu-reads.Pre tgeu-reads.Post
tgeu_once κs a p z₁ z₂ ws₁ ws₂ h₁ h₂ = (same h₁ h₂, refl)

pub teq_once : Unique teq-kinds.ps teq-kinds.r teq-reads.Pre teq-reads.Post
teq_once κs a p z₁ z₂ ws₁ ws₂ h₁ h₂ = (same h₁ h₂, refl)

pub tne_once : Unique tne-kinds.ps tne-kinds.r tne-reads.Pre tne-reads.Post
tne_once κs a p z₁ z₂ ws₁ ws₂ h₁ h₂ = (same h₁ h₂, refl)

-- shifts
pub sll_once : Unique sll-kinds.ps sll-kinds.r sll-reads.Pre sll-reads.Post
sll_once κs a p z₁ z₂ ws₁ ws₂ h₁ h₂ = (same h₁ h₂, refl)

pub srl_once : Unique srl-kinds.ps srl-kinds.r srl-reads.Pre srl-reads.Post
srl_once κs a p z₁ z₂ ws₁ ws₂ h₁ h₂ = (same h₁ h₂, refl)

pub sra_once : Unique sra-kinds.ps sra-kinds.r sra-reads.Pre sra-reads.Post
sra_once κs a p z₁ z₂ ws₁ ws₂ h₁ h₂ = (same h₁ h₂, refl)

pub dsll_once : Unique dsll-kinds.ps dsll-kinds.r dsll-reads.Pre dsll-reads.Post
dsll_once κs a p z₁ z₂ ws₁ ws₂ h₁ h₂ = (same h₁ h₂, refl)

pub dsrl_once : Unique dsrl-kinds.ps dsrl-kinds.r dsrl-reads.Pre dsrl-reads.Post
dsrl_once κs a p z₁ z₂ ws₁ ws₂ h₁ h₂ = (same h₁ h₂, refl)

pub dsra_once : Unique dsra-kinds.ps dsra-kinds.r dsra-reads.Pre dsra-reads.Post
dsra_once κs a p z₁ z₂ ws₁ ws₂ h₁ h₂ = (same h₁ h₂, refl)

pub dsll32_once : Unique dsll32-kinds.ps dsll32-kinds.r dsll32-reads.Pre dsll32-reads.Post
dsll32_once κs a p z₁ z₂ ws₁ ws₂ h₁ h₂ = (same h₁ h₂, refl)

pub dsrl32_once : Unique dsrl32-kinds.ps dsrl32-kinds.r dsrl32-reads.Pre dsrl32-reads.Post
dsrl32_once κs a p z₁ z₂ ws₁ ws₂ h₁ h₂ = (same h₁ h₂, refl)

pub dsra32_once : Unique dsra32-kinds.ps dsra32-kinds.r dsra32-reads.Pre dsra32-reads.Post
dsra32_once κs a p z₁ z₂ ws₁ ws₂ h₁ h₂ = (same h₁ h₂, refl)

-- products
pub mult_once : Unique mult-kinds.ps mult-kinds.r mult-reads.Pre mult-reads.Post
mult_once κs a p z₁ z₂ ws₁ ws₂ h₁ h₂ = (same h₁ h₂, refl)

pub multu_once : Unique multu-kinds.ps multu-kinds.r multu-reads.Pre multu-reads.Post
multu_once κs a p z₁ z₂ ws₁ ws₂ h₁ h₂ = (same h₁ h₂, refl)

pub dmultu_once : Unique dmultu-kinds.ps dmultu-kinds.r dmultu-reads.Pre dmultu-reads.Post
dmultu_once κs a p z₁ z₂ ws₁ ws₂ h₁ h₂ = (same h₁ h₂, refl)

pub dmult_once : Unique dmult-kinds.ps dmult-kinds.r dmult-reads.Pre dmult-reads.Post
dmult_once κs a p z₁ z₂ ws₁ ws₂ h₁ h₂ = (same h₁ h₂, refl)

-- quotients
pub divu_once : Unique divu-kinds.ps divu-kinds.r divu-reads.Pre divu-reads.Post
divu_once κs a p z₁ z₂ ws₁ ws₂ h₁ h₂ = (same h₁ h₂, refl)

pub ddivu_once : Unique ddivu-kinds.ps ddivu-kinds.r ddivu-reads.Pre ddivu-reads.Post
ddivu_once κs a p z₁ z₂ ws₁ ws₂ h₁ h₂ = (same h₁ h₂, refl)

pub div_once : Unique div-kinds.ps div-kinds.r div-reads.Pre div-reads.Post
div_once κs a p z₁ z₂ ws₁ ws₂ h₁ h₂ = (same h₁ h₂, refl)

pub ddiv_once : Unique ddiv-kinds.ps ddiv-kinds.r ddiv-reads.Pre ddiv-reads.Post
ddiv_once κs a p z₁ z₂ ws₁ ws₂ h₁ h₂ = (same h₁ h₂, refl)
