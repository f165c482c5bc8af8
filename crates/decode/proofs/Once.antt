-- No two different outcomes satisfy a contract of this crate.
use mathlib.Core.Path.{refl}
use Rattle.promise.specs.Unique.{Unique, same}
use Rattle.decode.proofs.decode.Kinds as decode-kinds
use Rattle.decode.proofs.decode.Reads as decode-reads
use Rattle.decode.proofs.fields.opcode.Kinds as opcode-kinds
use Rattle.decode.proofs.fields.opcode.Reads as opcode-reads
use Rattle.decode.proofs.fields.rs.Kinds as rs-kinds
use Rattle.decode.proofs.fields.rs.Reads as rs-reads
use Rattle.decode.proofs.fields.rt.Kinds as rt-kinds
use Rattle.decode.proofs.fields.rt.Reads as rt-reads
use Rattle.decode.proofs.fields.rd.Kinds as rd-kinds
use Rattle.decode.proofs.fields.rd.Reads as rd-reads
use Rattle.decode.proofs.fields.sa.Kinds as sa-kinds
use Rattle.decode.proofs.fields.sa.Reads as sa-reads
use Rattle.decode.proofs.fields.funct.Kinds as funct-kinds
use Rattle.decode.proofs.fields.funct.Reads as funct-reads
use Rattle.decode.proofs.fields.immediate.Kinds as immediate-kinds
use Rattle.decode.proofs.fields.immediate.Reads as immediate-reads
use Rattle.decode.proofs.fields.target.Kinds as target-kinds
use Rattle.decode.proofs.fields.target.Reads as target-reads
use Rattle.decode.proofs.cop0.cop0.Kinds as cop0-kinds
use Rattle.decode.proofs.cop0.cop0.Reads as cop0-reads
use Rattle.decode.proofs.instructions.instruction.Kinds as instruction-kinds
use Rattle.decode.proofs.instructions.instruction.Reads as instruction-reads

pub decode_once : Unique decode-kinds.ps decode-kinds.r decode-reads.Pre decode-reads.Post
decode_once κs a p z₁ z₂ ws₁ ws₂ h₁ h₂ = (same h₁ h₂, refl)

pub opcode_once : Unique opcode-kinds.ps opcode-kinds.r opcode-reads.Pre opcode-reads.Post
opcode_once κs a p z₁ z₂ ws₁ ws₂ h₁ h₂ = (same h₁ h₂, refl)

pub rs_once : Unique rs-kinds.ps rs-kinds.r rs-reads.Pre rs-reads.Post
rs_once κs a p z₁ z₂ ws₁ ws₂ h₁ h₂ = (same h₁ h₂, refl)

pub rt_once : Unique rt-kinds.ps rt-kinds.r rt-reads.Pre rt-reads.Post
rt_once κs a p z₁ z₂ ws₁ ws₂ h₁ h₂ = (same h₁ h₂, refl)

pub rd_once : Unique rd-kinds.ps rd-kinds.r rd-reads.Pre rd-reads.Post
rd_once κs a p z₁ z₂ ws₁ ws₂ h₁ h₂ = (same h₁ h₂, refl)

pub sa_once : Unique sa-kinds.ps sa-kinds.r sa-reads.Pre sa-reads.Post
sa_once κs a p z₁ z₂ ws₁ ws₂ h₁ h₂ = (same h₁ h₂, refl)

pub funct_once : Unique funct-kinds.ps funct-kinds.r funct-reads.Pre funct-reads.Post
funct_once κs a p z₁ z₂ ws₁ ws₂ h₁ h₂ = (same h₁ h₂, refl)

pub immediate_once : Unique immediate-kinds.ps immediate-kinds.r immediate-reads.Pre immediate-reads.Post
immediate_once κs a p z₁ z₂ ws₁ ws₂ h₁ h₂ = (same h₁ h₂, refl)

pub target_once : Unique target-kinds.ps target-kinds.r target-reads.Pre target-reads.Post
target_once κs a p z₁ z₂ ws₁ ws₂ h₁ h₂ = (same h₁ h₂, refl)

-- the functions that decoding is made of
pub cop0_once : Unique cop0-kinds.ps cop0-kinds.r cop0-reads.Pre cop0-reads.Post
cop0_once κs a p z₁ z₂ ws₁ ws₂ h₁ h₂ = (same h₁ h₂, refl)

pub instruction_once : Unique instruction-kinds.ps instruction-kinds.r instruction-reads.Pre instruction-reads.Post
instruction_once κs a p z₁ z₂ ws₁ ws₂ h₁ h₂ = (same h₁ h₂, refl)
