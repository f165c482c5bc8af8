-- No two different outcomes satisfy a contract of this crate.
use mathlib.Core.Path.{refl}
use Rattle.promise.specs.Unique.{Unique, same}
use Rattle.elf.proofs.faults.head_fault.Kinds as head-fault-kinds
use Rattle.elf.proofs.faults.head_fault.Reads as head-fault-reads
use Rattle.elf.proofs.faults.file_fault.Kinds as file-fault-kinds
use Rattle.elf.proofs.faults.file_fault.Reads as file-fault-reads
use Rattle.elf.proofs.faults.program_fault.Kinds as program-fault-kinds
use Rattle.elf.proofs.faults.program_fault.Reads as program-fault-reads
use Rattle.elf.proofs.Fault.number.Kinds as number-kinds
use Rattle.elf.proofs.Fault.number.Reads as number-reads
use Rattle.elf.proofs.Fault.about.Kinds as about-kinds
use Rattle.elf.proofs.Fault.about.Reads as about-reads
use Rattle.elf.proofs.headers.count.Kinds as count-kinds
use Rattle.elf.proofs.headers.count.Reads as count-reads
use Rattle.elf.proofs.headers.entry.Kinds as entry-kinds
use Rattle.elf.proofs.headers.entry.Reads as entry-reads
use Rattle.elf.proofs.homes.stands.Kinds as stands-kinds
use Rattle.elf.proofs.homes.stands.Reads as stands-reads
use Rattle.elf.proofs.paging.pages_at.Kinds as pages-at-kinds
use Rattle.elf.proofs.paging.pages_at.Reads as pages-at-reads
use Rattle.elf.proofs.symbols.symbol_named.Kinds as symbol-named-kinds
use Rattle.elf.proofs.symbols.symbol_named.Reads as symbol-named-reads

pub head_fault_once : Unique head-fault-kinds.ps head-fault-kinds.r head-fault-reads.Pre head-fault-reads.Post
head_fault_once κs a p z₁ z₂ ws₁ ws₂ h₁ h₂ = (same h₁ h₂, refl)

pub file_fault_once : Unique file-fault-kinds.ps file-fault-kinds.r file-fault-reads.Pre file-fault-reads.Post
file_fault_once κs a p z₁ z₂ ws₁ ws₂ h₁ h₂ = (same h₁ h₂, refl)

pub program_fault_once : Unique program-fault-kinds.ps program-fault-kinds.r program-fault-reads.Pre program-fault-reads.Post
program_fault_once κs a p z₁ z₂ ws₁ ws₂ h₁ h₂ = (same h₁ h₂, refl)

pub count_once : Unique count-kinds.ps count-kinds.r count-reads.Pre count-reads.Post
count_once κs a p z₁ z₂ ws₁ ws₂ h₁ h₂ = (same h₁.0 h₂.0, refl)

pub entry_once : Unique entry-kinds.ps entry-kinds.r entry-reads.Pre entry-reads.Post
entry_once κs a p z₁ z₂ ws₁ ws₂ h₁ h₂ = (same h₁.0 h₂.0, refl)

pub stands_once : Unique stands-kinds.ps stands-kinds.r stands-reads.Pre stands-reads.Post
stands_once κs a p z₁ z₂ ws₁ ws₂ h₁ h₂ = (same h₁ h₂, refl)

pub pages_at_once : Unique pages-at-kinds.ps pages-at-kinds.r pages-at-reads.Pre pages-at-reads.Post
pages_at_once κs a p z₁ z₂ ws₁ ws₂ h₁ h₂ = (same h₁.0 h₂.0, refl)

pub symbol_named_once : Unique symbol-named-kinds.ps symbol-named-kinds.r symbol-named-reads.Pre symbol-named-reads.Post
symbol_named_once κs a p z₁ z₂ ws₁ ws₂ h₁ h₂ = (same h₁ h₂, refl)

pub number_once : Unique number-kinds.ps number-kinds.r number-reads.Pre number-reads.Post
number_once κs a p z₁ z₂ ws₁ ws₂ h₁ h₂ = (same h₁ h₂, refl)

pub about_once : Unique about-kinds.ps about-kinds.r about-reads.Pre about-reads.Post
about_once κs a p z₁ z₂ ws₁ ws₂ h₁ h₂ = (same h₁ h₂, refl)
