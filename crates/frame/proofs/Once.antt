-- No two different outcomes satisfy a contract of this crate.
use mathlib.Core.Path.{◌≡◌, refl}
use contract.Lifetimes.{Lfts}
use denote.Triple.Clauses.{Lasts, at_exit}
use borrow.Fn.Kinds.{Dens, res_t, ended_of}
use Rattle.promise.specs.Unique.{Unique, same}
use Rattle.frame.proofs.frame_of.Kinds as frame-of-kinds
use Rattle.frame.proofs.frame_of.Reads as frame-of-reads
use Rattle.frame.proofs.next_line.Kinds as next-line-kinds
use Rattle.frame.proofs.next_line.Reads as next-line-reads

pub frame_of_once : Unique frame-of-kinds.ps frame-of-kinds.r frame-of-reads.Pre frame-of-reads.Post
frame_of_once κs a p z₁ z₂ ws₁ ws₂ h₁ h₂ = (same h₁ h₂, refl)

-- the part that is handed back: where it starts in memory, and what stands in it (a reference's ghost name is no outcome of a run)
pub next_line_once :
    (κs : Lfts 1) (a : Dens κs next-line-kinds.ps) (z₁ z₂ : (res_t next-line-kinds.r κs).Denot) (ws₁ ws₂ : Lasts (ended_of 1 next-line-kinds.ps next-line-kinds.r) κs a)
    → next-line-reads.Post κs a z₁ (at_exit (ended_of 1 next-line-kinds.ps next-line-kinds.r) κs a ws₁)
    → next-line-reads.Post κs a z₂ (at_exit (ended_of 1 next-line-kinds.ps next-line-kinds.r) κs a ws₂)
    → (z₁.ref_ptr ≡ z₂.ref_ptr) × (z₁.now ≡ z₂.now)
next_line_once κs a z₁ z₂ ws₁ ws₂ h₁ h₂ = (same h₁.1 h₂.1, same h₁.0 h₂.0)
