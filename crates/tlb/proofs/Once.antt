-- No two different outcomes satisfy a contract of this crate.
use mathlib.Core.Path.{refl}
use Rattle.promise.specs.Unique.{Unique, same}
use Rattle.tlb.proofs.page_mask.legal_mask.Kinds as legal-mask-kinds
use Rattle.tlb.proofs.page_mask.legal_mask.Reads as legal-mask-reads
use Rattle.tlb.proofs.page_mask.page_bits.Kinds as page-bits-kinds
use Rattle.tlb.proofs.page_mask.page_bits.Reads as page-bits-reads
use Rattle.tlb.proofs.slots.slot_at.Kinds as slot-at-kinds
use Rattle.tlb.proofs.slots.slot_at.Reads as slot-at-reads
use Rattle.tlb.proofs.slots.stored.Kinds as stored-kinds
use Rattle.tlb.proofs.slots.stored.Reads as stored-reads
use Rattle.tlb.proofs.slots.put_slot.Kinds as put-slot-kinds
use Rattle.tlb.proofs.slots.put_slot.Reads as put-slot-reads
use Rattle.tlb.proofs.slots.read_slot.Kinds as read-slot-kinds
use Rattle.tlb.proofs.slots.read_slot.Reads as read-slot-reads
use Rattle.tlb.proofs.search.lookup.Kinds as lookup-kinds
use Rattle.tlb.proofs.search.lookup.Reads as lookup-reads
use Rattle.tlb.proofs.through.mapped.Kinds as mapped-kinds
use Rattle.tlb.proofs.through.mapped.Reads as mapped-reads
use Rattle.tlb.proofs.segments.translate.Kinds as translate-kinds
use Rattle.tlb.proofs.segments.translate.Reads as translate-reads
use Rattle.tlb.proofs.probing.tlbp.Kinds as tlbp-kinds
use Rattle.tlb.proofs.probing.tlbp.Reads as tlbp-reads
use Rattle.tlb.proofs.range.slot_in_range.Kinds as slot-in-range-kinds
use Rattle.tlb.proofs.range.slot_in_range.Reads as slot-in-range-reads
use Rattle.tlb.proofs.range.tlb_in_range.Kinds as tlb-in-range-kinds
use Rattle.tlb.proofs.range.tlb_in_range.Reads as tlb-in-range-reads

pub legal_mask_once : Unique legal-mask-kinds.ps legal-mask-kinds.r legal-mask-reads.Pre legal-mask-reads.Post
legal_mask_once κs a p z₁ z₂ ws₁ ws₂ h₁ h₂ = (same h₁ h₂, refl)

pub page_bits_once : Unique page-bits-kinds.ps page-bits-kinds.r page-bits-reads.Pre page-bits-reads.Post
page_bits_once κs a p z₁ z₂ ws₁ ws₂ h₁ h₂ = (same h₁ h₂, refl)

pub slot_at_once : Unique slot-at-kinds.ps slot-at-kinds.r slot-at-reads.Pre slot-at-reads.Post
slot_at_once κs a p z₁ z₂ ws₁ ws₂ h₁ h₂ = (same h₁ h₂, refl)

pub stored_once : Unique stored-kinds.ps stored-kinds.r stored-reads.Pre stored-reads.Post
stored_once κs a p z₁ z₂ ws₁ ws₂ h₁ h₂ = (same h₁ h₂, refl)

pub put_slot_once : Unique put-slot-kinds.ps put-slot-kinds.r put-slot-reads.Pre put-slot-reads.Post
put_slot_once κs a p z₁ z₂ ws₁ ws₂ h₁ h₂ = (refl, λ i. (same h₁ h₂ i, (tt, tt)))

pub read_slot_once : Unique read-slot-kinds.ps read-slot-kinds.r read-slot-reads.Pre read-slot-reads.Post
read_slot_once κs a p z₁ z₂ ws₁ ws₂ h₁ h₂ = (same h₁ h₂, refl)

pub lookup_once : Unique lookup-kinds.ps lookup-kinds.r lookup-reads.Pre lookup-reads.Post
lookup_once κs a p z₁ z₂ ws₁ ws₂ h₁ h₂ = (same h₁ h₂, refl)

pub mapped_once : Unique mapped-kinds.ps mapped-kinds.r mapped-reads.Pre mapped-reads.Post
mapped_once κs a p z₁ z₂ ws₁ ws₂ h₁ h₂ = (same h₁ h₂, refl)

pub translate_once : Unique translate-kinds.ps translate-kinds.r translate-reads.Pre translate-reads.Post
translate_once κs a p z₁ z₂ ws₁ ws₂ h₁ h₂ = (same h₁ h₂, refl)

pub tlbp_once : Unique tlbp-kinds.ps tlbp-kinds.r tlbp-reads.Pre tlbp-reads.Post
tlbp_once κs a p z₁ z₂ ws₁ ws₂ h₁ h₂ = (same h₁ h₂, refl)

pub slot_in_range_once : Unique slot-in-range-kinds.ps slot-in-range-kinds.r slot-in-range-reads.Pre slot-in-range-reads.Post
slot_in_range_once κs a p z₁ z₂ ws₁ ws₂ h₁ h₂ = (same h₁ h₂, refl)

pub tlb_in_range_once : Unique tlb-in-range-kinds.ps tlb-in-range-kinds.r tlb-in-range-reads.Pre tlb-in-range-reads.Post
tlb_in_range_once κs a p z₁ z₂ ws₁ ws₂ h₁ h₂ = (same h₁ h₂, refl)
