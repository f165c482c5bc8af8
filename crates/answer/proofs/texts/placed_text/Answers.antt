-- The pieces are written one after the other.
use Rattle.std.proofs.Common.{rules}
use Rattle.answer.specs.Frames.{memory_line, slot_line}
use Rattle.answer.specs.Placed.{placed_text}
use Rattle.answer.proofs.Writes.{◌then◌, lines}
use Rattle.answer.proofs.texts.placed_text.Goals as goal

pub returns : goal.returns
unfolding placed_text
returns c =
    let a = c.each.ensures in
    let b = rw c.from.ensures at c.each-2.ensures in
    let d = lines 8192 0 (memory_line c.args.ram.now) (λ k r l h. search rules) (a.0, a.1, a.2) in
    let e = lines c.args.used 0 (slot_line c.args.tlb.now) (λ k r l h. search rules) (b.0, b.1, b.2) in
    let p = d then e then c.preset.ensures.0 then c.bytes.ensures in
    search rules
