-- The parts are written one after the other.
use Rattle.std.proofs.Common.{rules}
use Rattle.answer.specs.Frames.{register_line, kept_line, slot_line, memory_line}
use Rattle.answer.specs.Texts.{state_text}
use Rattle.answer.proofs.Laws.{flag_is}
use Rattle.answer.proofs.Writes.{◌then◌, lines}
use Rattle.answer.proofs.Text.state.Goals as goal

pub returns : goal.returns
unfolding state_text
returns c =
    let a = c.each.ensures in
    let d = c.each-2.ensures in
    let e = c.each-3.ensures in
    let f = c.each-4.ensures in
    let p = lines 35 0 (register_line c.args.m.now) (λ k r l h. search rules) (a.0, a.1, a.2) in
    let q = lines 32 0 (kept_line c.args.m.now.cp0) (λ k r l h. search rules) (d.0, d.1, d.2) in
    let r = lines 48 0 (slot_line c.args.m.now.tlb) (λ k r l h. search rules) (e.0, e.1, e.2) in
    let s = lines 8192 0 (memory_line c.args.ram.now) (λ k r l h. search rules) (f.0, f.1, f.2) in
    let g = rw (c.from.ensures, flag_is c.args.m.now.cpu.slot, c.from-2.ensures, flag_is c.args.m.now.cpu.link) at c.line.ensures.0 in
    p then g then q then r then s
