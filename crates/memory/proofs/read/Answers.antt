-- A part of eight bytes is of RAM where RAM has the address, else of ROM; a shorter one means that nobody has it.
use Rattle.std.proofs.Common.{ℕ, Some, sym, ◌∙◌, ap, ltb-true, ltb-false}
use Rattle.memory.specs.declared.Eight.TheVariants.{Ram, Rom}
use Rattle.memory.specs.Bytes.{eight_of}
use Rattle.memory.proofs.MemoryLaws.{read_ram, read_rom, read_missing}
use Rattle.memory.proofs.read.Goals as goal

pub returns-then-bytes-lt8 : goal.returns-then-bytes-lt8
returns-then-bytes-lt8 c = read_missing _ _ _ (rw (sym c.part-bytes.ensures.0) c.if-bytes-lt8.true)

pub returns-then-in_ram : goal.returns-then-in_ram
returns-then-in_ram c = ap (λ (n : ℕ). Some (Ram n)) (c.eight_of-n.ensures ∙ ap eight_of c.part-bytes.ensures.0) ∙ read_ram _ _ _ (ltb-true _ _ (sym c.in_ram.ensures ∙ c.if-in_ram.true))

pub returns-else-in_ram : goal.returns-else-in_ram
returns-else-in_ram c = ap (λ (n : ℕ). Some (Rom n)) (c.eight_of-n.ensures ∙ ap eight_of c.part-bytes.ensures.0) ∙ read_rom _ _ _ (ltb-false _ _ (sym c.in_ram.ensures ∙ c.if-in_ram.false)) (rw (sym c.part-bytes.ensures.0) c.if-bytes-lt8.false)
