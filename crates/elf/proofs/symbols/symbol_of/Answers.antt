-- The first section of symbols.
use Prim.Native.Nat.{ℕ}
use native.Mathlib.Omega.{arith}
use mathlib.Core.Path.{refl, ap, ◌∙◌}
use lib.Dec.{eqb}
use Rattle.std.proofs.Common.{rules, tests}
use Rattle.std.proofs.lemmas.Iterator.{YieldsList-from_range}
use Rattle.std.proofs.lemmas.Iterator.Search.{find_from_yields_List}
use Rattle.elf.specs.Symbol.{section, symbol_of}
use Rattle.elf.proofs.Turns.{section_some, section_none}
use Rattle.elf.proofs.symbols.symbol_of.Goals as goal

pub returns-in_err-i : goal.returns-in_err-i
returns-in_err-i c =
    c.from_residual.ensures
    ∙ section_none c.args.file.now _ _ c.args.name.now (find_from_yields_List (λ (i : ℕ). eqb (section c.args.file.now i).kind 2) _ _ _ c.find.ensures.ran (YieldsList-from_range 0 c.half.result c.half.result refl (omega arith)) (λ x b q k. search (rules, tests))) c.in_err-i.was
    ∙ ap (λ (n : ℕ). symbol_of c.args.file.now c.args.name.now n 0) c.half.ensures

pub returns : goal.returns
returns c =
    c.symbol_by.ensures
    ∙ rw (c.section.ensures, c.from.ensures) (section_some c.args.file.now _ _ c.args.name.now (find_from_yields_List (λ (i : ℕ). eqb (section c.args.file.now i).kind 2) _ _ _ c.find.ensures.ran (YieldsList-from_range 0 c.half.result c.half.result refl (omega arith)) (λ x b q k. search (rules, tests))) _ c.in_ok-i.was)
    ∙ ap (λ (n : ℕ). symbol_of c.args.file.now c.args.name.now n 0) c.half.ensures
