-- The first such symbol.
use Prim.Native.Nat.{ℕ, ◌+◌, ◌*◌}
use native.Mathlib.Omega.{arith}
use mathlib.Core.Path.{refl, ap, ◌∙◌}
use Rattle.std.proofs.Common.{rules, tests}
use Rattle.std.proofs.lemmas.Iterator.{YieldsList-from_range}
use Rattle.std.proofs.lemmas.Iterator.Search.{find_from_yields_List}
use Rattle.std.specs.Prelude.{Some}
use Rattle.elf.specs.Symbol.{is_symbol}
use Rattle.elf.proofs.Turns.{symbol_some, symbol_none}
use Rattle.elf.proofs.symbols.symbol_from.Goals as goal

pub returns-in_err-j : goal.returns-in_err-j
returns-in_err-j c = c.from_residual.ensures ∙ symbol_none c.args.file.now _ _ c.args.names c.args.name.now c.args.from (find_from_yields_List (λ (j : ℕ). is_symbol c.args.file.now c.args.names c.args.name.now (c.args.from + 16 * j)) _ _ _ c.find.ensures.ran (YieldsList-from_range 0 c.args.many c.args.many refl (omega arith)) (λ x b q k. search (rules, tests))) c.in_err-j.was

pub returns : goal.returns
returns c = ap Some c.word.ensures ∙ symbol_some c.args.file.now _ _ c.args.names c.args.name.now c.args.from (find_from_yields_List (λ (j : ℕ). is_symbol c.args.file.now c.args.names c.args.name.now (c.args.from + 16 * j)) _ _ _ c.find.ensures.ran (YieldsList-from_range 0 c.args.many c.args.many refl (omega arith)) (λ x b q k. search (rules, tests))) _ c.in_ok-j.was
