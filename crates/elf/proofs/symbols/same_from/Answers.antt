-- Byte by byte.
use Prim.Native.Nat.{ℕ, ◌+◌}
use native.Mathlib.Omega.{arith}
use mathlib.Core.Path.{◌≡◌, ap, ◌∙◌}
use lib.Dec.{eqb}
use Rattle.std.proofs.Common.{rules, tests}
use Rattle.std.proofs.lemmas.Iterator.{YieldsList-from_slice}
use Rattle.std.proofs.lemmas.Iterator.Consumers.{YieldsList-from_enumerate}
use Rattle.std.proofs.lemmas.Iterator.Search.{all_from_yields_List}
use Rattle.elf.specs.Bytes.{byte}
use Rattle.elf.specs.Symbol.{same_from}
use Rattle.elf.proofs.Turns.{same_is}
use Rattle.elf.proofs.symbols.same_from.Goals as goal

pub returns : goal.returns
returns c =
    let e : c.args.at + 0 ≡ c.args.at = omega arith in
    all_from_yields_List (λ (p : ℕ × ℕ). eqb (byte c.args.file.now (c.args.at + p.0)) p.1) _ _ _ c.all.ensures.ran
    (YieldsList-from_enumerate (YieldsList-from_slice c.args.name.now (search (rules, tests))) c.enumerate.ensures.count)
    (λ x b q k. search (rules, tests))
    ∙ same_is c.args.file.now c.args.at c.args.name.now 0
    ∙ ap (λ (n : ℕ). same_from c.args.file.now n c.args.name.now) e
