-- Too long, or what the reader makes of it.
use lib.Dec.{eqb}
use Rattle.std.proofs.lemmas.Result.{err_from_is_err_and}
use Rattle.place.proofs.Texts.{not_is, too_long, text_is}
use Rattle.place.proofs.making.text_of.Goals as goal

pub returns-then-end-gt65536 : goal.returns-then-end-gt65536
returns-then-end-gt65536 c = too_long _ _ _ c.args.n c.args.pc c.args.settings.now _ _ (not_is (eqb c.args.n 0)) _ _ c.placed_text-end.ensures c.if-end-gt65536.true

pub returns-in_err-late : goal.returns-in_err-late
returns-in_err-late c =
    let p = err_from_is_err_and c.from_residual.result c.from_residual.ensures.1 in
    rw (p.1, p.2) (text_is _ _ _ c.args.n c.args.pc c.args.settings.now _ _ (not_is (eqb c.args.n 0)) _ _ c.placed_text-end.ensures c.requires c.if-end-gt65536.false _ c.in_err-late.ensures)

pub returns : goal.returns
returns c = text_is _ _ _ c.args.n c.args.pc c.args.settings.now _ _ (not_is (eqb c.args.n 0)) _ _ c.placed_text-end.ensures c.requires c.if-end-gt65536.false _ c.in_ok-late.ensures
