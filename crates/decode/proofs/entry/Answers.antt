-- Each table is its map, computed entry by entry, and the word's entry is the one that the law of its place says.
use Rattle.std.proofs.Common.{sym, ◌∙◌}
use Rattle.decode.specs.Maps.{majors, specials, regimms}
use Rattle.decode.specs.Laws.{special_word, regimm_word, other_word}
use Rattle.decode.proofs.Tables.{major_at, special_at, regimm_at}
use Rattle.decode.proofs.entry.Goals as goal

pub returns-in-Special : goal.returns-in-Special
unfolding majors specials
returns-in-Special c = special_at c.args.w _ c.funct.ensures ∙ sym (special_word c.args.w (sym (major_at c.args.w _ c.opcode.ensures) ∙ c.in-Special.is))

pub returns-in-Regimm : goal.returns-in-Regimm
unfolding majors regimms
returns-in-Regimm c = regimm_at c.args.w _ c.rt.ensures ∙ sym (regimm_word c.args.w (sym (major_at c.args.w _ c.opcode.ensures) ∙ c.in-Regimm.is))

pub returns-in-Own : goal.returns-in-Own
unfolding majors
returns-in-Own c = sym (other_word c.args.w _ (sym (major_at c.args.w _ c.opcode.ensures) ∙ c.in-Own.is))
