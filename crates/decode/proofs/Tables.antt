-- The three tables of the code are the manual's maps. At a code a map holds one entry, whatever is said of the places past its end.
use Rattle.std.proofs.Common.{◌≡◌, ℕ, get_or, ap, ◌∙◌}
use Rattle.std.proofs.lemmas.List.{get_or_default}
use Rattle.decode.specs.Fields.{opcode, funct, rt}
use Rattle.decode.specs.Laws.{fits}
use Rattle.decode.specs.Maps.{majors, specials, regimms}
use Rattle.decode.specs.declared.maps.Entry.{Entry}
use Rattle.decode.specs.declared.maps.Entry.TheVariants.{Reserved}
use Rattle.decode.specs.declared.maps.Major.{Major}
use Rattle.decode.specs.declared.maps.Major.TheVariants.{Own}

pub major_at : (w : ℕ) (d : Major) {k : ℕ} → k ≡ opcode w → get_or majors k d ≡ get_or majors (opcode w) (Own Reserved)
unfolding majors
major_at w d p = ap (λ i. get_or majors i d) p ∙ get_or_default majors (opcode w) d (Own Reserved) (fits w 26 6)

pub special_at : (w : ℕ) (d : Entry) {k : ℕ} → k ≡ funct w → get_or specials k d ≡ get_or specials (funct w) Reserved
unfolding specials
special_at w d p = ap (λ i. get_or specials i d) p ∙ get_or_default specials (funct w) d Reserved (fits w 0 6)

pub regimm_at : (w : ℕ) (d : Entry) {k : ℕ} → k ≡ rt w → get_or regimms k d ≡ get_or regimms (rt w) Reserved
unfolding regimms
regimm_at w d p = ap (λ i. get_or regimms i d) p ∙ get_or_default regimms (rt w) d Reserved (fits w 16 5)
