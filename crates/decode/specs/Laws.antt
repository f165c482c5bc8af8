-- What the fields and the maps are as a whole: each field fits its place, the fields make up the word, and the maps have an entry for each code.
use Rattle.std.specs.Prelude.{◌≡◌, refl, ℕ, ◌+◌, ◌*◌, ◌<◌, ◌^◌, length, get_or}
use Rattle.std.proofs.Common.{mod-lt, pow_pos, arith}
use Rattle.promise.specs.Bits.{bits}
use Rattle.decode.specs.Fields.{opcode, rs, rt, rd, sa, funct, immediate, target}
use Rattle.decode.specs.declared.maps.Entry.{Entry}
use Rattle.decode.specs.declared.maps.Entry.TheVariants.{Reserved}
use Rattle.decode.specs.declared.maps.Major.TheVariants.{Special, Regimm, Own}
use Rattle.decode.specs.Maps.{majors, specials, regimms, mips3}
use Rattle.decode.specs.Decode.{entry_in, by_major}

-- a field of some bits is below two to their number
pub fits : (w low many : ℕ) → bits w low many < 2 ^ many
fits w low many = mod-lt _ (pow_pos many)

-- a word is the sum of its fields, each at its place: by the J format, the I format, the R format
pub word_is : (w : ℕ) → w < 2 ^ 32 → w ≡ opcode w * 2 ^ 26 + target w
word_is w h = omega arith

pub target_is : (w : ℕ) → target w ≡ rs w * 2 ^ 21 + rt w * 2 ^ 16 + immediate w
target_is w = omega arith

pub immediate_is : (w : ℕ) → immediate w ≡ rd w * 2 ^ 11 + sa w * 2 ^ 6 + funct w
immediate_is w = omega arith

-- each map has an entry for each of its codes
pub majors_all : length majors ≡ 2 ^ 6
unfolding majors
majors_all = refl

pub specials_all : length specials ≡ 2 ^ 6
unfolding specials
specials_all = refl

pub regimms_all : length regimms ≡ 2 ^ 5
unfolding regimms
regimms_all = refl

-- a word has one entry: of the SPECIAL map, of the REGIMM map, or of the major map itself
pub special_word : (w : ℕ) → get_or majors (opcode w) (Own Reserved) ≡ Special → entry_in mips3 w ≡ get_or specials (funct w) Reserved
unfolding entry_in by_major
special_word w h = rw h

pub regimm_word : (w : ℕ) → get_or majors (opcode w) (Own Reserved) ≡ Regimm → entry_in mips3 w ≡ get_or regimms (rt w) Reserved
unfolding entry_in by_major
regimm_word w h = rw h

pub other_word : (w : ℕ) (e : Entry) → get_or majors (opcode w) (Own Reserved) ≡ Own e → entry_in mips3 w ≡ e
unfolding entry_in by_major
other_word w e h = rw h
