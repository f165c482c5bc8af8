-- What each instruction computes, under the manual's name: the rules of the other modules at 32 bits (a word) or 64 (a doubleword).
use Rattle.std.specs.Prelude.{ℕ, ◌+◌, ◌%◌, Bool, Option}
use Rattle.std.specs.Int.{w8, w16, w32, w64}
use Rattle.promise.specs.Pick.{not}
use Rattle.word.specs.declared.HiLo.{HiLo}
use Rattle.word.specs.Extend as Extend
use Rattle.word.specs.Sum.{sum, difference, checked_sum, checked_difference}
use Rattle.word.specs.Logic.{both_bits, either_bits, different_bits, neither_bits, upper}
use Rattle.word.specs.Compare.{less_signed, less_unsigned, same, flag}
use Rattle.word.specs.Shift.{left, right, right_signed}
use Rattle.word.specs.Product.{product, product_unsigned}
use Rattle.word.specs.Quotient.{quotient, quotient_unsigned}

-- the low word of a register, with zeros above it
abbrev pub low_word : ℕ → ℕ
low_word x = Extend.low w32 x

-- the low word, half or byte of a register, sign-extended (A1)
abbrev pub extend : ℕ → ℕ
extend x = Extend.extend w32 x

abbrev pub extend_half : ℕ → ℕ
extend_half x = Extend.extend w16 x

abbrev pub extend_byte : ℕ → ℕ
extend_byte x = Extend.extend w8 x

-- an immediate of 16 bits, sign-extended
abbrev pub extend_immediate : ℕ → ℕ
extend_immediate x = Extend.extend w16 x

-- sums and differences that wrap (A2); ADDIU and DADDIU are these of an extended immediate
abbrev pub addu : ℕ → ℕ → ℕ
addu a b = sum w32 a b

abbrev pub subu : ℕ → ℕ → ℕ
subu a b = difference w32 a b

abbrev pub daddu : ℕ → ℕ → ℕ
daddu a b = sum w64 a b

abbrev pub dsubu : ℕ → ℕ → ℕ
dsubu a b = difference w64 a b

-- sums and differences that trap on overflow (A3); ADDI and DADDI are these of an extended immediate
abbrev pub add : ℕ → ℕ → Option ℕ
add a b = checked_sum w32 a b

abbrev pub sub : ℕ → ℕ → Option ℕ
sub a b = checked_difference w32 a b

abbrev pub dadd : ℕ → ℕ → Option ℕ
dadd a b = checked_sum w64 a b

abbrev pub dsub : ℕ → ℕ → Option ℕ
dsub a b = checked_difference w64 a b

-- logic, on whole registers
abbrev pub and : ℕ → ℕ → ℕ
and a b = both_bits a b

abbrev pub or : ℕ → ℕ → ℕ
or a b = either_bits a b

abbrev pub xor : ℕ → ℕ → ℕ
xor a b = different_bits a b

abbrev pub nor : ℕ → ℕ → ℕ
nor a b = neither_bits a b

-- the upper immediate
abbrev pub lui : ℕ → ℕ
lui immediate = upper immediate

-- comparisons of whole registers, as numbers
abbrev pub slt : ℕ → ℕ → ℕ
slt a b = flag (less_signed w64 a b)

abbrev pub sltu : ℕ → ℕ → ℕ
sltu a b = flag (less_unsigned w64 a b)

-- comparisons of whole registers, as the traps make them
abbrev pub tge : ℕ → ℕ → Bool
tge a b = not (less_signed w64 a b)

abbrev pub tgeu : ℕ → ℕ → Bool
tgeu a b = not (less_unsigned w64 a b)

abbrev pub tlt : ℕ → ℕ → Bool
tlt a b = less_signed w64 a b

abbrev pub tltu : ℕ → ℕ → Bool
tltu a b = less_unsigned w64 a b

abbrev pub teq : ℕ → ℕ → Bool
teq a b = same w64 a b

abbrev pub tne : ℕ → ℕ → Bool
tne a b = not (same w64 a b)

-- shifts of words, by the low five bits of n (A4); SLLV, SRLV and SRAV have n from a register
abbrev pub sll : ℕ → ℕ → ℕ
sll x n = left w32 (n % 32) x

abbrev pub srl : ℕ → ℕ → ℕ
srl x n = right w32 (n % 32) x

abbrev pub sra : ℕ → ℕ → ℕ
sra x n = right_signed w32 (n % 32) x

-- shifts of doublewords, by the low six bits of n (A4); DSLLV, DSRLV and DSRAV have n from a register
abbrev pub dsll : ℕ → ℕ → ℕ
dsll x n = left w64 (n % 64) x

abbrev pub dsrl : ℕ → ℕ → ℕ
dsrl x n = right w64 (n % 64) x

abbrev pub dsra : ℕ → ℕ → ℕ
dsra x n = right_signed w64 (n % 64) x

-- shifts of doublewords by 32 more than the low five bits of n (A4)
abbrev pub dsll32 : ℕ → ℕ → ℕ
dsll32 x n = left w64 (n % 32 + 32) x

abbrev pub dsrl32 : ℕ → ℕ → ℕ
dsrl32 x n = right w64 (n % 32 + 32) x

abbrev pub dsra32 : ℕ → ℕ → ℕ
dsra32 x n = right_signed w64 (n % 32 + 32) x

-- products (A5)
abbrev pub mult : ℕ → ℕ → HiLo
mult a b = product w32 a b

abbrev pub multu : ℕ → ℕ → HiLo
multu a b = product_unsigned w32 a b

abbrev pub dmult : ℕ → ℕ → HiLo
dmult a b = product w64 a b

abbrev pub dmultu : ℕ → ℕ → HiLo
dmultu a b = product_unsigned w64 a b

-- quotients (A6, A7, W2)
abbrev pub div : ℕ → ℕ → HiLo
div a b = quotient w32 a b

abbrev pub divu : ℕ → ℕ → HiLo
divu a b = quotient_unsigned w32 a b

abbrev pub ddiv : ℕ → ℕ → HiLo
ddiv a b = quotient w64 a b

abbrev pub ddivu : ℕ → ℕ → HiLo
ddivu a b = quotient_unsigned w64 a b
