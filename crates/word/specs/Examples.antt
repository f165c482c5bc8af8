-- Worked examples beside the bench cards, at the ends of the range: the definitions give these values by computation.
use Rattle.std.specs.Prelude.{◌≡◌, ℕ, refl, Some}
use Rattle.word.specs.declared.HiLo.{HiLo}
use Rattle.word.specs.Extend.{register}
use Rattle.word.specs.Sum.{checked, checked_sum}
use Rattle.word.specs.Shift.{right}
use Rattle.word.specs.Product.{halves, product}
use Rattle.word.specs.Quotient.{by_zero, divided, quotient, quotient_unsigned}
use Rattle.word.specs.Word.{add, dmult, div, divu, ddiv, ddivu, srl}

-- a pair for HI and LO
abbrev both : ℕ → ℕ → HiLo
both h l = record { hi = h; lo = l }

-- the greatest sum that does not overflow (A3)
pub greatest_sum : add 0x7fff_fffe 1 ≡ Some 0x7fff_ffff
unfolding checked_sum checked register
greatest_sum = refl

-- DMULT of two ffffffffffffffff, which are -1 by -1 (A5)
pub product_signed : dmult 0xffff_ffff_ffff_ffff 0xffff_ffff_ffff_ffff ≡ both 0 1
unfolding product halves register
product_signed = refl

-- the remainder takes the dividend's sign: 7 by -2 (A6)
pub remainder_sign : div 7 0xffff_ffff_ffff_fffe ≡ both 1 0xffff_ffff_ffff_fffd
unfolding quotient divided register
remainder_sign = refl

-- the most negative doubleword by -1 gives itself (A7)
pub most_negative : ddiv 0x8000_0000_0000_0000 0xffff_ffff_ffff_ffff ≡ both 0 0x8000_0000_0000_0000
unfolding quotient divided register
most_negative = refl

-- and so does the most negative word
pub most_negative_word : div 0xffff_ffff_8000_0000 0xffff_ffff_ffff_ffff ≡ both 0 0xffff_ffff_8000_0000
unfolding quotient divided register
most_negative_word = refl

-- all ones
abbrev ones : ℕ
ones = 0xffff_ffff_ffff_ffff

-- a zero divisor: the dividend in HI, and in LO all ones, or 1 if it is negative (W2); DIV of 7, of -7 and of 0
pub by_zero_lem : (div 7 0 ≡ both 7 ones) × (div 0xffff_ffff_ffff_fff9 0 ≡ both 0xffff_ffff_ffff_fff9 1) × (div 0 0 ≡ both 0 ones)
unfolding quotient divided by_zero register
by_zero_lem = (refl, refl, refl)

-- what stands above a word does not count: in the divisor, in a dividend below zero, in one of zero or more
pub by_zero_word :
    (div 0xffff_ffff_8000_0000 0x1_0000_0000 ≡ both 0xffff_ffff_8000_0000 1)
    × (div 0x1_8000_0000 0 ≡ both 0xffff_ffff_8000_0000 1)
    × (div 0xffff_ffff_0000_0005 0 ≡ both 5 ones)
unfolding quotient divided by_zero register
by_zero_word = (refl, refl, refl)

-- DIVU of 80000000, sign-extended or not, of 7fffffff and of 0
pub by_zero_unsigned :
    (divu 0x8000_0000 0 ≡ both 0xffff_ffff_8000_0000 ones)
    × (divu 0xffff_ffff_8000_0000 0 ≡ both 0xffff_ffff_8000_0000 ones)
    × (divu 0x7fff_ffff 0 ≡ both 0x7fff_ffff ones)
    × (divu 0 0 ≡ both 0 ones)
unfolding quotient_unsigned divided by_zero register
by_zero_unsigned = (refl, refl, refl, refl)

-- DDIV of the least, of 80000000 and of 0; by a divisor that is zero in its low word only, it divides
pub by_zero_double :
    (ddiv 0x8000_0000_0000_0000 0 ≡ both 0x8000_0000_0000_0000 1)
    × (ddiv 0x8000_0000 0 ≡ both 0x8000_0000 ones)
    × (ddiv 0 0 ≡ both 0 ones)
    × (ddiv 5 0x1_0000_0000 ≡ both 5 0)
unfolding quotient divided by_zero register
by_zero_double = (refl, refl, refl, refl)

-- DDIVU of all ones and of 0
pub by_zero_double_unsigned : (ddivu ones 0 ≡ both ones ones) × (ddivu 0 0 ≡ both 0 ones)
unfolding quotient_unsigned divided by_zero register
by_zero_double_unsigned = (refl, refl)

-- SRL of 80000000 by 31 (A4)
pub shift_logical : srl 0x8000_0000 31 ≡ 1
unfolding right register
shift_logical = refl
