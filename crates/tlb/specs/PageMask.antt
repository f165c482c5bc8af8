-- PageMask: which values are built, and the size of the pages that they give.
use Rattle.std.specs.Prelude.{ℕ, ◌+◌, ◌-◌, ◌*◌, ◌%◌, ◌^◌, ◌≤◌, Bool, ◌≡◌, eqb}
use Rattle.std.specs.Int.Count.{ones, count_trailing_zeros}
use Rattle.promise.specs.Bits.{bits}
use Rattle.promise.specs.Pick.{both}

-- bits 24..13 of PageMask (T1)
abbrev pub run : ℕ → ℕ
run mask = bits mask 13 12

-- how many ones stand at the right end of a number of 64 bits: the zeros at the right end of its complement
unfoldable pub trailing_ones : ℕ → ℕ
trailing_ones x = count_trailing_zeros 64 (2 ^ 64 - 1 - x)

-- a mask is legal: no bit but 24..13 is set, all ones there stand in a run from bit 13 up, and they are even in number (T1)
unfoldable pub legal_mask : ℕ → Bool
legal_mask mask =
    both (eqb mask (run mask * 2 ^ 13))
    (both (eqb (ones (run mask)) (trailing_ones (run mask)))
    (eqb (ones (run mask) % 2) 0))

-- the address bit that picks EntryLo0 or EntryLo1: 12 + 2k for a run of 2k ones (T2)
unfoldable pub page_bits : ℕ → ℕ
page_bits mask = 12 + trailing_ones (run mask)

-- the bytes of a page: 4096 × 4^k for a run of 2k ones (T2)
abbrev pub page_bytes : ℕ → ℕ
page_bytes mask = 2 ^ page_bits mask

-- a mask of 2k ones, for k from 0 to 6, and its pages: what the legal masks are, and no others (T1, T2)
pub record Size (mask : ℕ) : Type 0 where
  pub k : ℕ
  pub small : k ≤ 6
  pub count : ones (run mask) ≡ 2 * k
  pub mask_is : mask ≡ (4 ^ k - 1) * 2 ^ 13
  pub bit_is : page_bits mask ≡ 12 + 2 * k
  pub bytes_are : page_bytes mask ≡ 4096 * 4 ^ k
