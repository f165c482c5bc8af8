-- Status and Cause as the sums of their fields: each field is read off the sum, so that a register keeps it whole.
use Rattle.std.proofs.Common.{◌≡◌, ℕ, ◌+◌, ◌*◌, ◌/◌, ◌%◌, ◌^◌, ◌<◌, sym, subst, arith}
use Rattle.cp0.specs.Registers.{replaced, cleared, kept_status, kept_cause}

-- Status of CU0, BEV, IM and the low five bits
abbrev pub status_of : ℕ → ℕ → ℕ → ℕ → ℕ
status_of cu0 bev im five = cu0 * 2 ^ 28 + bev * 2 ^ 22 + im * 2 ^ 8 + five

-- Cause of BD, CE, IP7, IP1..0 and ExcCode
abbrev pub cause_of : ℕ → ℕ → ℕ → ℕ → ℕ → ℕ
cause_of bd ce ip7 ip code = bd * 2 ^ 31 + ce * 2 ^ 28 + ip7 * 2 ^ 15 + ip * 2 ^ 8 + code * 2 ^ 2

same_status : (a b c d p q r t : ℕ) → p ≡ a → q ≡ b → r ≡ c → t ≡ d → status_of p q r t ≡ status_of a b c d
same_status a b c d p q r t h i j k = omega arith

same_cause : (a b c d e p q r t u : ℕ) → p ≡ a → q ≡ b → r ≡ c → t ≡ d → u ≡ e → cause_of p q r t u ≡ cause_of a b c d e
same_cause a b c d e p q r t u h i j k l = omega arith

module _ (cu0 bev im five : ℕ) (h : cu0 < 2) (i : bev < 2) (j : im < 256) (k : five < 32) where
  cu0_of : status_of cu0 bev im five / 2 ^ 28 % 2 ≡ cu0
  cu0_of = omega arith

  bev_of : status_of cu0 bev im five / 2 ^ 22 % 2 ≡ bev
  bev_of = omega arith

  im_of : status_of cu0 bev im five / 2 ^ 8 % 256 ≡ im
  im_of = omega arith

  five_of : status_of cu0 bev im five % 32 ≡ five
  five_of = omega arith

  pub status_whole : kept_status (status_of cu0 bev im five) ≡ status_of cu0 bev im five
  status_whole = same_status cu0 bev im five _ _ _ _ cu0_of bev_of im_of five_of

module _ (bd ce ip7 ip code : ℕ) (h : bd < 2) (i : ce < 4) (j : ip7 < 2) (k : ip < 4) (l : code < 32) where
  bd_of : cause_of bd ce ip7 ip code / 2 ^ 31 % 2 ≡ bd
  bd_of = omega arith

  ce_of : cause_of bd ce ip7 ip code / 2 ^ 28 % 4 ≡ ce
  ce_of = omega arith

  ip7_of : cause_of bd ce ip7 ip code / 2 ^ 15 % 2 ≡ ip7
  ip7_of = omega arith

  ip_of : cause_of bd ce ip7 ip code / 2 ^ 8 % 4 ≡ ip
  ip_of = omega arith

  code_of : cause_of bd ce ip7 ip code / 2 ^ 2 % 32 ≡ code
  code_of = omega arith

  pub cause_whole : kept_cause (cause_of bd ce ip7 ip code) ≡ cause_of bd ce ip7 ip code
  cause_whole = same_cause bd ce ip7 ip code _ _ _ _ _ bd_of ce_of ip7_of ip_of code_of

-- fields that make a value up, make it up again after one of them is replaced
module _ (cu0 bev im five s t : ℕ) (h : cu0 < 2) (i : bev < 2) (j : im < 256) (k : five < 32) (l : t < 32) (e : status_of cu0 bev im five ≡ s) where
  pub five_replaced : s / 2 ^ 5 * 2 ^ 5 + t ≡ status_of cu0 bev im t
  five_replaced = omega arith

  pub five_changed : kept_status (s / 2 ^ 5 * 2 ^ 5 + t) ≡ s / 2 ^ 5 * 2 ^ 5 + t
  five_changed = subst (λ (x : ℕ). kept_status x ≡ x) (sym five_replaced) (status_whole cu0 bev im t h i j l)

module _ (bd ce ip7 ip code x v : ℕ) (h : bd < 2) (i : ce < 4) (j : ip7 < 2) (k : ip < 4) (l : code < 32) (e : cause_of bd ce ip7 ip code ≡ x) where
  pub code_replaced : v < 32 → replaced x 2 5 v ≡ cause_of bd ce ip7 ip v
  code_replaced m = omega arith

  pub ip_replaced : v < 4 → replaced x 8 2 v ≡ cause_of bd ce ip7 v code
  ip_replaced m = omega arith

  pub ip7_replaced : v < 2 → replaced x 15 1 v ≡ cause_of bd ce v ip code
  ip7_replaced m = omega arith

  pub ip7_cleared : cleared x 15 1 ≡ cause_of bd ce 0 ip code
  ip7_cleared = omega arith

  pub ce_replaced : v < 4 → replaced x 28 2 v ≡ cause_of bd v ip7 ip code
  ce_replaced m = omega arith

  pub bd_replaced : v * 2 ^ 31 + x % 2 ^ 31 ≡ cause_of v ce ip7 ip code
  bd_replaced = omega arith
