-- What a register keeps of a value, it keeps of what a move, an exception, ERET or the timer makes of it.
use Rattle.std.proofs.Common.{◌≡◌, ℕ, ◌+◌, ◌*◌, ◌/◌, ◌%◌, ◌^◌, ◌<◌, sym, subst, arith}
use Rattle.promise.specs.Bits.{bits}
use Rattle.cp0.specs.Registers.{only, replaced, cleared, kept_index, kept_entry_lo, kept_wired, kept_entry_hi, kept_context, kept_status, kept_cause}
use Rattle.cp0.specs.Exceptions.{cause_after}
use Rattle.cp0.proofs.Fields.{cause_of, status_whole, five_changed, cause_whole, code_replaced, ip_replaced, ip7_replaced, ip7_cleared, ce_replaced, bd_replaced}

pub index_kept : (w : ℕ) → kept_index (kept_index w) ≡ kept_index w
index_kept w = omega arith

pub entrylo_kept : (w : ℕ) → kept_entry_lo (kept_entry_lo w) ≡ kept_entry_lo w
entrylo_kept w = omega arith

pub wired_kept : (w : ℕ) → kept_wired (kept_wired w) ≡ kept_wired w
wired_kept w = omega arith

pub entryhi_kept : (w : ℕ) → kept_entry_hi (kept_entry_hi w) ≡ kept_entry_hi w
entryhi_kept w = omega arith

pub entryhi_page : (v x : ℕ) → kept_entry_hi (only v 13 19 + x % 2 ^ 8) ≡ only v 13 19 + x % 2 ^ 8
entryhi_page v x = omega arith

pub context_moved : (v x : ℕ) → kept_context (only v 23 41 + only x 4 19) ≡ only v 23 41 + only x 4 19
context_moved v x = omega arith

pub context_page : (v x : ℕ) → kept_context (only x 23 41 + bits v 13 19 * 2 ^ 4) ≡ only x 23 41 + bits v 13 19 * 2 ^ 4
context_page v x = omega arith

pub status_kept : (w : ℕ) → kept_status (kept_status w) ≡ kept_status w
status_kept w = status_whole _ _ _ _ (omega arith) (omega arith) (omega arith) (omega arith)

-- a change of the low five bits of Status, KSU to IE
pub status_five : (s t : ℕ) → t < 32 → kept_status s ≡ s → kept_status (s / 2 ^ 5 * 2 ^ 5 + t) ≡ s / 2 ^ 5 * 2 ^ 5 + t
status_five s t k h =
    five_changed (s / 2 ^ 28 % 2) (s / 2 ^ 22 % 2) (s / 2 ^ 8 % 2 ^ 8) (s % 2 ^ 5) s t (omega arith) (omega arith) (omega arith) (omega arith) k h

-- the fields of a value that Cause keeps
module _ (x : ℕ) (h : kept_cause x ≡ x) where
  abbrev BD : ℕ
  BD = x / 2 ^ 31 % 2

  abbrev CE : ℕ
  CE = x / 2 ^ 28 % 2 ^ 2

  abbrev IP7 : ℕ
  IP7 = x / 2 ^ 15 % 2

  abbrev IP : ℕ
  IP = x / 2 ^ 8 % 2 ^ 2

  abbrev ExcCode : ℕ
  ExcCode = x / 2 ^ 2 % 2 ^ 5

  bd : BD < 2
  bd = omega arith

  ce : CE < 4
  ce = omega arith

  ip7 : IP7 < 2
  ip7 = omega arith

  ip : IP < 4
  ip = omega arith

  code : ExcCode < 32
  code = omega arith

  pub cause_timed : kept_cause (replaced x 15 1 1) ≡ replaced x 15 1 1
  cause_timed =
      subst (λ (y : ℕ). kept_cause y ≡ y) (sym (ip7_replaced BD CE IP7 IP ExcCode x 1 bd ce ip7 ip code h (omega arith)))
      (cause_whole BD CE 1 IP ExcCode bd ce (omega arith) ip code)

  pub cause_untimed : kept_cause (cleared x 15 1) ≡ cleared x 15 1
  cause_untimed =
      subst (λ (y : ℕ). kept_cause y ≡ y) (sym (ip7_cleared BD CE IP7 IP ExcCode x 0 bd ce ip7 ip code h))
      (cause_whole BD CE 0 IP ExcCode bd ce (omega arith) ip code)

  pub cause_moved : (v : ℕ) → v < 4 → kept_cause (replaced x 8 2 v) ≡ replaced x 8 2 v
  cause_moved v l =
      subst (λ (y : ℕ). kept_cause y ≡ y) (sym (ip_replaced BD CE IP7 IP ExcCode x v bd ce ip7 ip code h l))
      (cause_whole BD CE IP7 v ExcCode bd ce ip7 l code)

  -- an exception's ExcCode, CE and BD, one after the other
  module _ (n u b : ℕ) (hn : n < 32) (hu : u < 4) (hb : b < 2) where
    coded : replaced x 2 5 n ≡ cause_of BD CE IP7 IP n
    coded = code_replaced BD CE IP7 IP ExcCode x n bd ce ip7 ip code h hn

    united : replaced (replaced x 2 5 n) 28 2 u ≡ cause_of BD u IP7 IP n
    united = ce_replaced BD CE IP7 IP n (replaced x 2 5 n) u bd ce ip7 ip hn (sym coded) hu

    pub cause_entered : kept_cause (cause_after x n u b) ≡ cause_after x n u b
    unfolding cause_after
    cause_entered =
        subst (λ (y : ℕ). kept_cause y ≡ y) (sym (bd_replaced BD u IP7 IP n (replaced (replaced x 2 5 n) 28 2 u) b bd hu ip7 ip hn (sym united)))
        (cause_whole b u IP7 IP n hb hu ip7 ip hn)
