-- The whole of eight bytes is their doubleword.
use Rattle.std.proofs.Common.{◌≡◌, ℕ, ◌*◌, ◌/◌, ◌%◌, ◌^◌, ◌<◌, sym, ap, ◌∙◌, div-one, mod-eq_of_lt, arith}
use Rattle.memory.specs.Loads.{span}

pub span_whole : (n a : ℕ) → n < 2 ^ 64 → n ≡ span 8 n (a % 8 / 8 * 8)
unfolding span
span_whole n a h =
    let e : a % 8 / 8 * 8 ≡ 0 = omega arith in
    rw e (sym (ap (λ (m : ℕ). m % 2 ^ 64) (div-one n) ∙ mod-eq_of_lt h))
