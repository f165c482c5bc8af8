-- The shift leaves the bytes behind the field out.
use Rattle.std.proofs.Common.{◌≡◌, ℕ, ◌+◌, ◌-◌, ◌*◌, ◌/◌, ◌%◌, ◌^◌, ap, ◌∙◌, arith}
use Rattle.memory.specs.Loads.{span}
use Rattle.memory.proofs.loads.field.Goals as goal

pub returns : goal.returns
unfolding span
returns c =
    let at = c.args.p.0 % 8 / c.args.size * c.args.size in
    let e : 8 - c.args.size - at ≡ 8 - (at + c.args.size) = omega arith in
    c.kept_low.ensures ∙ ap (λ (k : ℕ). c.args.n / 2 ^ (8 * k) % 2 ^ (8 * c.args.size)) e
