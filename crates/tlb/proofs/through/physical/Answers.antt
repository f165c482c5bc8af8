-- No shift or sum loses a bit, since a run has at most 12 ones (`Pages`).
use native.Mathlib.Omega.{arith}
use Rattle.tlb.proofs.Pages.{run_le, bits_le, bytes_some, product_fits, sum_fits, physical_code}
use Rattle.tlb.proofs.through.physical.Goals as goal

pub overflow_shl-bytes : goal.overflow_shl-bytes
overflow_shl-bytes c = omega (arith, bits_le c.args.mask)

pub overflow_shr-result : goal.overflow_shr-result
overflow_shr-result c = omega (arith, run_le c.args.mask)

pub overflow_mul-result : goal.overflow_mul-result
overflow_mul-result c = record { fits = product_fits c.args.mask c.args.lo c.args.v _ _ c.run_ones-ones.ensures c.page_bits.ensures }

pub overflow_sub-result : goal.overflow_sub-result
overflow_sub-result c = bytes_some c.args.mask c.args.lo c.args.v _ _ c.run_ones-ones.ensures c.page_bits.ensures

pub overflow_add-result : goal.overflow_add-result
overflow_add-result c = record { fits = sum_fits c.args.mask c.args.lo c.args.v _ _ c.run_ones-ones.ensures c.page_bits.ensures }

pub returns : goal.returns
returns c = physical_code c.args.mask c.args.lo c.args.v _ _ c.run_ones-ones.ensures c.page_bits.ensures
