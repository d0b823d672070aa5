-- `packer::mixed` meets its contract: the product of two halves fits.
-- Assumes nothing.
use Rattle.std.proofs.Common.{arith}
use Rattle.packer.specs.Steps.{mixed_spot}
use Rattle.packer.proofs.Words.{halves_product}
use Rattle.packer.proofs.mixed.Goals as goal

pub overflow_mul-product : goal.overflow_mul-product
overflow_mul-product c =
    let a = c.args in
    omega (arith, halves_product a.number (omega arith))

pub returns : goal.returns
unfolding mixed_spot
returns c = omega arith
