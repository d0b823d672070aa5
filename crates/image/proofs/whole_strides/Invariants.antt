-- `image::whole_strides` meets its contract: no address passed lacks a bit.
-- Assumes nothing.
use Rattle.std.proofs.Common.{◌*◌}
use Rattle.image.specs.Steps.{WholeTo}
use Rattle.image.proofs.whole_strides.Given as goal

abbrev pub invariant-loop-stride : goal.invariant-loop-stride
invariant-loop-stride l = WholeTo l.image (32 * l.stride)
