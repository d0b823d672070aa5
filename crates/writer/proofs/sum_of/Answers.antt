-- `writer::sum_of`. Each turn adds a byte.
-- Assumes nothing.
use Rattle.std.proofs.Common.{◌%◌, get_or, refl, ap, ◌∙◌, arith}
use Rattle.laws.specs.Lists.{tabulate}
use Rattle.laws.specs.Sums.{sum_all}
use Rattle.ihex.proofs.Steps.{sum_more}
use Rattle.writer.proofs.Spelling.{each_of}
use Rattle.writer.proofs.sum_of.Goals as goal

pub loop-byte-init : goal.loop-byte-init
unfolding tabulate sum_all
loop-byte-init c = refl

pub loop-byte-preserved : goal.loop-byte-preserved
loop-byte-preserved c =
    let l = c.loop-byte in
    sum_more l.byte-index (λ k. get_or c.args.bytes.now k 0) l.sum _ _ l.invariant refl refl

pub returns : goal.returns
returns c = c.loop-byte.invariant ∙ ap (λ l. sum_all l % 256) (each_of c.args.bytes.now c.loop-byte.byte-index (omega arith))
