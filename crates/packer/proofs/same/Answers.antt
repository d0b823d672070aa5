-- `packer::same` meets its contract: the rows before 4 l agree, and where four rows differ the glyphs do.
-- Assumes nothing.
use Rattle.std.proofs.Common.{◌*◌, sym, arith}
use Rattle.packer.proofs.Words.{more_four, four_differ, last_decide}
use Rattle.packer.proofs.same.Goals as goal

pub returns-then-four : goal.returns-then-four
returns-then-four c =
    let one = c.four.ensures.0 in
    let other = c.four-in-loop-l.ensures.0 in
    sym (four_differ c.args.one.now c.args.other.now (4 * c.loop-l.l) (omega arith) (λ e. absurd (omega (arith, one, other, e))))

pub loop-l-preserved : goal.loop-l-preserved
loop-l-preserved c =
    let one = c.four.ensures.0 in
    let other = c.four-in-loop-l.ensures.0 in
    let more = more_four c.args.one.now c.args.other.now (λ k. omega (arith, c.fits-one k)) (λ k. omega (arith, c.fits-other k)) (4 * c.loop-l.l) (4 * c.loop-l.l) (omega arith) (omega (arith, one, other)) c.loop-l.invariant in
    λ l lt. more l (omega arith)

pub returns : goal.returns
returns c =
    let one = c.two in
    let other = c.two-2 in
    last_decide c.args.one.now c.args.other.now (λ k. omega (arith, c.fits-one k)) (λ k. omega (arith, c.fits-other k)) (4 * c.loop-l.l) one.result other.result (omega arith) c.loop-l.invariant (omega (arith, one.ensures.0)) (omega (arith, other.ensures.0))
