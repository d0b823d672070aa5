-- `packer::narrow` meets its contract: the bits of all rows together, part by part.
-- Assumes nothing.
use Rattle.std.proofs.Common.{◌∙◌, arith}
use Rattle.packer.proofs.Parts.{narrow_all}
use Rattle.packer.proofs.narrow.Goals as goal

pub returns : goal.returns
returns c =
    let first = c.four.ensures.0 in
    let second = c.four-2.ensures.0 in
    let third = c.four-3.ensures.0 in
    let fourth = c.four-4.ensures.0 in
    let last = c.two-last.ensures.0 in
    let parts = c.parts_narrow.ensures in
    parts ∙ rw (first, second, third, fourth, last) (narrow_all c.args.glyph.now (λ k. omega (arith, c.fits-glyph k)))
