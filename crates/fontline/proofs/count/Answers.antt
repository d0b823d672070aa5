-- `fontline::count` meets its contract: the first of the two calls that refuses decides, else the count that reading gives.
-- Assumes nothing.
use Rattle.std.proofs.Common.{◌∙◌, ap, sym, arith}
use Rattle.laws.proofs.Said.{said_by}
use Rattle.fontline.proofs.Checking.{some_number, said_refusal, read_refuses, turning_refuses, both_accept}
use Rattle.ihex.specs.Reading.{said as said_read}
use Rattle.image.specs.Image.{said as said_turned}
use Rattle.fontline.specs.declared.NoFont.TheVariants.{Text, Image}
use Rattle.fontline.proofs.count.Goals as goal

pub returns-in_err-count : goal.returns-in_err-count
returns-in_err-count c =
    let refusal = c.in_err-count.field-0.0 in
    let reads = sym (ap said_read c.in_err-count.was) ∙ c.read.ensures.0 in
    said_refusal _ (Text refusal) c.from_residual.ensures.1 ∙ read_refuses _ (some_number (Text refusal)) reads

pub returns-in_err-image_to_font : goal.returns-in_err-image_to_font
returns-in_err-image_to_font c =
    let refusal = c.in_err-image_to_font.field-0.0 in
    let reads = sym (ap said_read c.in_ok-count.was) ∙ c.read.ensures.0 in
    let turns = sym (ap said_turned c.in_err-image_to_font.was) ∙ c.image_to_font.ensures.0 in
    said_refusal _ (Image refusal) c.from_residual-in_err-image_to_font.ensures.1
    ∙ turning_refuses _ reads c.read.ensures.1 (some_number (Image refusal)) turns

pub returns : goal.returns
returns c =
    let reads = sym (ap said_read c.in_ok-count.was) ∙ c.read.ensures.0 in
    let turns = sym (ap said_turned c.in_ok-image_to_font.was) ∙ c.image_to_font.ensures.0 in
    said_by (both_accept _ reads c.read.ensures.1 turns) (omega arith) (omega arith) (omega arith)
