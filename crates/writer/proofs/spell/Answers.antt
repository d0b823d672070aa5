-- `writer::spell`. Each turn stores a byte's two digits after those of the bytes before.
-- Assumes nothing.
use Rattle.std.proofs.Common.{◌*◌, get_or, refl, ap, ◌∙◌, arith}
use Rattle.std.proofs.Math.Seq.{sets}
use mathlib.Core.List.{flat_map}
use Rattle.laws.specs.Lists.{tabulate}
use Rattle.writer.specs.Text.{byte_text}
use Rattle.writer.proofs.Lists.{sets_more}
use Rattle.writer.proofs.Spelling.{byte_stored, bytes_stored}
use Rattle.writer.proofs.spell.Goals as goal

pub loop-i-init : goal.loop-i-init
unfolding tabulate flat_map
loop-i-init c = refl

pub loop-i-preserved : goal.loop-i-preserved
loop-i-preserved c =
    let s = c.args.bytes.now in
    let l = c.loop-i in
    byte_stored l.text (2 * l.i) (get_or s l.i 0) _ _ (omega arith) (omega arith)
    ∙ ap (λ t. sets t (2 * l.i) (byte_text (get_or s l.i 0))) l.invariant
    ∙ sets_more byte_text 2 (λ k. get_or s k 0) (λ k. refl) c.args.text.now 0 l.i (2 * l.i) (omega arith)

pub returns : goal.returns
returns c = c.loop-i.invariant ∙ bytes_stored c.args.bytes.now c.args.text.now c.loop-i.i (omega arith) (omega arith)
