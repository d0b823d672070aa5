-- `packer::lay_font` meets its contract: the cells before `cell` have their patterns' rows, and what is past the font is as it was.
-- Assumes nothing.
use Rattle.std.proofs.Common.{ℕ, [], ◌*◌, get_or, ap, ◌∙◌, arith, rules}
use Rattle.std.proofs.lemmas.List.{get_or-take}
use Rattle.std.proofs.lemmas.Slice.{drop-put_mid}
use Rattle.packer.proofs.Laid.{laid_more, laid_all}
use Rattle.packer.proofs.lay_font.Goals as goal

pub loop-cell-preserved : goal.loop-cell-preserved
loop-cell-preserved c =
    let t = c.args.patterns.now in
    let turn = c.loop-cell in
    let copied = c.copy_from_slice.ensures in
    record {
      rows = laid_more t.glyphs.now t.firsts turn.font _ turn.cell _ (omega arith) (omega (arith, t.kept.few, c.requires, turn.auto.font)) (search rules) (copied.after ∙ ap (λ (i : ℕ). get_or t.glyphs.now i []) (omega (arith, c.from.ensures, get_or-take t.used t.firsts turn.cell 0 (omega arith)))) turn.invariant.rows;
      right = drop-put_mid (18 * turn.cell) _ turn.font _ 1116 (omega (arith, t.kept.few)) (omega (arith, t.kept.few, c.requires, turn.auto.font)) (search rules) ∙ turn.invariant.right;
    }

pub returns : goal.returns
returns c =
    let t = c.args.patterns.now in
    let turn = c.loop-cell in
    laid_all t.glyphs.now t.firsts _ turn.font _ t.used _ (omega arith) t.kept.few (omega (arith, c.requires, turn.auto.font)) (omega (arith, turn.auto.font)) (search rules) (λ d i a b. turn.invariant.rows d i (omega arith) b) turn.invariant.right
