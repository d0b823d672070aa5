-- `packer::PatternTable::find` meets its contract: the first step of the walk, and then the further ones.
-- Assumes nothing.
use Rattle.std.proofs.Common.{ℕ, ◌-◌, [], get_or, sym, ap, ◌∙◌, arith}
use Rattle.packer.specs.Steps.{same_rows}
use Rattle.packer.proofs.Words.{spot_below}
use Rattle.packer.proofs.Chains.{walk_from, walk_below, walk_on, walk_end}
use Rattle.packer.proofs.PatternTable.find.Goals as goal

pub bounds-self-spot : goal.bounds-self-spot
bounds-self-spot c = omega (arith, c.requires, spot_below c.args.glyph.now)

pub returns-then-last-eq0 : goal.returns-then-last-eq0
returns-then-last-eq0 c =
    let t = c.args.self.now in
    let from = walk_from t.glyphs.now t.firsts t.nexts t.heads t.used t.kept c.args.glyph.now c.args.spot _ c.requires c.from-last.ensures in
    walk_end t.glyphs.now t.firsts t.nexts t.heads t.used t.kept c.args.glyph.now _ (omega arith) from

pub bounds-self-cell : goal.bounds-self-cell
bounds-self-cell c =
    let t = c.args.self.now in
    let from = walk_from t.glyphs.now t.firsts t.nexts t.heads t.used t.kept c.args.glyph.now c.args.spot _ c.requires c.from-last.ensures in
    omega (arith, t.kept.few, walk_below t.glyphs.now t.firsts t.nexts t.heads t.used t.kept c.args.glyph.now _ from)

pub bounds-self-first : goal.bounds-self-first
bounds-self-first c =
    let t = c.args.self.now in
    let from = walk_from t.glyphs.now t.firsts t.nexts t.heads t.used t.kept c.args.glyph.now c.args.spot _ c.requires c.from-last.ensures in
    let below = walk_below t.glyphs.now t.firsts t.nexts t.heads t.used t.kept c.args.glyph.now _ from in
    omega (arith, c.from-first.ensures, t.kept.there (c.from-last.result - 1) (omega arith))

pub returns-then-same : goal.returns-then-same
returns-then-same c =
    let t = c.args.self.now in
    let is = ap (λ (i : ℕ). same_rows (get_or t.glyphs.now i []) c.args.glyph.now) c.from-first.ensures in
    let from = walk_from t.glyphs.now t.firsts t.nexts t.heads t.used t.kept c.args.glyph.now c.args.spot _ c.requires c.from-last.ensures in
    let below = walk_below t.glyphs.now t.firsts t.nexts t.heads t.used t.kept c.args.glyph.now _ from in
    (omega arith, sym is ∙ sym c.same.ensures ∙ c.if-same.true)

pub bounds-self-cell-2 : goal.bounds-self-cell-2
bounds-self-cell-2 c =
    let t = c.args.self.now in
    let from = walk_from t.glyphs.now t.firsts t.nexts t.heads t.used t.kept c.args.glyph.now c.args.spot _ c.requires c.from-last.ensures in
    omega (arith, t.kept.few, walk_below t.glyphs.now t.firsts t.nexts t.heads t.used t.kept c.args.glyph.now _ from)

pub further-requires : goal.further-requires
further-requires c =
    let t = c.args.self.now in
    let is = ap (λ (i : ℕ). same_rows (get_or t.glyphs.now i []) c.args.glyph.now) c.from-first.ensures in
    let from = walk_from t.glyphs.now t.firsts t.nexts t.heads t.used t.kept c.args.glyph.now c.args.spot _ c.requires c.from-last.ensures in
    rw c.from-next.ensures (walk_on t.glyphs.now t.firsts t.nexts t.heads t.used t.kept c.args.glyph.now _ _ (omega arith) (sym is ∙ sym c.same.ensures ∙ c.if-same.false) from).1
