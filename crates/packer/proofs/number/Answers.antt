-- `packer::number` meets its contract: the table holds for the glyphs before g.
-- Assumes nothing.
use Rattle.std.proofs.Common.{sym, ap, ◌∙◌, arith, rules}
use Rattle.packer.specs.Steps.{same_rows, narrow_rows, spot_of}
use Rattle.packer.proofs.Asked.{whole_parts}
use Rattle.packer.proofs.Table.{drawn_length, glyph_is, table_none, table_old, table_added, table_over, table_wide, table_all}
use Rattle.packer.proofs.number.Goals as goal
use Rattle.packer.proofs.number.Goals.{in-Some, in-None+else-not-narrow+else-patterns-eq-FONT_CELLS}

pub loop-g-init : goal.loop-g-init
loop-g-init c = table_none _ _ _ _ _ c.requires

pub returns-then-not-narrow : goal.returns-then-not-narrow
returns-then-not-narrow c =
    let turn = c.loop-g in
    let size = drawn_length c.args.glyphs.now c.args.patterns.now.glyphs.now c.requires.chunks in
    let is = glyph_is c.args.glyphs.now turn.patterns.glyphs.now c.args.patterns.now.glyphs.now turn.g turn.invariant.chunks c.requires.chunks in
    let wide = ap narrow_rows is ∙ sym c.narrow.ensures ∙ c.if-not-narrow.true in
    table_wide c.args.glyphs.now turn.patterns.glyphs.now turn.g turn.patterns.used turn.patterns.firsts turn.numbers c.requires.whole turn.invariant (omega (arith, size)) wide

pub returns-then-patterns-eq-FONT_CELLS : goal.returns-then-patterns-eq-FONT_CELLS
returns-then-patterns-eq-FONT_CELLS c =
    let turn = c.loop-g in
    let size = drawn_length c.args.glyphs.now c.args.patterns.now.glyphs.now c.requires.chunks in
    let is = glyph_is c.args.glyphs.now turn.patterns.glyphs.now c.args.patterns.now.glyphs.now turn.g turn.invariant.chunks c.requires.chunks in
    let slim = ap narrow_rows is ∙ sym c.narrow.ensures ∙ c.if-not-narrow.false in
    table_over c.args.glyphs.now turn.patterns.glyphs.now turn.g turn.patterns.used turn.patterns.firsts turn.numbers c.requires.whole turn.invariant (omega (arith, size)) (λ k m. ap (same_rows _) is ∙ c.in-None.ensures k m) slim (omega arith) turn.patterns.glyphs.now turn.patterns.firsts turn.patterns.used turn.numbers c.over.result c.over.ensures

pub add-cell-requires : goal.add-cell-requires
add-cell-requires c =
    let turn = c.loop-g in
    let few = (whole_parts c.args.glyphs.now c.requires.whole).1 in
    let size = drawn_length c.args.glyphs.now c.args.patterns.now.glyphs.now c.requires.chunks in
    let there = drawn_length c.args.glyphs.now turn.patterns.glyphs.now turn.invariant.chunks in
    let is = glyph_is c.args.glyphs.now turn.patterns.glyphs.now c.args.patterns.now.glyphs.now turn.g turn.invariant.chunks c.requires.chunks in
    record { few = omega (arith, turn.patterns.kept.few); there = omega (arith, size); low = omega (arith, size); at = c.spot_of-spot.ensures ∙ ap spot_of (sym is) }

pub bounds-numbers-g : goal.bounds-numbers-g
bounds-numbers-g c =
    let few = (whole_parts c.args.glyphs.now c.requires.whole).1 in
    omega (arith, drawn_length c.args.glyphs.now c.args.patterns.now.glyphs.now c.requires.chunks)

pub loop-g-preserved : goal.loop-g-preserved
loop-g-preserved c =
    let turn = c.loop-g in
    let size = drawn_length c.args.glyphs.now c.args.patterns.now.glyphs.now c.requires.chunks in
    let is = glyph_is c.args.glyphs.now turn.patterns.glyphs.now c.args.patterns.now.glyphs.now turn.g turn.invariant.chunks c.requires.chunks in
    elim c.match-find.branch [
      | in-Some w ↦ rw (w.patterns-is, w.cell-is) (table_old c.args.glyphs.now turn.patterns.glyphs.now turn.g turn.patterns.used turn.patterns.firsts turn.numbers c.requires.whole turn.invariant (omega (arith, size)) w.in-Some.cell (search rules) (w.in-Some.ensures.0, ap (same_rows _) is ∙ w.in-Some.ensures.1))
      | in-None+else-not-narrow+else-patterns-eq-FONT_CELLS w ↦ rw (w.patterns-is, w.cell-is) (table_added c.args.glyphs.now turn.patterns.glyphs.now turn.g turn.patterns.used turn.patterns.firsts turn.numbers c.requires.whole turn.invariant (omega (arith, size)) (λ k m. ap (same_rows _) is ∙ w.in-None.ensures k m) (ap narrow_rows is ∙ sym w.narrow.ensures ∙ w.if-not-narrow.false) _ _ _ _ w.add-cell.ensures (search rules) (search rules) (omega (arith, turn.patterns.kept.few)))
    ]

pub returns : goal.returns
returns c =
    let turn = c.loop-g in
    let size = drawn_length c.args.glyphs.now c.args.patterns.now.glyphs.now c.requires.chunks in
    table_all c.args.glyphs.now turn.patterns.glyphs.now turn.g turn.patterns.used turn.patterns.firsts turn.numbers c.requires.whole turn.patterns.kept.few (omega (arith, size)) turn.invariant
