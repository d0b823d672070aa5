-- `packer::PatternTable::further` meets its contract: the walk goes down the chain, to a pattern with the glyph's rows or to the chain's end.
-- Assumes nothing.
use Rattle.std.proofs.Common.{ℕ, ◌-◌, [], get_or, sym, ap, ◌∙◌, arith}
use Rattle.packer.specs.Steps.{same_rows}
use Rattle.packer.proofs.Chains.{walk_below, walk_on, walk_end}
use Rattle.packer.proofs.PatternTable.further.Goals as goal

pub bounds-self-cell : goal.bounds-self-cell
bounds-self-cell c =
    let t = c.args.self.now in
    omega (arith, t.kept.few, walk_below t.glyphs.now t.firsts t.nexts t.heads t.used t.kept c.args.glyph.now _ c.loop-next.invariant)

pub bounds-self-first : goal.bounds-self-first
bounds-self-first c =
    let t = c.args.self.now in
    let below = walk_below t.glyphs.now t.firsts t.nexts t.heads t.used t.kept c.args.glyph.now _ c.loop-next.invariant in
    omega (arith, c.from-first.ensures, t.kept.there (c.loop-next.next - 1) (omega arith))

pub returns-then-same : goal.returns-then-same
returns-then-same c =
    let t = c.args.self.now in
    let is = ap (λ (i : ℕ). same_rows (get_or t.glyphs.now i []) c.args.glyph.now) c.from-first.ensures in
    let below = walk_below t.glyphs.now t.firsts t.nexts t.heads t.used t.kept c.args.glyph.now _ c.loop-next.invariant in
    (omega arith, sym is ∙ sym c.same.ensures ∙ c.if-same.true)

pub bounds-self-cell-in-loop-next : goal.bounds-self-cell-in-loop-next
bounds-self-cell-in-loop-next c =
    let t = c.args.self.now in
    omega (arith, t.kept.few, walk_below t.glyphs.now t.firsts t.nexts t.heads t.used t.kept c.args.glyph.now _ c.loop-next.invariant)

pub loop-next-smaller : goal.loop-next-smaller
loop-next-smaller c =
    let t = c.args.self.now in
    let is = ap (λ (i : ℕ). same_rows (get_or t.glyphs.now i []) c.args.glyph.now) c.from-first.ensures in
    let on = walk_on t.glyphs.now t.firsts t.nexts t.heads t.used t.kept c.args.glyph.now c.loop-next.next (c.loop-next.next - 1) (omega arith) (sym is ∙ sym c.same.ensures ∙ c.if-same.false) c.loop-next.invariant in
    omega (arith, on.0)

pub loop-next-preserved : goal.loop-next-preserved
loop-next-preserved c =
    let t = c.args.self.now in
    let is = ap (λ (i : ℕ). same_rows (get_or t.glyphs.now i []) c.args.glyph.now) c.from-first.ensures in
    let on = walk_on t.glyphs.now t.firsts t.nexts t.heads t.used t.kept c.args.glyph.now c.loop-next.next (c.loop-next.next - 1) (omega arith) (sym is ∙ sym c.same.ensures ∙ c.if-same.false) c.loop-next.invariant in
    rw c.from-next.ensures on.1

pub returns : goal.returns
returns c =
    let t = c.args.self.now in
    walk_end t.glyphs.now t.firsts t.nexts t.heads t.used t.kept c.args.glyph.now c.loop-next.next (omega arith) c.loop-next.invariant
