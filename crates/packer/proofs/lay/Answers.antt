-- `packer::lay` meets its contract: each return by the tests that led to it.
-- Assumes nothing.
use Rattle.std.proofs.Common.{◌≤◌, ◌∙◌, arith, rules}
use Rattle.laws.proofs.Said.{said_by}
use Rattle.font.specs.Font.{font_cells}
use Rattle.packer.specs.Glyphs.{patterns_in}
use Rattle.packer.proofs.Laid.{laid_font}
use Rattle.packer.proofs.Outcomes.{no_rows, no_places, packed_all, leaves, leaves_font, leaves_cells}
use Rattle.packer.proofs.lay.Goals as goal
use Rattle.packer.proofs.lay.Goals.{then-font-lt-FONT_ROWS-via-then-font-lt-FONT_ROWS, then-font-lt-FONT_ROWS-via-else-font-lt-FONT_ROWS+then-cells-count}

pub returns-then-font-lt-FONT_ROWS : goal.returns-then-font-lt-FONT_ROWS
returns-then-font-lt-FONT_ROWS c =
    let a = c.args in
    let n = c.requires in
    let few : patterns_in a.glyphs.now ≤ font_cells = omega (arith, n.all, n.few) in
    elim c.then-font-lt-FONT_ROWS.branch [
      | then-font-lt-FONT_ROWS-via-then-font-lt-FONT_ROWS w ↦
          let told = no_rows a.glyphs.now a.font.now a.cells.now n.are few (omega arith) in
          let left = leaves a.glyphs.now a.font.now a.cells.now 6 (omega arith) told in
          (told, left.0, left.1)
      | then-font-lt-FONT_ROWS-via-else-font-lt-FONT_ROWS+then-cells-count w ↦
          let told = no_places a.glyphs.now a.font.now a.cells.now n.are few (omega arith) in
          let left = leaves a.glyphs.now a.font.now a.cells.now 6 (omega arith) told in
          (told, left.0, left.1)
    ]

pub returns : goal.returns
returns c =
    let a = c.args in
    let n = c.requires in
    let t = a.patterns.now in
    let few : patterns_in a.glyphs.now ≤ font_cells = omega (arith, n.all, n.few) in
    let told = packed_all a.glyphs.now a.font.now a.cells.now n.are few (omega arith) (omega arith) in
    let font = laid_font a.glyphs.now t.glyphs.now t.firsts a.numbers.now a.font.now _ t.used n (omega arith) c.lay_font.ensures in
    let cells = c.copy_from_slice.ensures.after in (
      said_by told (omega arith) (omega arith) (omega (arith, n.all)),
      font ∙ leaves_font a.glyphs.now a.font.now a.cells.now told,
      rw cells (leaves_cells a.glyphs.now a.font.now a.cells.now t.glyphs.now t.firsts a.numbers.now t.used n (search rules) told),
    )
