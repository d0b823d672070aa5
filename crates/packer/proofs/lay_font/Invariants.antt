-- `packer::lay_font` meets its contract: the cells before `cell` have their patterns' rows, and what is past the font is as it was.
-- Assumes nothing.
use Rattle.std.proofs.Common.{◌≡◌, ℕ, ◌+◌, ◌*◌, ◌<◌, get_or, drop}
use Rattle.packer.specs.Steps.{pattern}
use Rattle.packer.proofs.lay_font.Given as goal

abbrev pub invariant-loop-cell : goal.invariant-loop-cell
invariant-loop-cell l =
    record {
      rows : (c i : ℕ) → c < l.cell → i < 18 → get_or l.font (18 * c + i) 0 ≡ get_or (pattern l.patterns.glyphs.now l.patterns.firsts c) i 0;
      right : drop 1116 l.font ≡ drop 1116 l.initial.font;
    }
