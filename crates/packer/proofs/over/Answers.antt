-- `packer::over` meets its contract: the test decides.
-- Assumes nothing.
use Rattle.std.proofs.Common.{◌≡◌, true, false, sym, ◌∙◌}
use Rattle.laws.specs.Within.{within}
use Rattle.font.specs.Font.{most_row}
use Rattle.packer.proofs.over.Goals as goal

pub returns-then-all_within : goal.returns-then-all_within
returns-then-all_within c =
    let glyphs = c.args.glyphs.now in
    let all = c.all_within.ensures in
    let narrow : within most_row glyphs ≡ true = sym all ∙ search in
    rw narrow

pub returns-else-all_within : goal.returns-else-all_within
returns-else-all_within c =
    let glyphs = c.args.glyphs.now in
    let all = c.all_within.ensures in
    let wide : within most_row glyphs ≡ false = sym all ∙ search in
    rw wide
