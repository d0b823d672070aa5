-- The painted line, and what a call leaves: document 01, 'From words to dots'.
-- Assumes nothing.
use Rattle.std.specs.Prelude.{ℕ, ◌*◌, List, ◌++◌, eqb, length, drop}
use Rattle.laws.specs.Pick.{pick}
use Rattle.laws.specs.Lists.{tabulate}
use Rattle.font.specs.Font.{font_dot}
use Rattle.units.specs.declared.Dots.{Dots}
use Rattle.units.specs.declared.Lines.{Lines}
use Rattle.display.specs.declared.View.{View}
use Rattle.modes.specs.Modes.{video, lit_in}
use Rattle.judging.specs.declared.Settings.{Settings}
use Rattle.judging.specs.Judging.{answer_of}
use Rattle.display.specs.declared.Kind.{Kind}
use Rattle.display.specs.Words.{kinds_of}
use Rattle.display.specs.Cells.{Cell, cells}
use Rattle.display.specs.Picture.{Drawn, dot_at}

-- rows start at dot 4h
abbrev pub first_dot : Settings → Dots
first_dot s = record { 0 = 4 * s.h }

-- the first row starts at line 4v
abbrev pub first_line : Settings → Lines
first_line s = record { 0 = 4 * s.v }

abbrev pub view_of : Settings → ℕ → Lines → View
view_of s frame line = record { left = first_dot s; line = line; mode = s.mode; lit = lit_in s.ratio s.frequency frame }

-- the cells of a screen as the settings place them
abbrev pub screen_of : List Kind → Settings → List Cell
screen_of kinds s = cells (first_dot s) (first_line s) s.colour kinds

-- dot k of a line: with the display off, video
unfoldable pub dot_of : List Kind → Drawn → Settings → ℕ → Lines → ℕ → ℕ
dot_of kinds dots s frame line k = pick s.on (dot_at dots (view_of s frame line) s.colour (screen_of kinds s) k) video

-- the line: dots 0 to width - 1, the others are cut
abbrev pub line_of : List Kind → Drawn → Settings → ℕ → Lines → Dots → List ℕ
line_of kinds dots s frame line width = tabulate width.0 (dot_of kinds dots s frame line)

-- what the call leaves: the line of what its words are, drawn as in its font, and what was past it; or all as it was
unfoldable pub left_by : List ℕ → List ℕ → Settings → ℕ → Lines → Dots → List ℕ → List ℕ
left_by words font s frame line width out =
    pick (eqb (answer_of words font s line width (length out)).number 0) (line_of (kinds_of words) (font_dot font) s frame line width ++ drop width.0 out) out
