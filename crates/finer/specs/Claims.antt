-- What the finer numbers of M-102 tell, of any call: 4 and 7 a length and nothing else, 18 a font's first row above 4095, 19 the first byte of the
-- refused line that does not belong in its place, 20 that the refused line has no such byte and still is no record.
-- Assumes nothing.
use Rattle.std.specs.Prelude.{ℕ, ◌+◌, ◌-◌, ◌<◌, ◌≤◌, ◌≡◌, true, false, List, length, get_or, drop}
use Rattle.font.specs.Font.{font_rows, most_row}
use Rattle.units.specs.declared.Dots.{Dots}
use Rattle.units.specs.declared.Lines.{Lines}
use Rattle.judging.specs.declared.Settings.{Settings}
use Rattle.judging.specs.Judging.{answer_of as painting}
use Rattle.ihex.specs.Lines.{lines, at_end, body_of, place_of}
use Rattle.ihex.specs.Records.{records, belongs, has_bad, is_shaped}
use Rattle.ihex.specs.Reading.{most_text, nth, stop_of, answer_of as reading}
use Rattle.writer.specs.Writing.{answer_of as writing}

-- 4 is said of a font's length alone, and 7 of a text's: no other fault of a font or of a text is told by them.
abbrev pub PaintLength : Type 0
PaintLength =
    (words font : List ℕ) (s : Settings) (line : Lines) (width : Dots) (room : ℕ)
    → (painting words font s line width room).number ≡ 4 → length font ≡ font_rows → ⊥

abbrev pub WriteLength : Type 0
WriteLength = (font : List ℕ) (room : ℕ) → (writing font room).number ≡ 4 → length font ≡ font_rows → ⊥

abbrev pub ReadLength : Type 0
ReadLength = (text : List ℕ) (room : ℕ) → (reading text room).number ≡ 7 → most_text < length text

-- a font's first row above 4095
pub record IsFirstAbove (font : List ℕ) (row : ℕ) : Type 0 where
  pub size : length font ≡ font_rows
  pub inside : row < font_rows
  pub above : most_row < get_or font row 0
  pub before : (k : ℕ) → k < row → get_or font k 0 ≤ most_row

-- The place of 18 is that row's index.
abbrev pub PaintPoints : Type 0
PaintPoints =
    (words font : List ℕ) (s : Settings) (line : Lines) (width : Dots) (room : ℕ)
    → (painting words font s line width room).number ≡ 18 → IsFirstAbove font (painting words font s line width room).place

abbrev pub WritePoints : Type 0
WritePoints = (font : List ℕ) (room : ℕ) → (writing font room).number ≡ 18 → IsFirstAbove font (writing font room).place

-- of a line that starts at one place, the first byte that does not belong in its place stands at another, and the line does not end before it
pub record IsFirstBad (text : List ℕ) (start place : ℕ) : Type 0 where
  pub from : start ≤ place
  pub inside : place < length text
  pub bad : belongs (place - start) (get_or text place 0) ≡ false
  pub no_end : (k : ℕ) → start + k ≤ place → at_end (drop (start + k) text) ≡ false
  pub before : (k : ℕ) → start + k < place → belongs k (get_or text (start + k) 0) ≡ true

-- The place of 19 is that byte's offset, and the line is the refused one, at which a reader stops.
abbrev pub CharacterPoints : Type 0
CharacterPoints =
    (text : List ℕ) (room : ℕ) → (reading text room).number ≡ 19
    → IsFirstBad text (place_of (lines text) (stop_of (records text))) (reading text room).place

-- a line, by its number, starts at a place, and has no bad character and not the record's shape either
pub record IsNoRecord (text : List ℕ) (line place : ℕ) : Type 0 where
  pub inside : line < length (lines text)
  pub starts : place ≡ place_of (lines text) line
  pub clean : has_bad (body_of (nth (lines text) line)) ≡ false
  pub unshaped : is_shaped (body_of (nth (lines text) line)) ≡ false

-- The place of 20 is where such a line starts, and it is the refused one.
abbrev pub ShapePoints : Type 0
ShapePoints = (text : List ℕ) (room : ℕ) → (reading text room).number ≡ 20 → IsNoRecord text (stop_of (records text)) (reading text room).place
