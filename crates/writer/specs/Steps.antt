-- What the writer's own steps ask, and what they put into the text, in the words of the account. Only contracts of private functions cite these.
-- Assumes nothing.
use Rattle.std.specs.Prelude.{◌≡◌, ℕ, ◌+◌, ◌-◌, ◌*◌, ◌/◌, ◌%◌, ◌<◌, ◌≤◌, true, List, length, slice_index, ◌==◌, nat_lt}
use Rattle.laws.specs.Pick.{pick}
use Rattle.laws.specs.Lists.{tabulate}
use Rattle.font.specs.Font.{font_cells, rows_of_cell, is_font}
use Rattle.image.specs.Image.{half_bytes}
use Rattle.writer.specs.Text.{record_data, text_bytes}

-- the bytes of an image at one place of a cell, two records' data, and how many such places there are
abbrev pub cell_bytes : ℕ
cell_bytes = 2 * record_data

abbrev pub places : ℕ
places = 256

-- the records of one half of the image
abbrev pub half_records : ℕ
half_records = half_bytes / record_data

abbrev pub bytes_of_cell : List ℕ → ℕ → List ℕ
bytes_of_cell image place = tabulate cell_bytes (λ i. slice_index image (cell_bytes * place + i))

-- how many bytes of record n hold a row: a cell has two records in each half
unfoldable pub count_of_rows : ℕ → ℕ
count_of_rows n = pick (nat_lt (n % half_records / 2) font_cells) (pick (n % 2 == 0) record_data (rows_of_cell - record_data)) 0

-- what each step asks of what it is lent
pub record ToPutText (font text : List ℕ) : Type 0 where
  pub font_is : is_font font ≡ true
  pub room : text_bytes ≤ length text

pub record ToPutRecord (bytes line : List ℕ) : Type 0 where
  pub short : length bytes < 256
  pub room : length line ≡ 2 * length bytes + 12

pub record ToFill (font : List ℕ) (place : ℕ) : Type 0 where
  pub font_is : is_font font ≡ true
  pub below : place < places
