-- What writing a font and reading its text make of each other: document 00, demand 2, and document 01, 'The character image', third
-- paragraph. Each statement is about the definitions that the promises of `write`, `read` and `image_to_font` cite, and is a type here;
-- proofs/Theorems.antt proves it under the same name.
-- Assumes nothing.
use Rattle.std.specs.Prelude.{ℕ, ◌<◌, ◌≤◌, ◌≡◌, true, List, ◌++◌, length, get_or, take, drop}
use Rattle.laws.specs.Said.{accepted}
use Rattle.font.specs.Font.{is_font, font_rows}
use Rattle.image.specs.Image.{image_bytes, image_of, font_of}
use Rattle.image.specs.Image as turning
use Rattle.ihex.specs.Reading.{image_in}
use Rattle.ihex.specs.Reading as reading
use Rattle.writer.specs.Text.{text_of, text_bytes}
use Rattle.writer.specs.Writing as writing
use Rattle.roundtrip.specs.Form.{HasWritersForm}

-- 8,192 bytes
pub record IsImage (image : List ℕ) : Type 0 where
  pub size : length image ≡ image_bytes
  pub bytes : (a : ℕ) → get_or image a 0 < 256

-- The text of an image, whatever its bytes, is accepted with a count of 8,192, and the image comes back.
abbrev pub TextReadsBack : Type 0
TextReadsBack =
    (image room : List ℕ) → IsImage image → image_bytes ≤ length room
    → (reading.answer_of (text_of image) (length room) ≡ accepted image_bytes) × (reading.left_of (text_of image) room ≡ image ++ drop image_bytes room)

-- what the writer leaves of a font in the front of a room, and what the reader leaves of that in the front of another
abbrev pub written_in : List ℕ → List ℕ → List ℕ
written_in font text = take text_bytes (writing.left_of font text)

abbrev pub read_in : List ℕ → List ℕ → List ℕ → List ℕ
read_in font text image = take image_bytes (reading.left_of (written_in font text) image)

-- A font that is written, read and turned back comes back: each call accepts, and 8,192 bytes are counted on the way.
pub record ComesBack (font text image rows : List ℕ) : Type 0 where
  pub writes : writing.answer_of font (length text) ≡ accepted 0
  pub reads : reading.answer_of (written_in font text) (length image) ≡ accepted image_bytes
  pub is_image : read_in font text image ≡ image_of font
  pub turns : turning.answer_of (read_in font text image) (length rows) ≡ accepted 0
  pub is_font_law : turning.left_of (read_in font text image) rows ≡ font

abbrev pub FontComesBack : Type 0
FontComesBack =
    (font text image rows : List ℕ) → is_font font ≡ true → text_bytes ≤ length text → image_bytes ≤ length image → length rows ≡ font_rows
    → ComesBack font text image rows

-- the text of some image of 8,192 bytes
pub record IsAnImagesText (text : List ℕ) : Type 0 where
  pub image : List ℕ
  pub whole : IsImage image
  pub is_text : text ≡ text_of image

-- The texts of the writer's form, line by line, are the texts of images, and no others.
abbrev pub FormIsTheTexts : Type 0
FormIsTheTexts = (text : List ℕ) → (HasWritersForm text → IsAnImagesText text) × (IsAnImagesText text → HasWritersForm text)

-- No two texts of the writer's form have one image.
abbrev pub OneTextAnImage : Type 0
OneTextAnImage = (text other : List ℕ) → HasWritersForm text → HasWritersForm other → image_in text ≡ image_in other → text ≡ other

-- the text is of the writer's form and has the image, and no other is and has
pub record IsTheTextOf (image text : List ℕ) : Type 0 where
  pub form : HasWritersForm text
  pub has : image_in text ≡ image
  pub only : (other : List ℕ) → HasWritersForm other → image_in other ≡ image → other ≡ text

-- What writing a font gives has the font's image, and is of the writer's form; no other text is both.
abbrev pub WritingGivesTheText : Type 0
WritingGivesTheText = (font room : List ℕ) → is_font font ≡ true → text_bytes ≤ length room → IsTheTextOf (image_of font) (written_in font room)

-- So if the image of a text belongs to a font, then writing the font gives that image's one text of the writer's form. The text need not
-- be accepted: this holds of what its records spell.
abbrev pub RewritingGivesTheText : Type 0
RewritingGivesTheText =
    (text font room : List ℕ) → is_font font ≡ true → image_in text ≡ image_of font → text_bytes ≤ length room
    → IsTheTextOf (image_in text) (written_in font room)

-- And a text's image is a font's, namely of the font that it is turned into, wherever turning accepts it.
abbrev pub TurnedImageIsAFonts : Type 0
TurnedImageIsAFonts =
    (text : List ℕ) → turning.answer_of (image_in text) font_rows ≡ accepted 0
    → (is_font (font_of (image_in text)) ≡ true) × (image_in text ≡ image_of (font_of (image_in text)))
