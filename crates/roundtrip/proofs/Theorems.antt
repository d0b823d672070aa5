-- The statements of specs/RoundTrip.antt, proved. The records of an image's text are the records that it was made of, so the reader accepts
-- the text and gives the image back; all else follows from that and from image and font being one thing in two forms.
-- Assumes nothing.
use mathlib.Core.Path.{◌≡◌, sym, ◌∙◌, ap, subst}
use mathlib.Core.Bool.{Bool, true, false}
use mathlib.Core.List.{List, [], ◌∷◌, ◌++◌, map}
use Prim.Native.Nat.{ℕ, ◌+◌, ◌*◌, ◌/◌, ◌%◌, ◌<◌, ◌≤◌}
use native.Mathlib.Omega.{arith}
use lib.Dec.{eqb, ltb}
use lib.ListN.{length, take, drop}
use lib.Seq.{take_at}
use borrow.Author.Tests.{le-ltb}
use Rattle.laws.specs.Pick.{pick}
use Rattle.laws.specs.Said.{Said, accepted}
use Rattle.font.specs.Font.{is_font, row_of}
use Rattle.font.proofs.Each.{font_tests}
use Rattle.laws.specs.Lists.{tabulate}
use Rattle.image.specs.Image.{image_of, font_of, half_at, due_at, has_row, cell_at, row_at}
use Rattle.image.specs.Image as turning
use Rattle.laws.proofs.Lists.{length_tabulate, tabulate_same}
use Rattle.image.proofs.Turning.{font_row_law, font_again, image_accepted, image_again, gives_font}
use Rattle.ihex.specs.Lines.{lines}
use Rattle.ihex.specs.Records.{record_of, records, gives, data_at, byte_in}
use Rattle.ihex.specs.Reading.{image_in}
use Rattle.ihex.specs.Reading as reading
use Rattle.ihex.proofs.Given.{record_small}
use Rattle.writer.specs.Text.{record_text, record_in, end_record, records_of, text_of}
use Rattle.writer.specs.Writing as writing
use Rattle.writer.proofs.Spelling.{text_length}
use Rattle.roundtrip.specs.Form.{HasWritersForm}
use Rattle.roundtrip.specs.RoundTrip.{IsImage, TextReadsBack, written_in, read_in, FontComesBack, FormIsTheTexts, OneTextAnImage, WritingGivesTheText, RewritingGivesTheText, TurnedImageIsAFonts}
use Rattle.roundtrip.proofs.Lines.{Small, line_spells, map_front}
use Rattle.roundtrip.proofs.Form.{text_lines, form_of, of_form}
use Rattle.roundtrip.proofs.Records.{small_tabulate, end_parts, data_parts, image_judged, image_given}

-- the text of an image
module _ (image : List ℕ) (whole : IsImage image) where
  text_records : records (text_of image) ≡ records_of image
  text_records =
      ap (map record_of) (text_lines image) ∙ map_front record_of 512 (λ n. record_text (record_in image n)) (record_text end_record ∷ [])
      ∙ ap (λ (rs : List (List ℕ)). rs ++ (record_of (record_text end_record) ∷ []))
      (tabulate_same 512 _ _ (λ n h. line_spells (record_in image n) (data_parts image whole.bytes n h).good))
      ∙ ap (λ (r : List ℕ). tabulate 512 (record_in image) ++ (r ∷ [])) (line_spells end_record end_parts.good)

  text_image : image_in (text_of image) ≡ image
  text_image = ap (λ rs. tabulate 8192 (byte_in 255 rs)) text_records ∙ image_given image whole.bytes whole.size

  module _ (room : List ℕ) (fits : 8192 ≤ length room) where
    pub text_accepted : reading.answer_of (text_of image) (length room) ≡ accepted 8192
    unfolding reading.answer_of
    text_accepted =
        rw (le-ltb (length room) 8192 fits, le-ltb 65535 (length (text_of image)) (omega (arith, text_length image)), text_records) (image_judged image whole.bytes (lines (text_of image)))

    text_left : reading.left_of (text_of image) room ≡ image ++ drop 8192 room
    unfolding reading.left_of
    text_left = rw (text_accepted, text_image)

pub text_reads_back : TextReadsBack
text_reads_back image room whole fits = (text_accepted image whole room fits, text_left image whole room fits)

-- a font's image is 8,192 bytes
module _ (font : List ℕ) (e : is_font font ≡ true) where
  due_small : (a : ℕ) → due_at font a < 256
  unfolding due_at half_at
  due_small a = go (has_row a) (ltb a 4096) (font_row_law font e (18 * cell_at a + row_at a))
    where
      go : (b d : Bool) → row_of font (cell_at a) (row_at a) ≤ 4095
          → pick b (pick d (row_of font (cell_at a) (row_at a) % 256) (240 + row_of font (cell_at a) (row_at a) / 256)) 255 < 256
      go true true h = omega arith
      go true false h = omega arith
      go false d h = omega arith

  pub font_image : IsImage (image_of font)
  font_image = record { size = length_tabulate 8192 (due_at font); bytes = small_tabulate 8192 (due_at font) (λ a h. due_small a) }

  module _ (text : List ℕ) (fits : 22540 ≤ length text) where
    font_accepted : writing.answer_of font (length text) ≡ accepted 0
    unfolding writing.answer_of
    font_accepted = rw ((font_tests font e).0, (font_tests font e).1, le-ltb (length text) 22540 fits)

    pub font_written : written_in font text ≡ text_of (image_of font)
    unfolding writing.left_of
    font_written = rw font_accepted (take_at (text_of (image_of font)) (drop 22540 text) 22540 (text_length (image_of font)))

pub font_comes_back : FontComesBack
unfolding turning.left_of
font_comes_back font text image rows e fits room size =
    let written = font_written font e text fits in
    let back = text_reads_back (image_of font) image (font_image font e) room in
    let is : read_in font text image ≡ image_of font =
    ap (λ (t : List ℕ). take 8192 (reading.left_of t image)) written ∙ ap (λ (l : List ℕ). take 8192 l) back.1
    ∙ take_at (image_of font) (drop 8192 image) 8192 (length_tabulate 8192 (due_at font)) in
    let turns : turning.answer_of (read_in font text image) (length rows) ≡ accepted 0 =
    ap (λ (i : List ℕ). turning.answer_of i (length rows)) is ∙ ap (turning.answer_of (image_of font)) size ∙ image_accepted font in
    record {
      writes = font_accepted font e text fits;
      reads = ap (λ (t : List ℕ). reading.answer_of t (length image)) written ∙ back.0;
      is_image = is;
      turns = turns;
      is_font_law = ap (λ (a : Said). pick (eqb a.number 0) (font_of (read_in font text image)) rows) turns ∙ ap font_of is ∙ font_again font e;
    }

-- the texts of the writer's form are the texts of images
pub form_is_the_texts : FormIsTheTexts
form_is_the_texts text = (of_form text, λ t. subst HasWritersForm (sym t.is_text) (form_of t.image t.whole))

pub one_text_an_image : OneTextAnImage
one_text_an_image text other f g same =
    let t = of_form text f in
    let u = of_form other g in
    let one = ap image_in t.is_text ∙ text_image t.image t.whole in
    let two = ap image_in u.is_text ∙ text_image u.image u.whole in
    t.is_text ∙ ap text_of (sym one ∙ same ∙ two) ∙ sym u.is_text

pub writing_gives_the_text : WritingGivesTheText
writing_gives_the_text font room e fits =
    let written = font_written font e room fits in
    let formed : HasWritersForm (written_in font room) = subst HasWritersForm (sym written) (form_of (image_of font) (font_image font e)) in
    let has : image_in (written_in font room) ≡ image_of font = ap image_in written ∙ text_image (image_of font) (font_image font e) in
    record { form = formed; has = has; only = λ other f g. one_text_an_image other (written_in font room) f formed (g ∙ sym has) }

pub rewriting_gives_the_text : RewritingGivesTheText
rewriting_gives_the_text text font room e same fits = rw same (writing_gives_the_text font room e fits)

-- what records spell is bytes
byte_small : (ls : List (List ℕ)) (a : ℕ) → byte_in 255 (map record_of ls) a < 256
unfolding byte_in
byte_small [] a = omega arith
byte_small (l ∷ ls) a = go (gives (record_of l) a) (byte_small ls a)
  where
    go : (b : Bool) → byte_in 255 (map record_of ls) a < 256 → pick b (data_at (record_of l) a) (byte_in 255 (map record_of ls) a) < 256
    go true h = record_small _ _
    go false h = h

turned_small : (text : List ℕ) → Small (image_in text)
turned_small text = small_tabulate 8192 (byte_in 255 (records text)) (λ a h. byte_small (lines text) a)

pub turned_font : (text : List ℕ) → turning.answer_of (image_in text) 1116 ≡ accepted 0 → is_font (font_of (image_in text)) ≡ true
turned_font text e = gives_font (image_in text) 1116 e (turned_small text)

pub turned_image_is_a_fonts : TurnedImageIsAFonts
turned_image_is_a_fonts text e = (turned_font text e, sym (image_again (image_in text) 1116 e (turned_small text)))
