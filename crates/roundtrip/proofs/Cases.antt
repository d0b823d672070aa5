-- What each claim says at one place, in numbers. A case takes the claim for its argument, so that a claim that says something else there is refused
-- with what it says. An image and its text are long: of them only the numbers that are told here are computed.
-- Assumes nothing.
use Prim.Native.Nat.{ℕ, zero, suc, ◌+◌, ◌/◌, ◌<◌, ◌≤◌}
use mathlib.Core.Path.{◌≡◌, refl, sym, ◌∙◌, ap, subst}
use mathlib.Core.Bool.{Bool, true, false}
use mathlib.Core.List.{List, [], ◌∷◌, ◌++◌, map, flat_map}
use native.Mathlib.Omega.{arith}
use lib.ListN.{length, get_or, replicate, length-replicate, length-append, get_or-append}
use lib.Seq.{get_or_at}
use Rattle.laws.specs.Said.{Said, accepted}
use Rattle.laws.specs.Lists.{tabulate, first_of}
use Rattle.laws.specs.Sums.{sum_all}
use Rattle.laws.proofs.Lists.{length_tabulate, get_or_tabulate}
use Rattle.font.specs.Font.{is_font}
use Rattle.image.specs.Image.{image_of}
use Rattle.image.specs.Image as turning
use Rattle.ihex.specs.Digits.{digit}
use Rattle.ihex.specs.Lines.{lines, at_end, body_of}
use Rattle.ihex.specs.Records.{belongs, is_shaped, spelled_by, record_of, address_of, byte_in}
use Rattle.ihex.specs.Reading.{nth, image_in}
use Rattle.ihex.specs.Reading as reading
use Rattle.writer.specs.Text.{digit_text, record_bytes, record_text, record_in, end_record, text_of}
use Rattle.roundtrip.specs.Form.{is_upper, spelled, IsDataLine, HasWritersForm}
use Rattle.roundtrip.specs.RoundTrip.{IsImage, TextReadsBack, FontComesBack, FormIsTheTexts, OneTextAnImage, WritingGivesTheText, RewritingGivesTheText, TurnedImageIsAFonts}
use Rattle.roundtrip.proofs.Lines.{lines_front, map_front}
use Rattle.roundtrip.proofs.Form.{text_lines, text_line, text_last}
use Rattle.roundtrip.proofs.Theorems.{text_accepted, font_image, font_written, turned_font}

-- the count of any image's text
pub text_reads_back_case : TextReadsBack → (image room : List ℕ) → IsImage image → 8192 ≤ length room → ◌≡◌ {A = ℕ} 8192 8192
text_reads_back_case claim image room whole fits =
    ap (λ (a : Said). a.value) (sym (text_accepted image whole room fits) ∙ (claim image room whole fits).0)

-- and of any font's
pub font_comes_back_case : FontComesBack → (font text image rows : List ℕ) → is_font font ≡ true → 22540 ≤ length text → 8192 ≤ length image → length rows ≡ 1116
    → ◌≡◌ {A = ℕ} 8192 8192
font_comes_back_case claim font text image rows is_font_law fits room size =
    let counted =
    ap (λ (t : List ℕ). reading.answer_of t (length image)) (font_written font is_font_law text fits) ∙ text_accepted (image_of font) (font_image font is_font_law) image room in
    ap (λ (a : Said). a.value) (sym counted ∙ (claim font text image rows is_font_law fits room size).reads)

-- an image by its first byte, with zeros after it
abbrev from : ℕ → List ℕ
from b = b ∷ replicate 8191 0

zeros : (n k : ℕ) → get_or (replicate n 0) k 0 < 256
zeros zero k = omega arith
zeros (suc n) zero = omega arith
zeros (suc n) (suc k) = zeros n k

-- what is so at 0, and at each number after it, is so at all
each_of : (P : ℕ → Type 0) → P 0 → ((k : ℕ) → P (suc k)) → (k : ℕ) → P k
each_of P first later zero = first
each_of P first later (suc k) = later k

size_of : (b : ℕ) → length (from b) ≡ 8192
size_of b = ap suc (length-replicate {A = ℕ} 8191 0)

-- the first digit of its text's data, and the address of any text's second line
first_digit : (b : ℕ) → get_or (record_text (record_in (from b) 0)) 9 0 ≡ digit_text (b / 16)
unfolding record_in record_bytes record_text flat_map tabulate
first_digit b = refl

second_address : (image : List ℕ) → 16 ≡ address_of (spelled (record_text (record_in image 1)))
unfolding record_in record_bytes record_text flat_map tabulate digit
second_address image = refl

second_placed : (image : List ℕ) → 16 ≡ address_of (spelled (nth (lines (text_of image)) 1))
second_placed image = second_address image ∙ ap (λ (l : List ℕ). address_of (spelled l)) (sym (text_line image 1 (omega arith)))

-- an image with 256 in it, whose text has a G; and the second line of any image's text
pub form_is_the_texts_case : FormIsTheTexts → (256 < 256 → false ≡ true) × ((image : List ℕ) → IsImage image → ◌≡◌ {A = ℕ} 16 16)
form_is_the_texts_case claim = (
  λ h.
      let formed = (claim (text_of (from 256))).1 (record { image = from 256; whole = record { size = size_of 256; bytes = each_of _ h (zeros 8191) }; is_text = refl }) in
      ap is_upper (sym (first_digit 256) ∙ ap (λ (l : List ℕ). get_or l 9 0) (sym (text_line (from 256) 0 (omega arith)))) ∙ (formed.each 0 (omega arith)).digits 8 (omega arith),
  λ image whole. second_placed image ∙ (((claim (text_of image)).1 (record { image = image; whole = whole; is_text = refl })).each 1 (omega arith)).placed,
)

-- the end record's line, FF for its last digits, and the same with ff; and an image's text with that line at its end
abbrev last_line : ℕ → List ℕ
last_line c = 58 ∷ 48 ∷ 48 ∷ 48 ∷ 48 ∷ 48 ∷ 48 ∷ 48 ∷ 49 ∷ c ∷ c ∷ 10 ∷ []

module _ (image : List ℕ) where
  abbrev line : ℕ → List ℕ
  line n = record_text (record_in image n)

  abbrev small : List ℕ
  small = flat_map record_text (tabulate 512 (record_in image)) ++ last_line 102

  small_one : lines (last_line 102) ≡ last_line 102 ∷ []
  unfolding lines
  small_one = refl

  small_lines : lines small ≡ tabulate 512 line ++ (last_line 102 ∷ [])
  small_lines = lines_front 512 (record_in image) (last_line 102) ∙ ap (λ (ls : List (List ℕ)). tabulate 512 line ++ ls) small_one

  small_size : length (lines small) ≡ 513
  small_size = ap length small_lines ∙ length-append (tabulate 512 line) (last_line 102 ∷ []) ∙ ap (λ n. n + 1) (length_tabulate 512 line)

  small_line : (n : ℕ) → n < 512 → nth (lines (text_of image)) n ≡ nth (lines small) n
  small_line n h =
      text_line image n h
      ∙ sym (ap (λ (ls : List (List ℕ)). get_or ls n []) small_lines ∙ get_or-append (tabulate 512 line) (last_line 102 ∷ []) [] n (omega (arith, length_tabulate 512 line)) ∙ get_or_tabulate 512 line n [] h)

  small_last : nth (lines small) 512 ≡ last_line 102
  small_last = ap (λ (ls : List (List ℕ)). get_or ls 512 []) small_lines ∙ get_or_at (tabulate 512 line) (last_line 102) [] [] 512 (length_tabulate 512 line)

  end_record_law : record_of (record_text end_record) ≡ record_of (last_line 102)
  unfolding end_record record_bytes record_text flat_map tabulate first_of digit at_end body_of belongs is_shaped spelled_by sum_all
  end_record_law = refl

  small_image : image_in (text_of image) ≡ image_in small
  small_image =
      ap (λ (rs : List (List ℕ)). tabulate 8192 (byte_in 255 rs))
      (ap (map record_of) (text_lines image) ∙ map_front record_of 512 line (record_text end_record ∷ [])
      ∙ ap (λ (r : List ℕ). tabulate 512 (λ n. record_of (line n)) ++ (r ∷ [])) end_record_law
      ∙ sym (ap (map record_of) small_lines ∙ map_front record_of 512 line (last_line 102 ∷ [])))

-- two texts that have one image: a writer's, and the same with a last line in small letters
pub one_text_an_image_case : OneTextAnImage → (image : List ℕ) → HasWritersForm (text_of image) → ◌≡◌ {A = ℕ} 102 70 → ◌≡◌ {A = ℕ} 70 102
one_text_an_image_case claim image formed differ =
    let one = claim (text_of image) (small image) formed (record {
      size = small_size image;
      each = λ n h. subst (IsDataLine n) (small_line image n h) (formed.each n h);
      last = rw (small_last image) (ap last_line differ);
    }) (small_image image) in
    sym (ap (λ (l : List ℕ). get_or l 9 0) (text_last image)) ∙ ap (λ (t : List ℕ). get_or (nth (lines t) 512) 9 0) one ∙ ap (λ (l : List ℕ). get_or l 9 0) (small_last image)

-- the second line of any font's text
pub writing_gives_the_text_case : WritingGivesTheText → (font room : List ℕ) → is_font font ≡ true → 22540 ≤ length room → ◌≡◌ {A = ℕ} 16 16
writing_gives_the_text_case claim font room is_font_law fits =
    second_placed (image_of font)
    ∙ ap (λ (t : List ℕ). address_of (spelled (nth (lines t) 1))) (sym (font_written font is_font_law room fits))
    ∙ ((claim font room is_font_law fits).form.each 1 (omega arith)).placed

pub rewriting_gives_the_text_case : RewritingGivesTheText → (text font room : List ℕ) → is_font font ≡ true → image_in text ≡ image_of font → 22540 ≤ length room
    → ◌≡◌ {A = ℕ} 16 16
rewriting_gives_the_text_case claim text font room is_font_law same fits =
    second_placed (image_of font)
    ∙ ap (λ (t : List ℕ). address_of (spelled (nth (lines t) 1))) (sym (font_written font is_font_law room fits))
    ∙ ((claim text font room is_font_law same fits).form.each 1 (omega arith)).placed

-- any text whose image is accepted
pub turned_image_is_a_fonts_case : TurnedImageIsAFonts → (text : List ℕ) → turning.answer_of (image_in text) 1116 ≡ accepted 0 → ◌≡◌ {A = Bool} true true
turned_image_is_a_fonts_case claim text e = sym (turned_font text e) ∙ (claim text e).0
