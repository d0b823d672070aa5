-- The parts of a text: how long each is, and that a record's line is its front, its data and its back, stored in turn.
-- Assumes nothing.
use Rattle.std.proofs.Common.{◌≡◌, ℕ, ◌+◌, ◌*◌, ◌/◌, ◌%◌, ◌<◌, ◌≤◌, List, [], ◌∷◌, ◌++◌, length, get_or, take, eqb, Err, drop, set, sym, refl, ap, ◌∙◌, append_assoc, append-nil, mul-suc, add-one, arith, length-append}
use mathlib.Core.List.{flat_map}
use lib.ListN.{drop_of_length-le}
use lib.Seq.{sets, length-sets, sets-eq, drop-drop}
use Rattle.font.specs.declared.FontError.{FontError}
use Rattle.font.specs.declared.FontError.TheVariants.{Length, Row}
use Rattle.font.specs.Whole.{said as font_said, answer_of as font_answer}
use Rattle.font.proofs.Refused.{whole_refused}
use Rattle.laws.specs.Pick.{pick}
use Rattle.laws.specs.Said.{Said}
use Rattle.laws.specs.Lists.{tabulate}
use Rattle.laws.proofs.Lists.{length_tabulate, is_tabulate}
use Rattle.laws.specs.Sums.{sum_all}
use Rattle.ihex.specs.Lines.{LF}
use Rattle.ihex.specs.Records.{colon, sum_of}
use Rattle.image.specs.Image.{image_of}
use Rattle.writer.specs.Text.{digit_text, byte_text, bytes_text, checksum, record_bytes, record_text, bytes_in, record_in, end_record, text_of}
use Rattle.writer.specs.Writing.{answer_of, left_of}
use Rattle.writer.proofs.Lists.{sets_append, flat_append, flat_one, flat_length, sets_more}

pub bytes_length : (bytes : List ℕ) → length (bytes_text bytes) ≡ 2 * length bytes
unfolding flat_map
bytes_length [] = refl
bytes_length (b ∷ bytes) = omega (arith, bytes_length bytes, mul-suc 2 (length bytes))

pub record_length : (kind address : ℕ) (bytes : List ℕ) → length (record_text (record_bytes kind address bytes)) ≡ 12 + 2 * length bytes
unfolding record_text record_bytes
record_length kind address bytes = simp (length-append, bytes_length) (omega arith)

-- a byte's two digits, stored one after the other
pub byte_stored : (t : List ℕ) (at byte high low : ℕ) → high ≡ digit_text (byte / 16) → low ≡ digit_text (byte % 16)
    → set (set t at high) (at + 1) low ≡ sets t at (byte_text byte)
byte_stored t at byte high low e g = rw (e, g, add-one at)

-- a list is its elements in turn, as far as a loop that has come to its end
pub each_of : (bytes : List ℕ) (i : ℕ) → i ≡ length bytes → tabulate i (λ k. get_or bytes k 0) ≡ bytes
each_of bytes i e = sym (is_tabulate 0 i (λ k. get_or bytes k 0) bytes (sym e) (λ k h. refl))

-- what is as long as the room takes all of it
pub sets_all : (t vs : List ℕ) → length vs ≡ length t → sets t 0 vs ≡ vs
sets_all t vs e = sets-eq vs t 0 (omega arith) ∙ ap (λ (l : List ℕ). vs ++ l) (drop_of_length-le t (omega arith)) ∙ append-nil vs

pub bytes_stored : (bytes t : List ℕ) (i : ℕ) → i ≡ length bytes → length t ≡ 2 * length bytes → sets t 0 (bytes_text (tabulate i (λ k. get_or bytes k 0))) ≡ bytes_text bytes
bytes_stored bytes t i e room = ap (λ l. sets t 0 (bytes_text l)) (each_of bytes i e) ∙ sets_all t (bytes_text bytes) (omega (arith, bytes_length bytes))

-- what is lent and comes back is stored there
pub lent_back : (t part : List ℕ) (at k : ℕ) → length part ≡ k → at + k ≤ length t → take at t ++ (part ++ drop k (drop at t)) ≡ sets t at part
lent_back t part at k e h =
    sym (sets-eq part t at (omega arith) ∙ append_assoc (take at t) part (drop (at + length part) t) ∙ ap (λ n. take at t ++ (part ++ drop (at + n) t)) e ∙ ap (λ (l : List ℕ). take at t ++ (part ++ l)) (sym (drop-drop k at t)))

-- a line's parts, laid in turn
module _ (line head body check : List ℕ) (n end : ℕ) (room : length line ≡ 2 * n + 12) (at_end : end ≡ 2 * n + 9) (h : length head ≡ 8) (b : length body ≡ 2 * n) (c : length check ≡ 2) where
  pub line_laid : (t2 t3 t4 : List ℕ) → t2 ≡ sets (set line 0 colon) 1 head → t3 ≡ sets t2 9 body → t4 ≡ sets t3 end check
      → set t4 (end + 2) LF ≡ colon ∷ (head ++ (body ++ (check ++ (LF ∷ []))))
  line_laid t2 t3 t4 e2 e3 e4 =
      ap (λ t. set t (end + 2) LF) e4
      ∙ sym (sets_append (set line 0 colon) 1 head (body ++ (check ++ (LF ∷ []))) ∙ ap (λ t. sets t (1 + length head) (body ++ (check ++ (LF ∷ [])))) (sym e2)
      ∙ ap (λ k. sets t2 k (body ++ (check ++ (LF ∷ [])))) (omega arith)
      ∙ sets_append t2 9 body (check ++ (LF ∷ [])) ∙ ap (λ t. sets t (9 + length body) (check ++ (LF ∷ []))) (sym e3)
      ∙ ap (λ k. sets t3 k (check ++ (LF ∷ []))) (omega arith)
      ∙ sets_append t3 end check (LF ∷ []) ∙ ap (λ k. set (sets t3 end check) k LF) (omega arith))
      ∙ sets_all line (colon ∷ (head ++ (body ++ (check ++ (LF ∷ []))))) (simp length-append (omega arith))

pub parts_same : {h h' b b' c c' : List ℕ} → h ≡ h' → b ≡ b' → c ≡ c' → colon ∷ (h ++ (b ++ (c ++ (LF ∷ [])))) ≡ colon ∷ (h' ++ (b' ++ (c' ++ (LF ∷ []))))
parts_same e g i = rw (e, g, i)

-- a record's line by its parts
pub line_parts : (kind address : ℕ) (bytes : List ℕ)
    → record_text (record_bytes kind address bytes)
    ≡ colon ∷ (bytes_text (length bytes ∷ address / 256 ∷ address % 256 ∷ kind ∷ [])
    ++ (bytes_text bytes ++ (byte_text (checksum (sum_all (length bytes ∷ address / 256 ∷ address % 256 ∷ kind ∷ bytes) % 256)) ++ (LF ∷ []))))
unfolding record_text record_bytes
line_parts kind address bytes =
    let front = length bytes ∷ address / 256 ∷ address % 256 ∷ kind ∷ [] in
    let check = checksum (sum_of (front ++ bytes)) in
    ap (λ (l : List ℕ). colon ∷ l ++ (LF ∷ []))
    (flat_append byte_text (front ++ bytes) (check ∷ []) ∙ ap (λ (l : List ℕ). bytes_text (front ++ bytes) ++ l) (flat_one byte_text check)
    ∙ ap (λ (l : List ℕ). l ++ byte_text check) (flat_append byte_text front bytes))
    ∙ simp append_assoc

pub head_sum : (a b c d head body whole : ℕ) (bytes : List ℕ) → head ≡ sum_all (a ∷ b ∷ c ∷ d ∷ []) % 256 → body ≡ sum_all bytes % 256 → whole ≡ (head + body) % 256
    → whole ≡ sum_all (a ∷ b ∷ c ∷ d ∷ bytes) % 256
unfolding sum_all
head_sum a b c d head body whole bytes e g w = omega arith

-- the end record, put as one without data
pub end_put : (line : List ℕ) → line ≡ record_text (record_bytes 1 0 []) → line ≡ record_text end_record
unfolding end_record
end_put line e = e

pub end_length : length (record_text end_record) ≡ 12
unfolding end_record
end_length = record_length 1 0 []

-- the end record's line is :00000001FF and LF
pub end_line : record_text end_record ≡ 58 ∷ 48 ∷ 48 ∷ 48 ∷ 48 ∷ 48 ∷ 48 ∷ 48 ∷ 49 ∷ 70 ∷ 70 ∷ 10 ∷ []
unfolding record_text record_bytes end_record flat_map sum_all
end_line = refl

-- the text of an image: 512 records of 44 bytes and the end record
module _ (image : List ℕ) where
  pub line_length : (n : ℕ) → length (record_text (record_in image n)) ≡ 44
  unfolding record_in
  line_length n = record_length 0 (16 * n) (bytes_in image n) ∙ ap (λ k. 12 + 2 * k) (length_tabulate 16 (λ i. get_or image (16 * n + i) 0))

  -- what is put where a record's line goes
  pub data_line : (n address : ℕ) (bytes line : List ℕ) → line ≡ record_text (record_bytes 0 address bytes) → address ≡ 16 * n → bytes ≡ bytes_in image n → line ≡ record_text (record_in image n)
  unfolding record_in
  data_line n address bytes line e a b = e ∙ ap (λ k. record_text (record_bytes 0 k bytes)) a ∙ ap (λ l. record_text (record_bytes 0 (16 * n) l)) b

  pub line_back : (n at k : ℕ) (t line : List ℕ) → line ≡ record_text (record_in image n) → at ≡ 44 * n → k ≡ 44 → at + 44 ≤ length t
      → take at t ++ (line ++ drop k (drop at t)) ≡ sets t (44 * n) (record_text (record_in image n))
  line_back n at k t line e a b room =
      lent_back t line at k (omega (arith, ap length e, line_length n)) (omega arith) ∙ ap (λ i. sets t i line) a ∙ ap (sets t (44 * n)) e

  pub text_length : length (text_of image) ≡ 22540
  unfolding text_of end_record
  text_length =
      ap length (flat_append record_text (tabulate 512 (record_in image)) (end_record ∷ []))
      ∙ length-append (flat_map record_text (tabulate 512 (record_in image))) (flat_map record_text (end_record ∷ []))
      ∙ omega (arith, flat_length record_text 44 (record_in image) line_length 512, ap length (flat_one record_text end_record), record_length 1 0 [])

  pub text_parts : text_of image ≡ flat_map record_text (tabulate 512 (record_in image)) ++ record_text end_record
  unfolding text_of
  text_parts =
      flat_append record_text (tabulate 512 (record_in image)) (end_record ∷ [])
      ∙ ap (λ (l : List ℕ). flat_map record_text (tabulate 512 (record_in image)) ++ l) (flat_one record_text end_record)

  -- stored at the front of a room that holds it
  pub text_stored : (room : List ℕ) → 22540 ≤ length room → sets room 0 (text_of image) ≡ text_of image ++ drop 22540 room
  text_stored room h =
      let e : 0 + length (text_of image) ≡ 22540 = omega (arith, text_length) in
      sets-eq (text_of image) room 0 (omega arith) ∙ ap (λ n. text_of image ++ drop n room) e

-- a refused font leaves the room as it was
pub refused_left : (font room : List ℕ) (error : FontError) → font_said (Err error) ≡ font_answer font → room ≡ left_of font room
unfolding left_of answer_of
refused_left font room error e = sym (ap (λ (s : Said). pick (eqb s.number 0) (text_of (image_of font) ++ drop 22540 room) room) (sym (whole_refused font error _ e)) ∙ go error)
  where
    go : (error : FontError) → pick (eqb (font_said (Err error)).number 0) (text_of (image_of font) ++ drop 22540 room) room ≡ room
    go Length = refl
    go (Row row) = refl

-- the lines of the records so far stand at the front of the text
pub record Lined (font t₀ : List ℕ) (n : ℕ) (t : List ℕ) : Type 0 where
  pub within : n ≤ 512
  pub size : length t ≡ length t₀
  pub text : t ≡ sets t₀ 0 (flat_map record_text (tabulate n (record_in (image_of font))))

pub lined_none : (font t : List ℕ) → Lined font t 0 t
unfolding flat_map tabulate
lined_none font t = record { within = omega arith; size = refl; text = refl }

module _ {font t₀ : List ℕ} {n : ℕ} {t : List ℕ} (lined : Lined font t₀ n t) where
  pub lined_more : {t' : List ℕ} → t' ≡ sets t (44 * n) (record_text (record_in (image_of font) n)) → n < 512 → Lined font t₀ (n + 1) t'
  lined_more put below =
      record {
        within = omega arith;
        size = ap length put ∙ length-sets t (44 * n) (record_text (record_in (image_of font) n)) ∙ lined.size;
        text = rw (put, lined.text) (sets_more record_text 44 (record_in (image_of font)) (line_length (image_of font)) t₀ 0 n (44 * n) (omega arith));
      }

  pub lined_all : n ≡ 512 → {t' : List ℕ} → t' ≡ sets t 22528 (record_text end_record) → t' ≡ sets t₀ 0 (text_of (image_of font))
  lined_all e put =
      let image = image_of font in
      let size : 0 + length (flat_map record_text (tabulate 512 (record_in image))) ≡ 22528 = omega (arith, flat_length record_text 44 (record_in image) (line_length image) 512) in
      rw (put, lined.text, e, text_parts image) (sym (sets_append t₀ 0 (flat_map record_text (tabulate 512 (record_in image))) (record_text end_record) ∙ rw size))
