-- The texts of the writer's form are the texts of images. From an image: its text has the lines of its records, and their digits spell the
-- records. From a text of the form: its lines joined again are the text, the digits of a line are those of the bytes that they spell, and
-- the bytes of line n are the record that the writer makes of them.
-- Assumes nothing.
use mathlib.Core.Path.{◌≡◌, refl, sym, ◌∙◌, ap, subst}
use mathlib.Core.Bool.{Bool, true, false}
use mathlib.Core.List.{List, [], ◌∷◌, ◌++◌, flat_map}
use Prim.Native.Nat.{ℕ, zero, suc, ◌+◌, ◌-◌, ◌*◌, ◌/◌, ◌%◌, ◌<◌}
use native.Mathlib.Decide.{dec_lt}
use native.Mathlib.Omega.{arith}
use lib.Dec.{eqb, leb}
use lib.ListN.{length, get_or, take, drop, length-append, get_or-append, drop_of_length-le}
use lib.Seq.{split_at, get_or-take, get_or_at, length-take-le}
use borrow.Author.Tests.{lt-ltb, le-ltb, le-leb, lt-leb, leb-true}
use Rattle.laws.specs.Pick.{pick}
use Rattle.laws.specs.Lists.{tabulate}
use Rattle.laws.specs.Sums.{sum_all}
use Rattle.laws.proofs.Both.{both_parts}
use Rattle.laws.proofs.Lists.{length_tabulate, get_or_tabulate, is_tabulate, tabulate_same, tabulate_more}
use Rattle.laws.proofs.Sums.{sum_last}
use Rattle.ihex.specs.Digits.{among, digit, byte_at}
use Rattle.ihex.specs.Lines.{lines, onto, LF}
use Rattle.ihex.specs.Records.{colon, sum_of}
use Rattle.ihex.specs.Reading.{nth}
use Rattle.writer.specs.Text.{digit_text, bytes_text, checksum, record_bytes, record_text, bytes_in, record_in, end_record, text_of}
use Rattle.writer.proofs.Lists.{flat_append, flat_one}
use Rattle.writer.proofs.Spelling.{bytes_length, end_line}
use Rattle.roundtrip.specs.Form.{is_upper, spelled, IsDataLine, line_of_end, HasWritersForm}
use Rattle.roundtrip.specs.RoundTrip.{IsImage, IsAnImagesText}
use Rattle.roundtrip.proofs.Lines.{Small, colon_byte, lines_front, lines_one}
use Rattle.roundtrip.proofs.Records.{small_tabulate, Parts, data_parts}

-- no byte is lost: the lines joined again are the text
joined_onto : (c : ℕ) (ls : List (List ℕ)) → flat_map (λ (l : List ℕ). l) (onto c ls) ≡ c ∷ flat_map (λ (l : List ℕ). l) ls
unfolding flat_map
joined_onto c [] = refl
joined_onto c (l ∷ ls) = refl

joined : (s : List ℕ) → flat_map (λ (l : List ℕ). l) (lines s) ≡ s
unfolding lines flat_map
joined [] = refl
joined (c ∷ s) = go (eqb c 10) (joined s)
  where
    go : (b : Bool) → flat_map (λ (l : List ℕ). l) (lines s) ≡ s → flat_map (λ (l : List ℕ). l) (pick b ((c ∷ []) ∷ lines s) (onto c (lines s))) ≡ c ∷ s
    go true ih = ap (λ (l : List ℕ). c ∷ l) ih
    go false ih = joined_onto c (lines s) ∙ ap (λ (l : List ℕ). c ∷ l) ih

-- upper case digits
module _ (c : ℕ) (upper : is_upper c ≡ true) where
  upper_digit : (digit c < 16) × (digit_text (digit c) ≡ c)
  unfolding digit
  upper_digit = go (among 48 57 c) refl (among 65 70 c) refl upper
    where
      go : (a : Bool) → among 48 57 c ≡ a → (b : Bool) → among 65 70 c ≡ b → pick a true b ≡ true → (digit c < 16) × (digit_text (digit c) ≡ c)
      go true e b f t =
          let parts = both_parts (leb 48 c) (leb c 57) e in
          let low = leb-true 48 c parts.0 in
          let high = leb-true c 57 parts.1 in
          (rw e (omega arith), rw e (simp (lt-ltb (c - 48) 10 (omega arith)) (omega arith)))
      go false e b f t =
          let g : among 65 70 c ≡ true = f ∙ t in
          let parts = both_parts (leb 65 c) (leb c 70) g in
          let low = leb-true 65 c parts.0 in
          let high = leb-true c 70 parts.1 in
          (rw (e, g) (omega arith), rw (e, g) (simp (le-ltb (c - 55) 10 (omega arith)) (omega arith)))

text_upper : (v : ℕ) → v < 16 → is_upper (digit_text v) ≡ true
text_upper v h = go (dec_lt v 10)
  where
    go : Dec (v < 10) → is_upper (digit_text v) ≡ true
    go (yes l) = simp (lt-ltb v 10 l, le-leb 48 (48 + v) (omega arith), le-leb (48 + v) 57 (omega arith))
    go (no l) =
        simp (
          le-ltb v 10 (omega arith),
          le-leb 48 (55 + v) (omega arith),
          lt-leb (55 + v) 57 (omega arith),
          le-leb 65 (55 + v) (omega arith),
          le-leb (55 + v) 70 (omega arith),
        )

bytes_upper : (bytes : List ℕ) → Small bytes → (k : ℕ) → k < 2 * length bytes → is_upper (get_or (bytes_text bytes) k 0) ≡ true
unfolding flat_map
bytes_upper [] small k h = absurd (omega arith)
bytes_upper (b ∷ bytes) small zero h = let here = small 0 in text_upper (b / 16) (omega arith)
bytes_upper (b ∷ bytes) small (suc zero) h = text_upper (b % 16) (omega arith)
bytes_upper (b ∷ bytes) small (suc (suc k)) h = bytes_upper bytes (λ i. small (suc i)) k (omega arith)

-- digits are those of the bytes that they spell
digits_spell : (m : ℕ) (d : List ℕ) → length d ≡ 2 * m → ((k : ℕ) → k < 2 * m → is_upper (get_or d k 0) ≡ true) → d ≡ bytes_text (tabulate m (λ i. byte_at d (2 * i)))
unfolding flat_map tabulate
digits_spell zero [] e h = refl
digits_spell zero (a ∷ d) e h = absurd (omega arith)
digits_spell (suc m) [] e h = absurd (omega arith)
digits_spell (suc m) (a ∷ []) e h = absurd (omega arith)
digits_spell (suc m) (a ∷ (b ∷ d)) e h =
    let first = upper_digit a (h 0 (omega arith)) in
    let second = upper_digit b (h 1 (omega arith)) in
    let high : (16 * digit a + digit b) / 16 ≡ digit a = omega (arith, first.0, second.0) in
    let low : (16 * digit a + digit b) % 16 ≡ digit b = omega (arith, first.0, second.0) in
    let rest : tabulate m (λ i. byte_at d (2 * i)) ≡ tabulate m (λ i. byte_at (a ∷ (b ∷ d)) (2 * suc i)) = tabulate_same m _ _ (λ i g.
    let two : 2 * suc i ≡ suc (suc (2 * i)) = omega arith in
    let three : suc (suc (2 * i)) + 1 ≡ suc (suc (2 * i + 1)) = omega arith in
    rw (two, three)) in
    ap (λ (l : List ℕ). a ∷ (b ∷ l)) (digits_spell m d (omega arith) (λ k g. h (suc (suc k)) (omega arith)) ∙ ap bytes_text rest)
    ∙ ap (λ c. c ∷ (b ∷ bytes_text (tabulate m (λ i. byte_at (a ∷ (b ∷ d)) (2 * suc i))))) (sym (ap digit_text high ∙ first.1))
    ∙ ap (λ c. digit_text ((16 * digit a + digit b) / 16) ∷ (c ∷ bytes_text (tabulate m (λ i. byte_at (a ∷ (b ∷ d)) (2 * suc i))))) (sym (ap digit_text low ∙ second.1))

-- a line of the form, in its own bytes
module _ (n : ℕ) (line : List ℕ) (form : IsDataLine n line) where
  abbrev byte : ℕ → ℕ
  byte i = byte_at line (1 + 2 * i)

  byte_small : (i : ℕ) → i < 21 → byte i < 256
  byte_small i h =
      let next : 1 + (2 * i + 1) ≡ 1 + 2 * i + 1 = omega arith in
      let high = (upper_digit (get_or line (1 + 2 * i) 0) (form.digits (2 * i) (omega arith))).0 in
      let low = (upper_digit (get_or line (1 + 2 * i + 1) 0) (rw next at (form.digits (2 * i + 1) (omega arith)))).0 in
      omega arith

  line_text : line ≡ record_text (spelled line)
  unfolding record_text
  line_text = go line form.size form.begins form.digits form.ends
    where
      go : (l : List ℕ) → length l ≡ 44 → get_or l 0 0 ≡ 58 → ((k : ℕ) → k < 42 → is_upper (get_or l (1 + k) 0) ≡ true) → get_or l 43 0 ≡ 10 → l ≡ colon ∷ (bytes_text (spelled l) ++ (LF ∷ []))
      go [] size begins digits ends = absurd (omega arith)
      go (c ∷ t) size begins digits ends =
          let one : (k : ℕ) → 1 + k ≡ suc k = λ k. omega arith in
          let cut : t ≡ take 42 t ++ (get_or t 42 0 ∷ drop 43 t) = split_at t 42 0 (omega arith) in
          let none : drop 43 t ≡ [] = drop_of_length-le t {i = 43} (omega arith) in
          let upper : (k : ℕ) → k < 42 → is_upper (get_or (take 42 t) k 0) ≡ true =
          λ k g. ap is_upper (get_or-take 42 t k 0 g ∙ ap (λ m. get_or (c ∷ t) m 0) (sym (one k))) ∙ digits k g in
          let same : (i : ℕ) → i < 21 → byte_at (take 42 t) (2 * i) ≡ byte_at (c ∷ t) (1 + 2 * i) = λ i g.
          let next : 1 + 2 * i + 1 ≡ suc (2 * i + 1) = omega arith in
          rw (next, one (2 * i), get_or-take 42 t (2 * i) 0 (omega arith), get_or-take 42 t (2 * i + 1) 0 (omega arith)) in
          ap (λ a. a ∷ t) begins
          ∙ ap (λ (l : List ℕ). colon ∷ l)
          (cut ∙ ap (λ a. take 42 t ++ (a ∷ drop 43 t)) ends ∙ ap (λ (l : List ℕ). take 42 t ++ (10 ∷ l)) none
          ∙ ap (λ (l : List ℕ). l ++ (LF ∷ [])) (digits_spell 21 (take 42 t) (length-take-le 42 t (omega arith)) upper ∙ ap bytes_text (tabulate_same 21 _ _ same)))

  -- they are the record that the writer makes of its data
  module _ (image : List ℕ) (held : (i : ℕ) → i < 16 → get_or image (16 * n + i) 0 ≡ byte_at line (9 + 2 * i)) where
    abbrev front : List ℕ
    front = length (bytes_in image n) ∷ 16 * n / 256 ∷ 16 * n % 256 ∷ 0 ∷ bytes_in image n

    at : (i : ℕ) → i < 21 → get_or (spelled line) i 0 ≡ byte i
    at i h = get_or_tabulate 21 (λ i. byte_at line (1 + 2 * i)) i 0 h

    bytes_size : length (bytes_in image n) ≡ 16
    bytes_size = length_tabulate 16 (λ i. get_or image (16 * n + i) 0)

    front_is : tabulate 20 byte ≡ front
    front_is = sym (is_tabulate 0 20 byte front (omega (arith, bytes_size)) each)
      where
        each : (k : ℕ) → k < 20 → get_or front k 0 ≡ byte k
        each zero h = bytes_size ∙ sym form.counted ∙ at 0 (omega arith)
        each (suc zero) h = omega (arith, form.placed, at 1 (omega arith), at 2 (omega arith), byte_small 1 (omega arith), byte_small 2 (omega arith))
        each (suc (suc zero)) h = omega (arith, form.placed, at 1 (omega arith), at 2 (omega arith), byte_small 1 (omega arith), byte_small 2 (omega arith))
        each (suc (suc (suc zero))) h = sym form.typed ∙ at 3 (omega arith)
        each (suc (suc (suc (suc k)))) h =
            let place : 9 + 2 * k ≡ 1 + 2 * suc (suc (suc (suc k))) = omega arith in
            get_or_tabulate 16 (λ i. get_or image (16 * n + i) 0) k 0 (omega arith) ∙ held k (omega arith) ∙ ap (byte_at line) place

    last_is : byte 20 ≡ checksum (sum_of front)
    last_is =
        let whole = ap sum_all (tabulate_more 20 byte) ∙ sum_last (tabulate 20 byte) (byte 20) ∙ ap (λ l. sum_all l + byte 20) front_is in
        let none : (sum_all front + byte 20) % 256 ≡ 0 = ap (λ m. m % 256) (sym whole) ∙ form.summed in
        omega (arith, byte_small 20 (omega arith))

    pub spelled_is : spelled line ≡ record_in image n
    unfolding record_in record_bytes
    spelled_is = tabulate_more 20 byte ∙ ap (λ (l : List ℕ). l ++ (byte 20 ∷ [])) front_is ∙ ap (λ c. front ++ (c ∷ [])) last_is

flat_same : (n : ℕ) (f g : ℕ → List ℕ) → ((k : ℕ) → k < n → f k ≡ record_text (g k)) → flat_map (λ (l : List ℕ). l) (tabulate n f) ≡ flat_map record_text (tabulate n g)
unfolding flat_map tabulate
flat_same zero f g h = refl
flat_same (suc n) f g h =
    ap (λ (l : List ℕ). l ++ flat_map (λ (l : List ℕ). l) (tabulate n (λ k. f (suc k)))) (h 0 (omega arith))
    ∙ ap (λ (l : List ℕ). record_text (g 0) ++ l) (flat_same n (λ k. f (suc k)) (λ k. g (suc k)) (λ k l. h (suc k) (omega arith)))

-- a text of the form is the text of what its lines spell
module _ (text : List ℕ) (form : HasWritersForm text) where
  rule : ℕ → ℕ
  rule a = byte_at (nth (lines text) (a / 16)) (9 + 2 * (a % 16))

  rule_small : (a : ℕ) → a < 8192 → rule a < 256
  unfolding rule
  rule_small a h =
      let place : 1 + 2 * (4 + a % 16) ≡ 9 + 2 * (a % 16) = omega arith in
      subst (λ (p : ℕ). byte_at (nth (lines text) (a / 16)) p < 256) place (byte_small (a / 16) (nth (lines text) (a / 16)) (form.each (a / 16) (omega arith)) (4 + a % 16) (omega arith))

  rule_at : (n i : ℕ) → n < 512 → i < 16 → get_or (tabulate 8192 rule) (16 * n + i) 0 ≡ byte_at (nth (lines text) n) (9 + 2 * i)
  unfolding rule
  rule_at n i h g =
      let line : (16 * n + i) / 16 ≡ n = omega arith in
      let place : (16 * n + i) % 16 ≡ i = omega arith in
      get_or_tabulate 8192 rule (16 * n + i) 0 (omega arith) ∙ ap (λ m. byte_at (nth (lines text) m) (9 + 2 * ((16 * n + i) % 16))) line ∙ ap (λ m. byte_at (nth (lines text) n) (9 + 2 * m)) place

  line_is : (n : ℕ) → n < 512 → nth (lines text) n ≡ record_text (record_in (tabulate 8192 rule) n)
  line_is n h =
      line_text n (nth (lines text) n) (form.each n h)
      ∙ ap record_text (spelled_is n (nth (lines text) n) (form.each n h) (tabulate 8192 rule) (λ i g. rule_at n i h g))

  lines_are : lines text ≡ tabulate 512 (nth (lines text)) ++ (record_text end_record ∷ [])
  lines_are =
      is_tabulate [] 513 (nth (lines text)) (lines text) form.size (λ k h. refl) ∙ tabulate_more 512 (nth (lines text))
      ∙ ap (λ (l : List ℕ). tabulate 512 (nth (lines text)) ++ (l ∷ [])) (form.last ∙ sym end_line)

  pub of_form : IsAnImagesText text
  unfolding text_of
  of_form =
      record {
        image = tabulate 8192 rule;
        whole = record { size = length_tabulate 8192 rule; bytes = small_tabulate 8192 rule rule_small };
        is_text =
            sym (joined text) ∙ ap (flat_map (λ (l : List ℕ). l)) lines_are
            ∙ flat_append (λ (l : List ℕ). l) (tabulate 512 (nth (lines text))) (record_text end_record ∷ [])
            ∙ ap (λ (l : List ℕ). l ++ flat_map (λ (l : List ℕ). l) (record_text end_record ∷ [])) (flat_same 512 (nth (lines text)) (record_in (tabulate 8192 rule)) line_is)
            ∙ ap (λ (l : List ℕ). flat_map record_text (tabulate 512 (record_in (tabulate 8192 rule))) ++ l)
            (flat_one (λ (l : List ℕ). l) (record_text end_record) ∙ sym (flat_one record_text end_record))
            ∙ sym (flat_append record_text (tabulate 512 (record_in (tabulate 8192 rule))) (end_record ∷ []));
      }

-- the lines of an image's text
pub text_lines : (image : List ℕ) → lines (text_of image) ≡ tabulate 512 (λ n. record_text (record_in image n)) ++ (record_text end_record ∷ [])
unfolding text_of
text_lines image =
    ap lines (flat_append record_text (tabulate 512 (record_in image)) (end_record ∷ [])) ∙ lines_front 512 (record_in image) _
    ∙ ap (λ (ls : List (List ℕ)). tabulate 512 (λ n. record_text (record_in image n)) ++ ls) (ap lines (flat_one record_text end_record) ∙ lines_one end_record)

-- line n of them, and the last
pub text_line : (image : List ℕ) (n : ℕ) → n < 512 → nth (lines (text_of image)) n ≡ record_text (record_in image n)
text_line image n h =
    let line : ℕ → List ℕ = λ n. record_text (record_in image n) in
    ap (λ (ls : List (List ℕ)). get_or ls n []) (text_lines image)
    ∙ get_or-append (tabulate 512 line) (record_text end_record ∷ []) [] n (omega (arith, length_tabulate 512 line)) ∙ get_or_tabulate 512 line n [] h

pub text_last : (image : List ℕ) → nth (lines (text_of image)) 512 ≡ line_of_end
text_last image =
    let line : ℕ → List ℕ = λ n. record_text (record_in image n) in
    ap (λ (ls : List (List ℕ)). get_or ls 512 []) (text_lines image) ∙ get_or_at (tabulate 512 line) (record_text end_record) [] [] 512 (length_tabulate 512 line) ∙ end_line

-- a data record's line is of the form
module _ (n : ℕ) (r : List ℕ) (p : Parts 0 (16 * n) 16 r) where
  record_size_law : length r ≡ 21
  record_size_law = omega (arith, p.good.size, p.counted)

  text_at : (k : ℕ) → k < 43 → get_or (record_text r) k 0 ≡ get_or (colon ∷ bytes_text r) k 0
  unfolding record_text
  text_at k h = get_or-append (colon ∷ bytes_text r) (LF ∷ []) 0 k (omega (arith, bytes_length r, record_size_law))

  record_spelled : spelled (record_text r) ≡ r
  record_spelled =
      sym (is_tabulate 0 21 (λ i. byte_at (record_text r) (1 + 2 * i)) r record_size_law (λ k h.
      sym (rw (text_at (1 + 2 * k) (omega arith), text_at (1 + 2 * k + 1) (omega arith)) (colon_byte r p.good k (omega (arith, record_size_law))))))

  record_line : IsDataLine n (record_text r)
  unfolding record_text
  record_line =
      record {
        size = ap suc (length-append (bytes_text r) (LF ∷ [])) ∙ omega (arith, bytes_length r, record_size_law);
        begins = refl;
        digits = λ k h.
            let one : 1 + k ≡ suc k = omega arith in
            ap is_upper (text_at (1 + k) (omega arith) ∙ ap (λ m. get_or (colon ∷ bytes_text r) m 0) one) ∙ bytes_upper r p.good.small k (omega (arith, record_size_law));
        ends = get_or_at (colon ∷ bytes_text r) LF [] 0 43 (omega (arith, bytes_length r, record_size_law));
        counted = ap (λ (l : List ℕ). get_or l 0 0) record_spelled ∙ p.counted;
        placed = ap (λ (l : List ℕ). 256 * get_or l 1 0 + get_or l 2 0) record_spelled ∙ p.placed;
        typed = ap (λ (l : List ℕ). get_or l 3 0) record_spelled ∙ p.typed;
        summed = ap sum_of record_spelled ∙ p.summed;
      }

pub form_of : (image : List ℕ) → IsImage image → HasWritersForm (text_of image)
form_of image whole =
    let data_lines = tabulate 512 (λ n. record_text (record_in image n)) in
    let long : length data_lines ≡ 512 = length_tabulate 512 (λ n. record_text (record_in image n)) in
    record {
      size = ap length (text_lines image) ∙ length-append data_lines (record_text end_record ∷ []) ∙ ap (λ m. m + 1) long;
      each = λ n h.
          subst (IsDataLine n) (sym (text_line image n h)) (record_line n (record_in image n) (data_parts image whole.bytes n h));
      last = text_last image;
    }
