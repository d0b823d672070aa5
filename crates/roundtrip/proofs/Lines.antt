-- A record's line, read back: the two digits of a byte spell the byte, the line ends at its LF and nowhere before, and its body spells the
-- record. So the records of a text that is put together from lines are the records from which the lines were made.
-- Assumes nothing.
use mathlib.Core.Path.{◌≡◌, refl, sym, ◌∙◌, ap}
use mathlib.Core.Bool.{Bool, true, false}
use mathlib.Core.List.{List, [], ◌∷◌, ◌++◌, map, flat_map, append_assoc, append-nil}
use Prim.Native.Nat.{ℕ, zero, suc, ◌+◌, ◌*◌, ◌/◌, ◌%◌, ◌<◌, ◌≤◌}
use native.Mathlib.Nat.{le_of_suc-le-suc, not-suc-le-zero}
use native.Mathlib.Omega.{arith}
use lib.Dec.{eqb, ltb}
use lib.ListN.{length, get_or}
use borrow.Author.Tests.{ne_eqb, eqb-true}
use Rattle.laws.specs.Pick.{pick}
use Rattle.laws.proofs.Tests.{upto_at}
use Rattle.laws.specs.Lists.{tabulate}
use Rattle.laws.proofs.Lists.{is_tabulate}
use Rattle.ihex.specs.Digits.{digit, byte_at}
use Rattle.ihex.specs.Lines.{lines, at_end, body_of, LF}
use Rattle.ihex.specs.Records.{colon, belongs, is_shaped, spelled_by, record_of, length_of}
use Rattle.ihex.proofs.Shape.{first_colon, later_digit, each_belongs, fits_shaped}
use Rattle.writer.specs.Text.{digit_text, bytes_text, record_text}
use Rattle.writer.proofs.Spelling.{bytes_length}

-- a digit's character spells the digit, and is none of a line's end
digit_back : (v : ℕ) → v < 16 → digit (digit_text v) ≡ v
unfolding digit
digit_back v h = eqb-true _ _ (upto_at 16 (λ v. eqb (digit (digit_text v)) v) refl v h)

digit_high : (v : ℕ) → 48 ≤ digit_text v
digit_high v = go (ltb v 10)
  where
    go : (b : Bool) → 48 ≤ pick b (48 + v) (55 + v)
    go true = omega arith
    go false = omega arith

-- the text of bytes, up to the LF after it
lines_bytes : (bytes rest : List ℕ) → lines (bytes_text bytes ++ (LF ∷ rest)) ≡ (bytes_text bytes ++ (LF ∷ [])) ∷ lines rest
unfolding lines flat_map
lines_bytes [] rest = refl
lines_bytes (b ∷ bytes) rest =
    rw (
      ne_eqb (digit_text (b / 16)) 10 (omega (arith, digit_high (b / 16))),
      ne_eqb (digit_text (b % 16)) 10 (omega (arith, digit_high (b % 16))),
      lines_bytes bytes rest,
    )

body_bytes : (bytes : List ℕ) → body_of (bytes_text bytes ++ (LF ∷ [])) ≡ bytes_text bytes
unfolding body_of at_end flat_map
body_bytes [] = refl
body_bytes (b ∷ bytes) =
    let high = digit_high (b / 16) in
    let low = digit_high (b % 16) in
    simp (
      ne_eqb (digit_text (b / 16)) 10 (omega arith),
      ne_eqb (digit_text (b / 16)) 13 (omega arith),
      ne_eqb (digit_text (b % 16)) 10 (omega arith),
      ne_eqb (digit_text (b % 16)) 13 (omega arith),
      body_bytes bytes,
    )

-- all of it bytes
abbrev pub Small : List ℕ → Type 0
Small l = (i : ℕ) → get_or l i 0 < 256

-- its characters are digits, which spell the bytes
digits_bytes : (bytes : List ℕ) → Small bytes → (k : ℕ) → k < length (bytes_text bytes) → digit (get_or (bytes_text bytes) k 0) < 16
unfolding flat_map
digits_bytes [] small k h = absurd (not-suc-le-zero h)
digits_bytes (b ∷ bytes) small zero h =
    let here = small 0 in
    omega (arith, digit_back (b / 16) (omega arith))
digits_bytes (b ∷ bytes) small (suc zero) h = omega (arith, digit_back (b % 16) (omega arith))
digits_bytes (b ∷ bytes) small (suc (suc k)) h = digits_bytes bytes (λ i. small (suc i)) k (le_of_suc-le-suc (le_of_suc-le-suc h))

-- byte i of them
byte_back : (bytes : List ℕ) → Small bytes → (i : ℕ) → i < length bytes → byte_at (bytes_text bytes) (2 * i) ≡ get_or bytes i 0
unfolding flat_map
byte_back [] small i h = absurd (not-suc-le-zero h)
byte_back (b ∷ bytes) small zero h =
    let here = small 0 in
    let high = digit_back (b / 16) (omega arith) in
    let low = digit_back (b % 16) (omega arith) in
    omega arith
byte_back (b ∷ bytes) small (suc i) h =
    let two : 2 * suc i ≡ suc (suc (2 * i)) = omega arith in
    let three : suc (suc (2 * i)) + 1 ≡ suc (suc (2 * i + 1)) = omega arith in
    rw (two, three) (byte_back bytes (λ k. small (suc k)) i (le_of_suc-le-suc h))

-- a record: bytes, as many as the first asks for
pub record IsRecord (r : List ℕ) : Type 0 where
  pub small : Small r
  pub size : length r ≡ 5 + length_of r

module _ (r : List ℕ) (good : IsRecord r) where
  pub colon_byte : (i : ℕ) → i < length r → byte_at (colon ∷ bytes_text r) (1 + 2 * i) ≡ get_or r i 0
  colon_byte i h =
      let one : 1 + 2 * i ≡ suc (2 * i) = omega arith in
      let two : suc (2 * i) + 1 ≡ suc (2 * i + 1) = omega arith in
      rw (one, two) (byte_back r good.small i h)

  all_belong : (k : ℕ) → k < suc (length (bytes_text r)) → belongs k (get_or (colon ∷ bytes_text r) k 0) ≡ true
  all_belong zero h = first_colon colon refl
  all_belong (suc k) h =
      let one : suc k ≡ 1 + k = omega arith in
      ap (λ n. belongs n (get_or (bytes_text r) k 0)) one ∙ later_digit k (get_or (bytes_text r) k 0) (digits_bytes r good.small k (le_of_suc-le-suc h))

  colon_shaped : is_shaped (colon ∷ bytes_text r) ≡ true
  colon_shaped =
      let asked = colon_byte 0 (omega (arith, good.size)) in
      fits_shaped (colon ∷ bytes_text r) (record { clean = each_belongs (colon ∷ bytes_text r) all_belong; size = omega (arith, asked, good.size, bytes_length r) })

  pub line_spells : record_of (record_text r) ≡ r
  unfolding record_text body_of at_end spelled_by
  line_spells =
      rw (body_bytes r, colon_shaped)
      (sym (is_tabulate 0 (5 + byte_at (colon ∷ bytes_text r) 1) (λ i. byte_at (colon ∷ bytes_text r) (1 + 2 * i)) r
      (omega (arith, colon_byte 0 (omega (arith, good.size)), good.size)) (λ k h. sym (colon_byte k (omega (arith, colon_byte 0 (omega (arith, good.size)), good.size))))))

-- lines one after the other
line_first : (r rest : List ℕ) → lines (record_text r ++ rest) ≡ record_text r ∷ lines rest
unfolding record_text lines
line_first r rest = rw (append_assoc (bytes_text r) (LF ∷ []) rest, lines_bytes r rest)

pub lines_front : (n : ℕ) (f : ℕ → List ℕ) (rest : List ℕ) → lines (flat_map record_text (tabulate n f) ++ rest) ≡ tabulate n (λ k. record_text (f k)) ++ lines rest
unfolding flat_map tabulate
lines_front zero f rest = refl
lines_front (suc n) f rest =
    let later = flat_map record_text (tabulate n (λ k. f (suc k))) in
    ap lines (append_assoc (record_text (f 0)) later rest) ∙ line_first (f 0) (later ++ rest)
    ∙ ap (λ (ls : List (List ℕ)). record_text (f 0) ∷ ls) (lines_front n (λ k. f (suc k)) rest)

pub lines_one : (r : List ℕ) → lines (record_text r) ≡ record_text r ∷ []
unfolding lines
lines_one r = ap lines (sym (append-nil (record_text r))) ∙ line_first r []

-- their records
pub map_front : {A B : Type 0} (g : A → B) (n : ℕ) (f : ℕ → A) (rest : List A) → map g (tabulate n f ++ rest) ≡ tabulate n (λ k. g (f k)) ++ map g rest
unfolding tabulate
map_front g zero f rest = refl
map_front {B = B} g (suc n) f rest = ap (λ (l : List B). g (f 0) ∷ l) (map_front g n (λ k. f (suc k)) rest)
