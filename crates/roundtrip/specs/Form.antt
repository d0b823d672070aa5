-- The writer's form, said of a text's lines: document 01, 'The character image', third paragraph. 512 lines of one data record each, 16 bytes
-- at the addresses 0, 16, 32 and so on, then the end record's line; digits in upper case, and LF at the end of each line. Nothing here is
-- said by the text of an image: `FormIsTheTexts` of RoundTrip.antt says that the texts of this form are the texts of images.
-- Assumes nothing.
use Rattle.std.specs.Prelude.{ℕ, ◌+◌, ◌*◌, ◌<◌, ◌≡◌, Bool, true, List, [], ◌∷◌, length, get_or}
use Rattle.laws.specs.Pick.{pick}
use Rattle.ihex.specs.Digits.{among, bytes_from}
use Rattle.ihex.specs.Lines.{lines, LF}
use Rattle.ihex.specs.Records.{colon, frame, length_of, address_of, type_of, data_type, sum_of}
use Rattle.ihex.specs.Reading.{nth}

-- 0 to 9, or A to F
abbrev pub is_upper : ℕ → Bool
is_upper c = pick (among 48 57 c) true (among 65 70 c)

-- the data bytes of a line's record, and all its bytes
abbrev pub line_data : ℕ
line_data = 16

abbrev pub record_size : ℕ
record_size = frame + line_data

-- the bytes that its digits spell
abbrev pub spelled : List ℕ → List ℕ
spelled line = bytes_from line 1 record_size

-- the line of data record n: a colon, digits, LF; and what the digits spell has 16 for its length, 16 n for its address, type 00 and an
-- eight-bit sum of 0
pub record IsDataLine (n : ℕ) (line : List ℕ) : Type 0 where
  pub size : length line ≡ 1 + 2 * record_size + 1
  pub begins : get_or line 0 0 ≡ colon
  pub digits : (k : ℕ) → k < 2 * record_size → is_upper (get_or line (1 + k) 0) ≡ true
  pub ends : get_or line (1 + 2 * record_size) 0 ≡ LF
  pub counted : length_of (spelled line) ≡ line_data
  pub placed : address_of (spelled line) ≡ line_data * n
  pub typed : type_of (spelled line) ≡ data_type
  pub summed : sum_of (spelled line) ≡ 0

-- how many such lines there are
abbrev pub data_lines : ℕ
data_lines = 512

-- :00000001FF and LF
abbrev pub line_of_end : List ℕ
line_of_end = 58 ∷ 48 ∷ 48 ∷ 48 ∷ 48 ∷ 48 ∷ 48 ∷ 48 ∷ 49 ∷ 70 ∷ 70 ∷ 10 ∷ []

-- these lines, counted from 0, and then that one
pub record HasWritersForm (text : List ℕ) : Type 0 where
  pub size : length (lines text) ≡ data_lines + 1
  pub each : (n : ℕ) → n < data_lines → IsDataLine n (nth (lines text) n)
  pub last : nth (lines text) data_lines ≡ line_of_end
