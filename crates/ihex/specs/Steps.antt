-- What the reader's own steps ask and give, in the words of the account: the line that starts at a place of a text, and the scratch in
-- which the records are collected. Only contracts of private functions cite these.
-- Assumes nothing.
use Rattle.std.specs.Prelude.{◌≡◌, ℕ, ◌+◌, ◌*◌, ◌%◌, Bool, true, Option, Some, None, Result, List, [], ◌∷◌, length, take, drop, replicate, ◌==◌, nat_lt, slice_index, slice_index_or}
use Rattle.laws.specs.Pick.{pick, both}
use Rattle.laws.specs.Lists.{tabulate, first_of}
use Rattle.laws.specs.Sums.{sum_all}
use Rattle.image.specs.Image.{image_bytes, unused}
use Rattle.ihex.specs.Digits.{digit, is_digit, byte_at, bytes_from}
use Rattle.ihex.specs.Lines.{lines, body_of, at_end, LF}
use Rattle.ihex.specs.Records.{is_shaped, record_of, records, byte_in, sum_of}
use Rattle.ihex.specs.Reading.{said, verdict}
use Rattle.ihex.specs.declared.Line.{Line}
use Rattle.ihex.specs.declared.ReadError.{ReadError}

-- the value of each byte as a digit
abbrev pub digit_table : List ℕ
digit_table = tabulate 256 digit

-- the byte that the two digits at a place spell, where they are digits
unfoldable pub spelled_at : List ℕ → ℕ → Option ℕ
spelled_at text place = pick (both (is_digit (slice_index text place)) (is_digit (slice_index text (place + 1)))) (Some (byte_at text place)) None

unfoldable pub all_digits : List ℕ → Bool
all_digits [] = true
all_digits (c ∷ rest) = both (is_digit c) (all_digits rest)

-- the eight-bit sum of n bytes from a place on, two digits each, where they are all digits
unfoldable pub sum_from : List ℕ → ℕ → ℕ → Option ℕ
sum_from text place n = pick (all_digits (take (2 * n) (drop place text))) (Some (sum_all (bytes_from text place n) % 256)) None

-- how long the line's end at the front is
abbrev pub end_length : List ℕ → ℕ
end_length [] = 0
end_length (c ∷ rest) = pick (c == LF) 1 2

-- where the next line starts if a line's end stands at a place
unfoldable pub passes_end : List ℕ → ℕ → Option ℕ
passes_end text place = pick (at_end (drop place text)) (Some (place + end_length (drop place text))) None

-- the record of the line that starts at a place
unfoldable pub record_at : List ℕ → ℕ → List ℕ
record_at text place = record_of (drop place text)

-- where the line after it starts
unfoldable pub next_at : List ℕ → ℕ → ℕ
next_at text place = place + length (slice_index_or (lines (drop place text)) 0 [])

-- the line's sum and the next line's place, where the line has the record's shape
unfoldable pub line_at : List ℕ → ℕ → Option Line
line_at text place = pick (is_shaped (body_of (drop place text))) (Some (record { sum = sum_of (record_at text place); next = next_at text place })) None

-- what stands in the scratch for a byte that no record gave: no byte
abbrev pub not_given : ℕ
not_given = 256

-- the scratch before any record
unfoldable pub unfilled : List ℕ
unfilled = replicate image_bytes not_given

-- the byte of the image for what the scratch holds
abbrev pub byte_for : ℕ → ℕ
byte_for x = pick (nat_lt x not_given) x unused

-- what each step gives
pub record Collected (text scratch : List ℕ) (r : Result ℕ ReadError) : Type 0 where
  pub says : said r ≡ verdict text
  pub held : (said r).number ≡ 0 → scratch ≡ tabulate image_bytes (byte_in not_given (records text))

pub record Parsed (text : List ℕ) (at : ℕ) (bytes : List ℕ) (r : Option Line) : Type 0 where
  pub line : r ≡ line_at text at
  pub front : take (length (record_at text at)) bytes ≡ record_at text at

pub record Decoded (text : List ℕ) (from n : ℕ) (bytes : List ℕ) (sum : Option ℕ) : Type 0 where
  pub summed : sum ≡ sum_from text from n
  pub spelled : (s : ℕ) → sum ≡ Some s → bytes ≡ bytes_from text from n

-- whether none of a part of the scratch is given
abbrev pub none_given : List ℕ → Bool
none_given part = first_of (length part) (λ i. nat_lt (slice_index part i) not_given) == length part

pub record Stored (bytes before after : List ℕ) (fresh : Bool) : Type 0 where
  pub tells : fresh ≡ none_given before
  pub holds : after ≡ bytes
