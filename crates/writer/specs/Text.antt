-- The text of an image: document 01, 'The character image', second and third paragraphs. A byte is two hexadecimal digits in upper case;
-- a record is a colon, its bytes and LF; an image is 512 records of 16 bytes each by rising address, and then the end record.
-- Assumes nothing.
use Rattle.std.specs.Prelude.{ℕ, ◌+◌, ◌-◌, ◌*◌, ◌/◌, ◌%◌, List, [], ◌∷◌, ◌++◌, length, nat_lt, slice_index}
use mathlib.Core.List.{flat_map}
use Rattle.laws.specs.Pick.{pick}
use Rattle.laws.specs.Lists.{tabulate}
use Rattle.ihex.specs.Lines.{LF}
use Rattle.ihex.specs.Records.{colon, data_type, end_type, sum_of}

-- the character of a digit: 0 to 9, then A to F
abbrev pub digit_text : ℕ → ℕ
digit_text value = pick (nat_lt value 10) (48 + value) (55 + value)

-- a byte: the digit of its upper half, then that of its lower
abbrev pub byte_text : ℕ → List ℕ
byte_text byte = digit_text (byte / 16) ∷ digit_text (byte % 16) ∷ []

abbrev pub bytes_text : List ℕ → List ℕ
bytes_text = flat_map byte_text

-- the byte that takes an eight-bit sum, carries dropped, to 0
abbrev pub checksum : ℕ → ℕ
checksum sum = (256 - sum) % 256

-- bytes with their checksum
abbrev pub summed : List ℕ → List ℕ
summed bytes = bytes ++ (checksum (sum_of bytes) ∷ [])

-- the bytes of a record: how many data bytes, the address (high byte first), the type, the data, the checksum
unfoldable pub record_bytes : ℕ → ℕ → List ℕ → List ℕ
record_bytes kind address bytes = summed (length bytes ∷ address / 256 ∷ address % 256 ∷ kind ∷ bytes)

-- a record's line
unfoldable pub record_text : List ℕ → List ℕ
record_text bytes = colon ∷ bytes_text bytes ++ (LF ∷ [])

-- the data bytes of a record, and how many records hold an image
abbrev pub record_data : ℕ
record_data = 16

abbrev pub data_records : ℕ
data_records = 512

-- the data of record n of an image, and that record
abbrev pub bytes_in : List ℕ → ℕ → List ℕ
bytes_in image n = tabulate record_data (λ i. slice_index image (record_data * n + i))

unfoldable pub record_in : List ℕ → ℕ → List ℕ
record_in image n = record_bytes data_type (record_data * n) (bytes_in image n)

unfoldable pub end_record : List ℕ
end_record = record_bytes end_type 0 []

-- the records of an image
abbrev pub records_of : List ℕ → List (List ℕ)
records_of image = tabulate data_records (record_in image) ++ (end_record ∷ [])

-- the text of an image: 44 bytes for each data record, and 12 for the end record
unfoldable pub text_of : List ℕ → List ℕ
text_of image = flat_map record_text (records_of image)

abbrev pub text_bytes : ℕ
text_bytes = 22540
