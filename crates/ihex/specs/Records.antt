-- Records: document 01, 'The character image', second paragraph, and numbers 8 to 11 of its table; bad characters, and number 20, by M-102.
-- A record is the list of its bytes: length, address (high byte first), type, data, checksum. A line that has not the record's shape
-- gives the empty list.
-- Assumes nothing.
use Rattle.std.specs.Prelude.{ℕ, ◌+◌, ◌-◌, ◌*◌, ◌%◌, Bool, true, false, not, List, [], ◌∷◌, map, length, ◌==◌, nat_lt, slice_index}
use Rattle.laws.specs.Pick.{pick, both}
use Rattle.laws.specs.Lists.{first_of}
use Rattle.laws.specs.Placing.{span_has}
use Rattle.laws.specs.Sums.{sum_all}
use Rattle.image.specs.Image.{image_bytes}
use Rattle.ihex.specs.Digits.{is_digit, byte_at, bytes_from}
use Rattle.ihex.specs.Lines.{lines, body_of}

abbrev pub colon : ℕ
colon = 58

-- the bytes of a record beside its data: length, address, type, checksum
abbrev pub frame : ℕ
frame = 5

-- the types of a data record and of the end record
abbrev pub data_type : ℕ
data_type = 0

abbrev pub end_type : ℕ
end_type = 1

-- whether a character belongs in a place of a line, counted from 0: a colon in the first, a digit in every later one
unfoldable pub belongs : ℕ → ℕ → Bool
belongs place c = pick (place == 0) (c == colon) (is_digit c)

-- where the first bad character of a line without its end stands, one that does not belong in its place; the line's length, where it has none
abbrev pub first_bad : List ℕ → ℕ
first_bad body = first_of (length body) (λ k. not (belongs k (slice_index body k)))

abbrev pub has_bad : List ℕ → Bool
has_bad body = nat_lt (first_bad body) (length body)

-- the record's shape, of a line without its end: no bad character, and two digits for each byte, as many bytes as the first of them asks for
unfoldable pub is_shaped : List ℕ → Bool
is_shaped body = both (not (has_bad body)) (length body == 1 + 2 * (frame + byte_at body 1))

-- the record of a line without its end
unfoldable pub spelled_by : List ℕ → List ℕ
spelled_by body = pick (is_shaped body) (bytes_from body 1 (frame + byte_at body 1)) []

abbrev pub record_of : List ℕ → List ℕ
record_of line = spelled_by (body_of line)

-- the records of a text, one for each line
abbrev pub records : List ℕ → List (List ℕ)
records text = map record_of (lines text)

-- the parts of a record
abbrev pub length_of : List ℕ → ℕ
length_of r = slice_index r 0

abbrev pub address_of : List ℕ → ℕ
address_of r = 256 * slice_index r 1 + slice_index r 2

abbrev pub type_of : List ℕ → ℕ
type_of r = slice_index r 3

-- the eight-bit sum of all its bytes, carries dropped
abbrev pub sum_of : List ℕ → ℕ
sum_of r = sum_all r % 256

-- the end record: type 01, no data, address 0
unfoldable pub is_end : List ℕ → Bool
is_end r = both (type_of r == end_type) (both (length_of r == 0) (address_of r == 0))

-- whether a record gives the byte at an address, and that byte
unfoldable pub gives : List ℕ → ℕ → Bool
gives r address = span_has (address_of r) (length_of r) address

abbrev pub data_at : List ℕ → ℕ → ℕ
data_at r address = slice_index r (4 + (address - address_of r))

-- the byte that records give at an address, or `none` where no record gives one
unfoldable pub byte_in : ℕ → List (List ℕ) → ℕ → ℕ
byte_in none [] address = none
byte_in none (r ∷ rest) address = pick (gives r address) (data_at r address) (byte_in none rest address)

-- whether one of them gives it
unfoldable pub is_given : List (List ℕ) → ℕ → Bool
is_given [] address = false
is_given (r ∷ rest) address = pick (gives r address) true (is_given rest address)

-- how many of its bytes stand before the first that an earlier record gives already
abbrev pub fresh_in : List (List ℕ) → List ℕ → ℕ
fresh_in earlier r = first_of (length_of r) (λ i. is_given earlier (address_of r + i))

-- how many bytes records give
abbrev pub count_of : List (List ℕ) → ℕ
count_of rs = sum_all (map length_of rs)

-- the number of a record's fault after earlier records, by the order of the table, and 0 where it has none; 20 is for a
-- line that gives no record, of which Reading tells 19 where it has a bad character
unfoldable pub fault_of : List (List ℕ) → List ℕ → ℕ
fault_of earlier r =
    pick (length r == 0) 20
    (pick (not (sum_of r == 0)) 8
    (pick (not (pick (is_end r) true (type_of r == data_type))) 9
    (pick (nat_lt image_bytes (address_of r + length_of r)) 10
    (pick (nat_lt (fresh_in earlier r) (length_of r)) 11 0))))
