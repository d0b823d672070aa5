-- Reading a text: document 01, 'The character image', second paragraph, and numbers 6 to 12 of its table, where M-102 has 19 and 20 after 7.
-- A text is accepted where its lines are good records, the last of them its one end record; its image is what the records spell over FF, its
-- count what they give. Which fault is told, and where, is the first line that stops a reader: a faulty record or an end record.
-- Assumes nothing.
use Rattle.std.specs.Prelude.{ℕ, ◌+◌, Bool, true, List, [], ◌++◌, Result, length, take, drop, ◌==◌, nat_lt, slice_index_or}
use Rattle.laws.specs.Pick.{pick}
use Rattle.laws.specs.Said.{Said, accepted, refused}
use Rattle.laws.specs.Lists.{tabulate, first_of}
use Rattle.image.specs.Image.{image_bytes, unused}
use Rattle.ihex.specs.Lines.{lines, body_of, place_of}
use Rattle.ihex.specs.Records.{first_bad, has_bad, records, is_end, byte_in, count_of, fault_of}
use Rattle.answer.specs.Told.{said_of}
use Rattle.ihex.specs.declared.ReadError.{ReadError}
use Rattle.ihex.specs.declared.ReadError.TheVariants.{NoRoom, TooLong, BadCharacter, BadShape, BadSum, BadType, PastEnd, GivenTwice, BadEnd}

abbrev pub most_text : ℕ
most_text = 65535

-- record k, or line k; and a record's fault after the records before it
abbrev pub nth : List (List ℕ) → ℕ → List ℕ
nth rs k = slice_index_or rs k []

abbrev pub fault_at : List (List ℕ) → ℕ → ℕ
fault_at rs k = fault_of (take k rs) (nth rs k)

-- whether a reader goes no further than record k
abbrev pub stops_at : List (List ℕ) → ℕ → Bool
stops_at rs k = pick (nat_lt 0 (fault_at rs k)) true (is_end (nth rs k))

-- the first record at which it stops; their number, where it stops at none
abbrev pub stop_of : List (List ℕ) → ℕ
stop_of rs = first_of (length rs) (stops_at rs)

-- what is said of a faulty line that starts at a place, by its body and the number of its record's fault: 19 at its first bad character, where it
-- has one; else that number, at its start
unfoldable pub fault_said : List ℕ → ℕ → ℕ → Said
fault_said body place number = pick (has_bad body) (refused 19 (place + first_bad body)) (refused number place)

-- what is said of lines and their records by the one at which a reader stops: none (12, past the last line); a faulty one (its number and its
-- place); an end record with a line after it (12, at that line); or an end record that is the last, and the text is accepted
unfoldable pub judged : List (List ℕ) → List (List ℕ) → ℕ → Said
judged ls rs k =
    pick (nat_lt k (length rs))
    (pick (nat_lt 0 (fault_at rs k)) (fault_said (body_of (nth ls k)) (place_of ls k) (fault_at rs k))
    (pick (nat_lt (k + 1) (length rs)) (refused 12 (place_of ls (k + 1))) (accepted (count_of rs))))
    (refused 12 (place_of ls k))

abbrev pub verdict : List ℕ → Said
verdict text = judged (lines text) (records text) (stop_of (records text))

-- what reading a text answers, given room for so many bytes
unfoldable pub answer_of : List ℕ → ℕ → Said
answer_of text room = pick (nat_lt room image_bytes) (refused 6 0) (pick (nat_lt most_text (length text)) (refused 7 0) (verdict text))

-- the image that a text spells: FF where no record gives a byte
abbrev pub image_in : List ℕ → List ℕ
image_in text = tabulate image_bytes (byte_in unused (records text))

-- what reading leaves in the room: the image and the bytes after it; a refusal leaves what was there
unfoldable pub left_of : List ℕ → List ℕ → List ℕ
left_of text room = pick ((answer_of text (length room)).number == 0) (image_in text ++ drop image_bytes room) room

-- the documents' number for each case of refusal, and its place
abbrev pub table_number : ReadError → ℕ
table_number NoRoom = 6
table_number TooLong = 7
table_number (BadCharacter place) = 19
table_number (BadShape place) = 20
table_number (BadSum place) = 8
table_number (BadType place) = 9
table_number (PastEnd place) = 10
table_number (GivenTwice place) = 11
table_number (BadEnd place) = 12

abbrev pub table_place : ReadError → ℕ
table_place NoRoom = 0
table_place TooLong = 0
table_place (BadCharacter place) = place
table_place (BadShape place) = place
table_place (BadSum place) = place
table_place (BadType place) = place
table_place (PastEnd place) = place
table_place (GivenTwice place) = place
table_place (BadEnd place) = place

-- the documents' number, place and value of an answer
abbrev pub said : Result ℕ ReadError → Said
said = said_of (λ count. count) table_number table_place
