-- What an accepted text's count and image depend on: document 01, 'The character image', second paragraph. Its records alone, so neither the
-- case of a digit nor the end of a line, and not the order of the data records either. Each statement is a type here, about the definitions
-- that the promise of `read` cites; proofs/ proves it under the same name in small letters.
-- Assumes nothing.
use Rattle.std.specs.Prelude.{ℕ, ◌+◌, ◌<◌, ◌≡◌, true, List, ◌++◌, length, get_or}
use Rattle.laws.specs.Said.{accepted}
use Rattle.ihex.specs.Digits.{digit}
use Rattle.ihex.specs.Lines.{Plain, at_end, body_of}
use Rattle.ihex.specs.Records.{records, spelled_by}
use Rattle.ihex.specs.Reading.{nth, verdict, image_in}
use Rattle.textlaws.specs.Alike.{AlikeBodies, AlikeTexts, Line, written, no_line, Ended}

-- Of two texts with the same records, where one is accepted so is the other, unless it is too long, with the same count.
abbrev pub SameVerdict : Type 0
SameVerdict = (text text' : List ℕ) (n : ℕ) → records text ≡ records text' → verdict text ≡ accepted n → verdict text' ≡ accepted n

-- They have one image.
abbrev pub SameImage : Type 0
SameImage = (text text' : List ℕ) → records text ≡ records text' → image_in text ≡ image_in text'

-- Upper and lower case are one digit.
abbrev pub CasesAlike : Type 0
CasesAlike = (c : ℕ) → c < 6 → digit (65 + c) ≡ digit (97 + c)

-- Alike lines are the same record.
abbrev pub AlikeSpells : Type 0
AlikeSpells = (body body' : List ℕ) → AlikeBodies body body' → spelled_by body ≡ spelled_by body'

-- Alike texts have the same records.
abbrev pub AlikeRecords : Type 0
AlikeRecords = (text text' : List ℕ) → AlikeTexts text text' → records text ≡ records text'

-- So the one is accepted where the other is, with the same count, and they have one image.
abbrev pub AlikeSame : Type 0
AlikeSame =
    (text text' : List ℕ) → AlikeTexts text text'
    → ((n : ℕ) → verdict text ≡ accepted n → verdict text' ≡ accepted n) × (image_in text ≡ image_in text')

-- A line's end is not part of its body: LF, CR LF or none.
abbrev pub EndedBody : Type 0
EndedBody = (body end : List ℕ) → ((k : ℕ) → k < length body → Plain (get_or body k 0)) → at_end end ≡ true → body_of (body ++ end) ≡ body

-- Texts put together from alike bodies are alike, whatever ends their lines have.
abbrev pub WrittenAlike : Type 0
WrittenAlike =
    (ls ls' : List Line) → Ended ls → Ended ls' → length ls ≡ length ls'
    → ((k : ℕ) → k < length ls → AlikeBodies (get_or ls k no_line).body (get_or ls' k no_line).body) → AlikeTexts (written ls) (written ls')

-- the same records, those before the last in another order
pub record Reordered (rs rs' : List (List ℕ)) : Type 0 where
  pub size : length rs ≡ length rs'
  pub to : ℕ → ℕ
  pub from : ℕ → ℕ
  pub from_to : (j : ℕ) → from (to j) ≡ j
  pub to_from : (j : ℕ) → to (from j) ≡ j
  pub within : (j : ℕ) → j + 1 < length rs → to j + 1 < length rs
  pub back : (j : ℕ) → j + 1 < length rs → from j + 1 < length rs
  pub last : (j : ℕ) → j + 1 ≡ length rs → to j ≡ j
  pub same : (j : ℕ) → j < length rs → nth rs' j ≡ nth rs (to j)

-- Where a text is accepted, one with its records in another order, the last one last, is accepted with the same count and the same image.
abbrev pub OrderSame : Type 0
OrderSame =
    (text text' : List ℕ) (n : ℕ) → Reordered (records text) (records text') → verdict text ≡ accepted n
    → (verdict text' ≡ accepted n) × (image_in text ≡ image_in text')
