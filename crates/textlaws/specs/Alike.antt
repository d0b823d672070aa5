-- Texts that say the same with digits of another case or with other line ends: document 01, 'The character image', second paragraph.
-- Laws.antt says that such texts have the same records, line by line, so that they are accepted alike and have one image.
-- Assumes nothing.
use Rattle.std.specs.Prelude.{ℕ, ◌+◌, ◌<◌, ◌≡◌, ◌⊎◌, length, get_or}
use mathlib.Core.List.{List, [], ◌∷◌, ◌++◌, flat_map}
use Rattle.ihex.specs.Digits.{digit}
use Rattle.ihex.specs.Lines.{LF, CR, Plain, lines, body_of}

-- lines without their ends that are the same but for the case of digits: after the first byte, each two are one digit, or both are none
pub record AlikeBodies (body body' : List ℕ) : Type 0 where
  pub size : length body ≡ length body'
  pub first : get_or body 0 0 ≡ get_or body' 0 0
  pub digits : (k : ℕ) → digit (get_or body (1 + k) 0) ≡ digit (get_or body' (1 + k) 0)

-- texts whose lines are so, one by one, whatever ends they have
pub record AlikeTexts (text text' : List ℕ) : Type 0 where
  pub size : length (lines text) ≡ length (lines text')
  pub each : (k : ℕ) → k < length (lines text) → AlikeBodies (body_of (get_or (lines text) k [])) (body_of (get_or (lines text') k []))

-- a line's end: LF or CR LF
abbrev pub IsLineEnd : List ℕ → Type 0
IsLineEnd end = (end ≡ LF ∷ []) ⊎ (end ≡ CR ∷ LF ∷ [])

-- a text put together from bodies and ends
pub record Line : Type 0 where
  pub body : List ℕ
  pub end : List ℕ

abbrev pub whole : Line → List ℕ
whole l = l.body ++ l.end

abbrev pub written : List Line → List ℕ
written = flat_map whole

abbrev pub no_line : Line
no_line = record { body = []; end = [] }

-- in which no body has an LF or a CR, and each line has an end; the last may lack it, if it is not empty
pub record Ended (ls : List Line) : Type 0 where
  pub plain : (k : ℕ) → k < length ls → (j : ℕ) → j < length (get_or ls k no_line).body → Plain (get_or (get_or ls k no_line).body j 0)
  pub ends : (k : ℕ) → k + 1 < length ls → IsLineEnd (get_or ls k no_line).end
  pub last : (k : ℕ) → k + 1 ≡ length ls → IsLineEnd (get_or ls k no_line).end ⊎ (((get_or ls k no_line).end ≡ []) × (0 < length (get_or ls k no_line).body))
