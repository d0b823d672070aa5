-- The lines of a text: document 01, 'The character image', second paragraph. A line ends with LF or CR LF, and the last may lack its end.
-- No byte is lost: the lines, each with its end, joined again are the text.
-- Assumes nothing.
use Rattle.std.specs.Prelude.{ℕ, Bool, true, List, [], ◌∷◌, map, length, take, ◌==◌, ◌≢◌, slice_index}
use Rattle.laws.specs.Pick.{pick, both}
use Rattle.laws.specs.Sums.{sum_all}

abbrev pub LF : ℕ
LF = 10

abbrev pub CR : ℕ
CR = 13

-- neither
abbrev pub Plain : ℕ → Type 0
Plain c = (c ≢ LF) × (c ≢ CR)

-- one byte more at the front of the first line
abbrev pub onto : ℕ → List (List ℕ) → List (List ℕ)
onto c [] = (c ∷ []) ∷ []
onto c (line ∷ later) = (c ∷ line) ∷ later

-- the lines, each with its end
unfoldable pub lines : List ℕ → List (List ℕ)
lines [] = []
lines (c ∷ rest) = pick (c == LF) ((c ∷ []) ∷ lines rest) (onto c (lines rest))

-- whether a line's end stands at the front: LF, CR LF or nothing more
unfoldable pub at_end : List ℕ → Bool
at_end [] = true
at_end (c ∷ rest) = pick (c == LF) true (both (c == CR) (slice_index rest 0 == LF))

-- a line without its end
unfoldable pub body_of : List ℕ → List ℕ
body_of [] = []
body_of (c ∷ rest) = pick (at_end (c ∷ rest)) [] (c ∷ body_of rest)

-- where line k starts in the text
abbrev pub place_of : List (List ℕ) → ℕ → ℕ
place_of ls k = sum_all (map length (take k ls))
