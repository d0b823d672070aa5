-- Texts worked through for M-102, each with the number and the place that reading it says, as one table under one statement. A text is the list of its
-- characters, the ends of its lines among them.
-- Assumes nothing.
use Rattle.std.specs.Prelude.{ℕ, ◌≡◌, List, [], ◌∷◌, ◌++◌, map}
use Rattle.laws.specs.Said.{Said, refused}
use Rattle.image.specs.Image.{image_bytes}
use Rattle.ihex.specs.Lines.{LF, CR}
use Rattle.ihex.specs.Records.{colon}
use Rattle.ihex.specs.Reading.{answer_of}

-- the digits 0 and 1, and the letters A, F and G
abbrev pub digit0 : ℕ
digit0 = 48

abbrev pub digit1 : ℕ
digit1 = 49

abbrev pub A : ℕ
A = 65

abbrev pub F : ℕ
F = 70

abbrev pub G : ℕ
G = 71

-- :00000001FF and LF, and a good line before it: :0000000000 and LF
abbrev pub ending : List ℕ
ending = colon ∷ digit0 ∷ digit0 ∷ digit0 ∷ digit0 ∷ digit0 ∷ digit0 ∷ digit0 ∷ digit1 ∷ F ∷ F ∷ LF ∷ []

abbrev pub good : List ℕ
good = colon ∷ digit0 ∷ digit0 ∷ digit0 ∷ digit0 ∷ digit0 ∷ digit0 ∷ digit0 ∷ digit0 ∷ digit0 ∷ digit0 ∷ LF ∷ []

pub record Example : Type 0 where
  pub text : List ℕ
  pub says : Said

abbrev pub example : List ℕ → ℕ → ℕ → Example
example text number place = record { text = text; says = refused number place }

abbrev pub table : List Example
table =
    -- no colon: the line's first character; in the second line its own offset in the text
    example (A ∷ LF ∷ ending) 19 0
    ∷ example (good ++ (A ∷ LF ∷ ending)) 19 12
    -- no digit: that character; of two the first; a second colon is none, nor is a byte above 127
    ∷ example (colon ∷ digit0 ∷ G ∷ LF ∷ ending) 19 2
    ∷ example (good ++ (colon ∷ digit0 ∷ G ∷ G ∷ LF ∷ ending)) 19 14
    ∷ example (colon ∷ colon ∷ LF ∷ ending) 19 1
    ∷ example (colon ∷ digit0 ∷ digit0 ∷ 255 ∷ ending) 19 3
    -- a CR without an LF after it, in a line, before a CR LF and at the end of the text; one before an LF is the line's end
    ∷ example (colon ∷ digit0 ∷ CR ∷ digit0 ∷ LF ∷ ending) 19 2
    ∷ example (colon ∷ digit0 ∷ CR ∷ CR ∷ LF ∷ ending) 19 2
    ∷ example (colon ∷ digit0 ∷ CR ∷ []) 19 2
    ∷ example (CR ∷ []) 19 0
    ∷ example (colon ∷ digit0 ∷ CR ∷ LF ∷ ending) 20 0
    -- an empty line, by LF and by CR LF, in the first place and in the second
    ∷ example (LF ∷ ending) 20 0
    ∷ example (CR ∷ LF ∷ ending) 20 0
    ∷ example (good ++ (LF ∷ ending)) 20 12
    -- a colon alone, an odd number of digits, fewer bytes than a record has, fewer and more than the length given
    ∷ example (colon ∷ LF ∷ ending) 20 0
    ∷ example (colon ∷ digit0 ∷ digit0 ∷ digit0 ∷ []) 20 0
    ∷ example (good ++ (colon ∷ digit0 ∷ digit0 ∷ LF ∷ [])) 20 12
    ∷ example (colon ∷ digit0 ∷ digit1 ∷ digit0 ∷ digit0 ∷ digit0 ∷ digit0 ∷ digit0 ∷ digit0 ∷ F ∷ F ∷ []) 20 0
    ∷ example (colon ∷ digit0 ∷ digit0 ∷ digit0 ∷ digit0 ∷ digit0 ∷ digit0 ∷ digit0 ∷ digit0 ∷ digit0 ∷ digit0 ∷ digit0 ∷ digit0 ∷ LF ∷ ending) 20 0
    -- a bad character in a line with too few digits; an earlier line's fault goes before it, be it of shape or of the sum
    ∷ example (colon ∷ digit0 ∷ digit0 ∷ digit0 ∷ G ∷ []) 19 4
    ∷ example (colon ∷ LF ∷ G ∷ []) 20 0
    ∷ example (colon ∷ digit0 ∷ digit0 ∷ digit0 ∷ digit0 ∷ digit0 ∷ digit0 ∷ digit0 ∷ digit0 ∷ digit0 ∷ digit1 ∷ LF ∷ G ∷ []) 8 0
    -- what comes after the end record's line has no character that is bad: it is 12 as a whole
    ∷ example (ending ++ (G ∷ [])) 12 12
    ∷ []

-- every text of the table is answered as stands beside it
abbrev pub Examples : Type 0
Examples = map (λ (e : Example). answer_of e.text image_bytes) table ≡ map (λ (e : Example). e.says) table
