-- Painted lines worked through. Document 01's: words 14 and 1009, cell 0 row 0 = 2049, starting colour 1, h = v = 0. And two with a shadow (M-101) of the same settings: at
-- size 2 the character, a space, the character, an end; and at size 1 a character that blinks, between two that do not.
-- Assumes nothing.
use Rattle.std.specs.Prelude.{◌≡◌, true, List, [], ◌∷◌, ◌++◌, ℕ, replicate}
use Rattle.judging.specs.declared.Settings.{Settings}
use Rattle.display.specs.Painting.{left_by}

abbrev pub settings : ℕ → Settings
settings mode = record { on = true; mode = mode; colour = 1; h = 0; v = 0; ratio = 0; frequency = 0 }

abbrev pub words : List ℕ
words = 14 ∷ 1009 ∷ replicate 62 0

abbrev pub shadowed : List ℕ
shadowed = 996 ∷ 14 ∷ 1016 ∷ 14 ∷ 1009 ∷ replicate 59 0

abbrev pub font : List ℕ
font = 2049 ∷ replicate 1115 0

-- what a call leaves, of all bytes 7, two of which lie past the width
abbrev pub bytes_in : List ℕ → List ℕ → ℕ → ℕ → ℕ → ℕ → List ℕ
bytes_in rows screen frame width mode line = left_by screen rows (settings mode) frame (record { 0 = line }) (record { 0 = width }) (replicate width 7 ++ 7 ∷ 7 ∷ [])

abbrev pub bytes : List ℕ → ℕ → ℕ → ℕ → List ℕ
bytes screen = bytes_in font screen 0

abbrev pub Example : Type 0
Example =
    (bytes words 14 2 0 ≡ 15 ∷ 9 ∷ 9 ∷ 9 ∷ 9 ∷ 9 ∷ 9 ∷ 9 ∷ 9 ∷ 9 ∷ 9 ∷ 15 ∷ 0 ∷ 0 ∷ 7 ∷ 7 ∷ [])
    × ((bytes words 14 2 18 ≡ 0 ∷ 0 ∷ 0 ∷ 0 ∷ 0 ∷ 0 ∷ 0 ∷ 0 ∷ 0 ∷ 0 ∷ 0 ∷ 0 ∷ 0 ∷ 0 ∷ 7 ∷ 7 ∷ [])
    × ((bytes words 14 3 0 ≡ 15 ∷ 9 ∷ 9 ∷ 9 ∷ 9 ∷ 9 ∷ 9 ∷ 9 ∷ 9 ∷ 9 ∷ 9 ∷ 15 ∷ 9 ∷ 9 ∷ 7 ∷ 7 ∷ [])
    × (bytes words 14 3 18 ≡ 9 ∷ 9 ∷ 9 ∷ 9 ∷ 9 ∷ 9 ∷ 9 ∷ 9 ∷ 9 ∷ 9 ∷ 9 ∷ 9 ∷ 9 ∷ 9 ∷ 7 ∷ 7 ∷ [])))

-- so many dots of a byte, and others after them
abbrev pub run : ℕ → ℕ → List ℕ → List ℕ
run n byte rest = replicate n byte ++ rest

-- In mode 1 line 19 has the lit dots, as line 18 has, and lines 20 and 21 their shadow, two dots further right: within the first character's cell, on the space after it, within
-- the second character's cell, and after that, where the row is over. Line 22 has neither. In mode 0 there is no shadow.
abbrev pub ShadowExample : Type 0
ShadowExample =
    (bytes shadowed 76 1 19 ≡ run 2 15 (run 20 0 (run 2 15 (run 24 0 (run 2 15 (run 20 0 (run 2 15 (run 4 0 (7 ∷ 7 ∷ [])))))))))
    × ((bytes shadowed 76 1 20 ≡ run 2 0 (run 2 8 (run 20 0 (run 2 8 (run 24 0 (run 2 8 (run 20 0 (run 2 8 (run 2 0 (7 ∷ 7 ∷ []))))))))))
    × ((bytes shadowed 76 1 21 ≡ bytes shadowed 76 1 20)
    × ((bytes shadowed 76 1 22 ≡ run 76 0 (7 ∷ 7 ∷ []))
    × (bytes shadowed 76 0 20 ≡ run 76 0 (7 ∷ 7 ∷ [])))))

-- a font whose character 0 has the dots at both ends of rows 16 and 17, and three of it in a row, the middle one blinking
abbrev pub low : List ℕ
low = replicate 16 0 ++ 2049 ∷ 2049 ∷ replicate 1098 0

abbrev pub blinking : List ℕ
blinking = 14 ∷ 15 ∷ 14 ∷ 1009 ∷ replicate 60 0

-- Line 17, the last of the cells, in mode 1. In frame 0 all three are lit, and row 16 throws their shadows: the first column of the second and third character and what comes after
-- the row have one, but the lit dots there are not covered. In frame 12 the one in the middle is out: it has no dot and throws no shadow, on itself or on the third character;
-- that of the first falls on it. Line 18, below the cells, has nothing, though row 17 is lit.
abbrev pub BlinkExample : Type 0
BlinkExample =
    (bytes_in low blinking 0 38 1 17
    ≡ run 1 15 (run 1 8 (run 9 0 (run 2 15 (run 1 8 (run 9 0 (run 2 15 (run 1 8 (run 9 0 (run 1 15 (run 1 8 (run 1 0 (7 ∷ 7 ∷ [])))))))))))))
    × ((bytes_in low blinking 12 38 1 17 ≡ run 1 15 (run 1 8 (run 9 0 (run 1 15 (run 1 8 (run 11 0 (run 1 15 (run 1 8 (run 9 0 (run 1 15 (run 1 8 (run 1 0 (7 ∷ 7 ∷ [])))))))))))))
    × (bytes_in low blinking 0 38 1 18 ≡ run 38 0 (7 ∷ 7 ∷ [])))
