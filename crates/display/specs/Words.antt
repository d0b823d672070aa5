-- The display words: document 01, 'The display words'.
-- A word has 10 bits: its code in bits 9 to 4, and T3 to T0 in bits 3 to 0; the code says what the T bits mean.
-- Assumes nothing.
use Rattle.std.specs.Prelude.{ℕ, ◌+◌, ◌*◌, ◌/◌, ◌%◌, List, map, Bool, eqb}
use Rattle.laws.specs.Pick.{pick}
use Rattle.display.specs.declared.Kind.{Kind}
use Rattle.display.specs.declared.Kind.TheVariants.{Character, Space, Return, End}

abbrev pub code_of : ℕ → ℕ
code_of w = w / 16 % 64

-- the codes that are no characters
abbrev pub return_code : ℕ
return_code = 62

abbrev pub space_code : ℕ
space_code = 63

-- T3 to T1 as a colour: 4 for red, 2 for green, 1 for blue
abbrev pub colour_of : ℕ → ℕ
colour_of w = w / 2 % 8

-- T0: blink of a character, end of a space
abbrev pub mark_of : ℕ → Bool
mark_of w = eqb (w % 2) 1

-- T3 T2 of a return, and its T1 T0 as scan lines
abbrev pub size_of : ℕ → ℕ
size_of w = w / 4 % 4 + 1

abbrev pub spacing_of : ℕ → ℕ
spacing_of w = w % 4 * 4

-- what a word is
unfoldable pub kind_of : ℕ → Kind
kind_of w =
    pick (eqb (code_of w) space_code)
    (pick (mark_of w) End (Space (colour_of w)))
    (pick (eqb (code_of w) return_code) (Return (size_of w) (record { 0 = spacing_of w })) (Character (colour_of w) (code_of w) (mark_of w)))

-- what the words of a screen are, one by one
unfoldable pub kinds_of : List ℕ → List Kind
kinds_of words = map kind_of words
