-- The table of modes, and blinking: document 01, 'From words to dots', the line of mode 1 by M-101.
-- Each dot is painted as a byte: video is 0, a colour is 8 and its number.
-- Assumes nothing.
use Rattle.std.specs.Prelude.{ℕ, ◌+◌, ◌-◌, ◌*◌, ◌/◌, ◌%◌, ◌^◌, Bool, eqb, ltb}
use Rattle.laws.specs.Pick.{pick}

abbrev pub video : ℕ
video = 0

abbrev pub in_colour : ℕ → ℕ
in_colour colour = 8 + colour

-- the colour black
abbrev pub black : ℕ
black = 0

-- The table: what a dot shows that no character lights, a line for each mode, the last for 3. `inside` tells whether a cell has the dot, be it a character's or a
-- space's, and `shaded` whether a shadow falls on it; `back` is the cell's background, outside every cell the starting one. A lit dot has its character's colour in each mode.
abbrev pub ground_byte : ℕ → Bool → Bool → ℕ → ℕ
ground_byte mode inside shaded back =
    pick (eqb mode 0) video
    (pick (eqb mode 1) (pick shaded (in_colour black) video)
    (pick (eqb mode 2) (pick inside (in_colour back) video)
    (in_colour back)))

-- blinking: D frames for a frequency, of which the first 3D/4, D/2 or D/4 are lit for ratio 0, 1 or 2
abbrev pub divisor_of : ℕ → ℕ
divisor_of frequency = 16 * 2 ^ frequency

abbrev pub lit_in : ℕ → ℕ → ℕ → Bool
lit_in ratio frequency frame = ltb (frame % divisor_of frequency) ((3 - ratio) * divisor_of frequency / 4)
