-- Hexadecimal digits: document 01, 'The character image', second paragraph. Both cases are digits; no other byte is.
-- Assumes nothing.
use Rattle.std.specs.Prelude.{ℕ, ◌+◌, ◌-◌, ◌*◌, Bool, List, nat_le, nat_lt, slice_index}
use Rattle.laws.specs.Pick.{pick, both}
use Rattle.laws.specs.Lists.{tabulate}

abbrev pub among : ℕ → ℕ → ℕ → Bool
among low high c = both (nat_le low c) (nat_le c high)

-- the value of a digit, 0 to 9, A to F or a to f, and 16 for any other byte
unfoldable pub digit : ℕ → ℕ
digit c = pick (among 48 57 c) (c - 48) (pick (among 65 70 c) (c - 55) (pick (among 97 102 c) (c - 87) 16))

abbrev pub is_digit : ℕ → Bool
is_digit c = nat_lt (digit c) 16

-- the byte that the two digits at a place spell
abbrev pub byte_at : List ℕ → ℕ → ℕ
byte_at s place = 16 * digit (slice_index s place) + digit (slice_index s (place + 1))

-- n bytes from a place on, two digits each
abbrev pub bytes_from : List ℕ → ℕ → ℕ → List ℕ
bytes_from s place n = tabulate n (λ i. byte_at s (place + 2 * i))
