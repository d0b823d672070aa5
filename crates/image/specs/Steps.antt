-- Not part of the account: what the private functions that look for a missing bit tell each other. proofs/Spared and proofs/Strides join it to the
-- definitions of specs/Image.
-- Assumes nothing.
use Rattle.std.specs.Prelude.{ℕ, ◌+◌, ◌<◌, ◌≤◌, ◌≡◌, false, List, length, ltb, get_or}
use Rattle.laws.specs.Pick.{pick}
use Rattle.font.specs.Font.{rows_of_cell}
use Rattle.image.specs.Image.{image_bytes, unused, row_at, lacks_at}

-- no bit is missing below an address
pub record WholeTo (image : List ℕ) (to : ℕ) : Type 0 where
  pub inside : to ≤ image_bytes
  pub whole : (k : ℕ) → k < to → lacks_at image k ≡ false

-- the bits that count as set in a row of the place, whether they are or not; outside the rows there are none
abbrev pub spared_in : ℕ → ℕ → ℕ
spared_in row free = pick (ltb row rows_of_cell) free 0

-- in bytes that begin where a stride does every bit is set, or spared
abbrev pub Held : List ℕ → ℕ → Type 0
Held strides free = (k : ℕ) → k < length strides → unused ≤ get_or strides k 0 + spared_in (row_at k) free

-- no byte is below the number for its place in the stride
abbrev pub Under : List ℕ → List ℕ → Type 0
Under under strides = (k : ℕ) → k < length strides → get_or under (row_at k) 0 ≤ get_or strides k 0
