-- Glyphs that can be packed, taken apart.
-- Assumes nothing.
use Rattle.std.proofs.Common.{◌≡◌, ℕ, ◌*◌, ◌/◌, ◌%◌, ◌≤◌, true, eqb, leb, List, length, arith, eqb-true, leb-true}
use Rattle.laws.specs.Within.{within}
use Rattle.laws.proofs.Both.{both_parts}
use Rattle.font.specs.Font.{rows_of_cell, most_row}
use Rattle.packer.specs.Glyphs.{most_glyphs, glyphs_in}
use Rattle.packer.specs.Packing.{all_whole, are_glyphs}

pub whole_parts : (glyphs : List ℕ) → all_whole glyphs ≡ true → (length glyphs ≡ rows_of_cell * glyphs_in glyphs) × (glyphs_in glyphs ≤ most_glyphs)
unfolding all_whole
whole_parts glyphs e =
    let parts = both_parts (eqb (length glyphs % 18) 0) (leb (length glyphs / 18) 256) e in
    (omega (arith, eqb-true (length glyphs % 18) 0 parts.0), leb-true (length glyphs / 18) 256 parts.1)

pub record Taken (glyphs : List ℕ) : Type 0 where
  pub whole : length glyphs ≡ rows_of_cell * glyphs_in glyphs
  pub few : glyphs_in glyphs ≤ most_glyphs
  pub small : within most_row glyphs ≡ true

pub taken : (glyphs : List ℕ) → are_glyphs glyphs ≡ true → Taken glyphs
unfolding are_glyphs
taken glyphs e =
    let parts = both_parts (all_whole glyphs) (within most_row glyphs) e in
    let shape = whole_parts glyphs parts.0 in
    record { whole = shape.0; few = shape.1; small = parts.1 }

pub few_glyphs : (glyphs : List ℕ) → are_glyphs glyphs ≡ true → length glyphs / 18 ≤ 256
few_glyphs glyphs e = (taken glyphs e).few
