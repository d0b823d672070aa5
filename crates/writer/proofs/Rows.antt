-- Where the rows of a font lie in the records of its image: record n holds rows of cell n % 256 / 2, from its row 0 or 16 on, in its first
-- bytes; the bytes after them are FF.
-- Assumes nothing.
use Rattle.std.proofs.Common.{◌≡◌, ℕ, ◌+◌, ◌*◌, ◌/◌, ◌%◌, ◌<◌, ◌≤◌, ltb, List, get_or, sym, ◌∙◌, arith, le-ltb, lt-ltb, eq-eqb, ne_eqb}
use native.Mathlib.Decide.{dec_lt, ℕ_discrete}
use Rattle.image.specs.Image.{half_at, due_at}
use Rattle.writer.specs.Steps.{count_of_rows}

module _ (n : ℕ) (h : n < 512) where
  -- the place of byte i of record n
  module _ (i : ℕ) (g : i < 16) where
    cell_here : (16 * n + i) % 4096 / 32 ≡ n % 256 / 2
    cell_here = omega arith

    row_here : (16 * n + i) % 32 ≡ 16 * (n % 2) + i
    row_here = omega arith

  rows_none : 62 ≤ n % 256 / 2 → count_of_rows n ≡ 0
  unfolding count_of_rows
  rows_none c = simp (le-ltb _ _ c)

  rows_even : n % 256 / 2 < 62 → n % 2 ≡ 0 → count_of_rows n ≡ 16
  unfolding count_of_rows
  rows_even c e = simp (lt-ltb _ _ c, eq-eqb _ _ e)

  rows_odd : n % 256 / 2 < 62 → (n % 2 ≡ 0 → ⊥) → count_of_rows n ≡ 2
  unfolding count_of_rows
  rows_odd c e = simp (lt-ltb _ _ c, ne_eqb _ _ e)

  -- what a number of rows says of the cell and of the half
  record Held (i : ℕ) : Type 0 where
    pub cell : n % 256 / 2 < 62
    pub row : 16 * (n % 2) + i < 18
    pub below : i < 16

  held : (i : ℕ) → i < count_of_rows n → Held i
  held i l = go (dec_lt (n % 256 / 2) 62) (ℕ_discrete (n % 2) 0)
    where
      go : Dec (n % 256 / 2 < 62) → Dec (n % 2 ≡ 0) → Held i
      go (yes c) (yes e) = record { cell = c; row = omega (arith, rows_even c e); below = omega (arith, rows_even c e) }
      go (yes c) (no e) = record { cell = c; row = omega (arith, rows_odd c e); below = omega (arith, rows_odd c e) }
      go (no c) e = absurd (omega (arith, rows_none (omega arith)))

  pub due_row : (font : List ℕ) (i : ℕ) → i < count_of_rows n → half_at (16 * n) (get_or font (18 * (n % 256 / 2) + 16 * (n % 2) + i) 0) ≡ due_at font (16 * n + i)
  unfolding due_at half_at
  due_row font i l = go (held i l)
    where
      -- all bytes of a record are in one half
      half : i < 16 → Dec (n < 256) → ltb (16 * n) 4096 ≡ ltb (16 * n + i) 4096
      half b (yes d) = lt-ltb (16 * n) 4096 (omega arith) ∙ sym (lt-ltb (16 * n + i) 4096 (omega arith))
      half b (no d) = le-ltb (16 * n) 4096 (omega arith) ∙ sym (le-ltb (16 * n + i) 4096 (omega arith))

      go : Held i → half_at (16 * n) (get_or font (18 * (n % 256 / 2) + 16 * (n % 2) + i) 0) ≡ due_at font (16 * n + i)
      go at =
          let place : 18 * (n % 256 / 2) + (16 * (n % 2) + i) ≡ 18 * (n % 256 / 2) + 16 * (n % 2) + i = omega arith in
          simp (cell_here i at.below, row_here i at.below, lt-ltb _ _ at.cell, lt-ltb _ _ at.row, place, half at.below (dec_lt n 256))

  pub due_none : (font : List ℕ) (i : ℕ) → i < 16 → count_of_rows n ≤ i → 255 ≡ due_at font (16 * n + i)
  unfolding due_at
  due_none font i g l = go (dec_lt (n % 256 / 2) 62) (ℕ_discrete (n % 2) 0)
    where
      go : Dec (n % 256 / 2 < 62) → Dec (n % 2 ≡ 0) → 255 ≡ due_at font (16 * n + i)
      go (yes c) (yes e) = absurd (omega (arith, rows_even c e))
      go (yes c) (no e) = simp (cell_here i g, row_here i g, lt-ltb _ _ c, le-ltb (16 * (n % 2) + i) 18 (omega (arith, rows_odd c e)))
      go (no c) e = simp (cell_here i g, le-ltb (n % 256 / 2) 62 (omega arith))
