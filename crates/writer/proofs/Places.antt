-- The bytes of an image by places of cells: a place has its cell's rows in its first bytes; the bytes after them, and those of a place without a cell, are
-- FF. Two records hold the bytes of a place.
-- Assumes nothing.
use Rattle.std.proofs.Common.{◌≡◌, ℕ, ◌+◌, ◌-◌, ◌*◌, ◌/◌, ◌%◌, ◌<◌, ◌≤◌, ltb, List, get_or, take, drop, min, ap, length-take, length-drop, replicate, refl, sym, ◌∙◌, arith, le-ltb, lt-ltb}
use Rattle.std.proofs.lemmas.List.{get_or-replicate, get_or-take, get_or-drop}
use native.Mathlib.Decide.{dec_lt}
use Rattle.laws.specs.Lists.{tabulate}
use Rattle.image.specs.Image.{image_of, half_at, due_at}
use Rattle.laws.proofs.Lists.{Filled, length_tabulate, get_or_tabulate, tabulate_same, is_tabulate}
use Rattle.writer.specs.Text.{bytes_in}
use Rattle.writer.specs.Steps.{bytes_of_cell}

-- a place's two records
module _ (image : List ℕ) (place : ℕ) where
  pub front_bytes : take 16 (bytes_of_cell image place) ≡ bytes_in image (2 * place)
  front_bytes =
      is_tabulate 0 16 (λ i. get_or image (16 * (2 * place) + i) 0) _ (length-take 16 (bytes_of_cell image place) ∙ ap (min 16) (length_tabulate 32 (λ i. get_or image (32 * place + i) 0)))
      (λ k h. get_or-take 16 (bytes_of_cell image place) k 0 h ∙ get_or_tabulate 32 (λ i. get_or image (32 * place + i) 0) k 0 (omega arith) ∙ ap (λ i. get_or image i 0) (omega arith))

  pub back_bytes : drop 16 (bytes_of_cell image place) ≡ bytes_in image (2 * place + 1)
  back_bytes =
      is_tabulate 0 16 (λ i. get_or image (16 * (2 * place + 1) + i) 0) _ (length-drop 16 (bytes_of_cell image place) ∙ ap (λ n. n - 16) (length_tabulate 32 (λ i. get_or image (32 * place + i) 0)))
      (λ k h. get_or-drop 16 (bytes_of_cell image place) k 0 ∙ get_or_tabulate 32 (λ i. get_or image (32 * place + i) 0) (16 + k) 0 (omega arith) ∙ ap (λ i. get_or image i 0) (omega arith))

module _ (font : List ℕ) (place : ℕ) (h : place < 256) where
  -- the bytes of a place are the bytes due
  pub bytes_due : bytes_of_cell (image_of font) place ≡ tabulate 32 (λ i. due_at font (32 * place + i))
  bytes_due = tabulate_same 32 _ _ (λ i g. get_or_tabulate 8192 (due_at font) (32 * place + i) 0 (omega arith))

  module _ (i : ℕ) (g : i < 32) where
    cell_here : (32 * place + i) % 4096 / 32 ≡ place % 128
    cell_here = omega arith

    row_here : (32 * place + i) % 32 ≡ i
    row_here = omega arith

    pub place_row : place % 128 < 62 → i < 18 → half_at (32 * place) (get_or font (18 * (place % 128) + i) 0) ≡ due_at font (32 * place + i)
    unfolding due_at half_at
    place_row c l = simp (cell_here, row_here, lt-ltb _ _ c, lt-ltb _ _ l, half (dec_lt place 128))
      where
        -- all bytes of a place are in one half
        half : Dec (place < 128) → ltb (32 * place) 4096 ≡ ltb (32 * place + i) 4096
        half (yes d) = lt-ltb (32 * place) 4096 (omega arith) ∙ sym (lt-ltb (32 * place + i) 4096 (omega arith))
        half (no d) = le-ltb (32 * place) 4096 (omega arith) ∙ sym (le-ltb (32 * place + i) 4096 (omega arith))

    pub place_rest : 18 ≤ i → 255 ≡ due_at font (32 * place + i)
    unfolding due_at
    place_rest l = go (dec_lt (place % 128) 62)
      where
        go : Dec (place % 128 < 62) → 255 ≡ due_at font (32 * place + i)
        go (yes c) = simp (cell_here, row_here, lt-ltb _ _ c, le-ltb _ _ l)
        go (no c) = simp (cell_here, row_here, le-ltb (place % 128) 62 (omega arith))

    pub place_empty : 62 ≤ place % 128 → 255 ≡ due_at font (32 * place + i)
    unfolding due_at
    place_empty c = simp (cell_here, row_here, le-ltb _ _ c)

  -- the first 18 bytes are due, and those after them as they were: FF
  pub place_filled : (i : ℕ) (bytes : List ℕ) → i ≡ 18 → Filled (λ k. due_at font (32 * place + k)) i bytes (replicate 32 255) → bytes ≡ bytes_of_cell (image_of font) place
  place_filled i bytes e g = is_tabulate 0 32 (λ k. due_at font (32 * place + k)) bytes g.size (λ k b. go k b (dec_lt k 18)) ∙ sym bytes_due
    where
      go : (k : ℕ) → k < 32 → Dec (k < 18) → get_or bytes k 0 ≡ due_at font (32 * place + k)
      go k b (yes l) = g.done k (omega arith)
      go k b (no l) = g.left k (omega arith) ∙ get_or-replicate 32 k 255 0 b ∙ place_rest k b (omega arith)

  pub place_none : 62 ≤ place % 128 → replicate 32 255 ≡ bytes_of_cell (image_of font) place
  place_none c = is_tabulate 0 32 (λ k. due_at font (32 * place + k)) (replicate 32 255) refl (λ k b. get_or-replicate 32 k 255 0 b ∙ place_empty k b c) ∙ sym bytes_due
