-- What a cell's row shows, stretched over its dots, is what the account says of the cell, the shadow of the cell before it among that.
-- Assumes nothing.
use mathlib.Core.Path.{◌≡◌, refl, sym, ap, ◌∙◌}
use mathlib.Core.Bool.{Bool, true, false}
use mathlib.Core.List.{List}
use Prim.Native.Nat.{ℕ, ◌-◌, ◌*◌, ◌/◌, ◌%◌, ◌<◌, ◌≤◌}
use native.Mathlib.Omega.{arith}
use borrow.Author.Tests.{eqb-true}
use lib.Dec.{eqb}
use Rattle.laws.specs.Pick.{pick, both, either}
use Rattle.laws.specs.Placing.{span_has, patched}
use Rattle.laws.proofs.Both.{pick_where, pick_of}
use Rattle.laws.proofs.Placing.{cell_in_row, span_has_law, share_below, first_part}
use Rattle.font.specs.Font.{rows_of_cell, bit_set, font_dot}
use Rattle.modes.specs.Modes.{ground_byte, in_colour}
use Rattle.judging.specs.Judging.{most_colour}
use Rattle.stretch.specs.Stretch.{shade_set, column_byte, stretched}
use Rattle.display.specs.declared.View.{View}
use Rattle.display.specs.declared.Pen.{Pen}
use Rattle.display.specs.Cells.{character, space}
use Rattle.display.specs.Picture.{lit_at, shadow_of, shown_dot}
use Rattle.display.specs.Steps.{on_first, blank_row, shows_row, ink_of, drawn_dot, Cut}
use Rattle.display.proofs.Shadow.{no_bits, shown_bit, shade_at, ground_plain}

-- the row of a font that the line cuts is one of its cell
pub row_within : (v : View) (p : Pen) → Cut v p → (v.line.0 - p.y.0) / p.size < rows_of_cell
row_within v p cut = share_below rows_of_cell p.size v.line.0 p.y.0 cut.from cut.to

-- what the cell before throws falls on the first column alone
shade_first : (above j : ℕ) (thrown : Bool) → shade_set above thrown j ≡ either (both thrown (eqb j 0)) (shade_set above false j)
shade_first above j thrown = go thrown (eqb j 0) (bit_set above (j - 1))
  where
    go : (t first bit : Bool) → pick first t bit ≡ either (both t first) (pick first false bit)
    go true true bit = refl
    go true false bit = refl
    go false true bit = refl
    go false false bit = refl

no_shade : (j : ℕ) → false ≡ shade_set 0 false j
no_shade j = sym (go (eqb j 0) (bit_set 0 (j - 1)) (no_bits (j - 1)))
  where
    go : (first bit : Bool) → bit ≡ false → pick first false bit ≡ false
    go true bit e = refl
    go false bit e = e

-- a column's byte, by whether its dot is lit and whether a shadow falls on it
module _ (v : View) (bits above on back j : ℕ) (thrown first lit shadow : Bool) where
  column_shade : eqb j 0 ≡ first → (v.mode ≡ 1 → shadow ≡ shade_set above false j) → (t : Bool) → eqb v.mode 1 ≡ t
      → ground_byte v.mode true (shade_set above thrown j) back ≡ ground_byte v.mode true (either (both thrown first) shadow) back
  column_shade at falls true in_1 =
      ap (λ (s : Bool). ground_byte v.mode true s back)
      (shade_first above j thrown ∙ ap (λ (s : Bool). either (both thrown s) (shade_set above false j)) at ∙ ap (either (both thrown first)) (sym (falls (eqb-true _ _ in_1))))
  column_shade at falls false other =
      ground_plain v.mode true (shade_set above thrown j) back other ∙ sym (ground_plain v.mode true (either (both thrown first) shadow) back other)

  column_byte_law : back ≤ most_colour → bit_set bits j ≡ lit → eqb j 0 ≡ first → (v.mode ≡ 1 → shadow ≡ shade_set above false j)
      → column_byte (record { bits = bits; above = above; before = thrown }) (ink_of v.mode on back) j ≡ pick lit on (ground_byte v.mode true (either (both thrown first) shadow) back)
  column_byte_law within bit at falls =
      let whole : back % 8 ≡ back = omega arith in
      ap (λ (t : Bool). pick t on (pick (shade_set above thrown j) (ground_byte v.mode true true (back % 8)) (ground_byte v.mode true false (back % 8)))) bit
      ∙ ap (λ (n : ℕ). pick lit on n)
      (pick_of (λ s. ground_byte v.mode true s (back % 8)) (shade_set above thrown j)
      ∙ ap (ground_byte v.mode true (shade_set above thrown j)) whole
      ∙ column_shade at falls (eqb v.mode 1) refl)

-- a character's cell, and a space's
module _ (font : List ℕ) (v : View) (p : Pen) (thrown : Bool) (cut : Cut v p) (some : 1 ≤ p.size) (k a : ℕ) where
  pub character_dot : (colour code : ℕ) (blink : Bool) → p.background ≤ most_colour
      → stretched p.x.0 (12 * p.size) p.size (shows_row font v code blink ((v.line.0 - p.y.0) / p.size) thrown) (ink_of v.mode (in_colour colour) p.background) k a
      ≡ drawn_dot (font_dot font) v k (on_first p.x p.size thrown k) (record { left = p.x; top = p.y; size = p.size; background = p.background; shows = character colour code blink }) a
  unfolding patched shadow_of shown_dot
  character_dot colour code blink within =
      rw (cell_in_row 12 18 v.line.0 k p.x.0 p.y.0 p.size cut.from cut.to)
      (pick_where (span_has p.x.0 (12 * p.size) k) _ _ a (λ e.
      let h = span_has_law p.x.0 (12 * p.size) k e in
      let l : ℕ = (v.line.0 - p.y.0) / p.size in
      let j : ℕ = (k - p.x.0) / p.size in
      let column : j < 12 = share_below 12 p.size k p.x.0 h.0 h.1 in
      column_byte_law v _ _ (in_colour colour) p.background j thrown (span_has p.x.0 p.size k) (lit_at (font_dot font) v code blink l j) _ within
      (shown_bit font v code blink l j) (sym (first_part p.size k p.x.0 some h.0)) (λ one. shade_at font v code blink l j one (row_within v p cut) (omega arith))))

  pub space_dot : (own : ℕ) → own ≤ most_colour
      → stretched p.x.0 (12 * p.size) p.size (blank_row thrown) (ink_of v.mode 0 own) k a
      ≡ drawn_dot (font_dot font) v k (on_first p.x p.size thrown k) (record { left = p.x; top = p.y; size = p.size; background = own; shows = space }) a
  unfolding patched shadow_of shown_dot
  space_dot own within =
      rw (cell_in_row 12 18 v.line.0 k p.x.0 p.y.0 p.size cut.from cut.to)
      (pick_where (span_has p.x.0 (12 * p.size) k) _ _ a (λ e.
      let h = span_has_law p.x.0 (12 * p.size) k e in
      let j : ℕ = (k - p.x.0) / p.size in
      column_byte_law v 0 0 0 own j thrown (span_has p.x.0 p.size k) false false within
      (no_bits j) (sym (first_part p.size k p.x.0 some h.0)) (λ one. no_shade j)))
