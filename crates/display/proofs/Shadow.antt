-- Where a cell's shadow falls: nowhere but on its own rows after the first, from its second column to one column right of it; and in mode 1, what the row above the
-- line's throws on each of these columns. In other modes it does not matter whether a shadow falls on a dot.
-- Assumes nothing.
use mathlib.Core.Path.{◌≡◌, refl, sym, ap, ◌∙◌}
use mathlib.Core.Bool.{Bool, true, false, false≢true}
use mathlib.Core.Logic.{⊎_elim}
use mathlib.Core.List.{List}
use Prim.Native.Nat.{ℕ, ◌+◌, ◌-◌, ◌*◌, ◌^◌, ◌<◌, ◌≤◌}
use native.Mathlib.Omega.{arith}
use native.Mathlib.Nat.{zero-div}
use borrow.Author.Tests.{eq-eqb, ne_eqb, eqb-true, lt-ltb, le-ltb}
use lib.Dec.{eqb, ltb}
use Rattle.laws.specs.Pick.{pick, both}
use Rattle.laws.specs.Placing.{span_has}
use Rattle.laws.proofs.Both.{both_parts, none_left, none_right, fails_unless}
use Rattle.laws.proofs.Placing.{span_in, span_before, span_has_law, share_in}
use Rattle.laws.proofs.Scan.{split}
use Rattle.font.specs.Font.{rows_of_cell, cell_columns, row_of, bit_set, font_dot}
use Rattle.modes.specs.Modes.{ground_byte}
use Rattle.stretch.specs.Stretch.{shade_set}
use Rattle.display.specs.declared.View.{View}
use Rattle.display.specs.Cells.{Shown, character, space, Cell}
use Rattle.display.specs.Picture.{Drawn, steady_or, lit_at, row_in, column_in, shadow_of, throws, shown_dot, cell_dot}
use Rattle.display.specs.Steps.{fallen, shown_row, above_row}

-- how far a cell's shadow reaches
pub record Reached (v : View) (k : ℕ) (c : Cell) : Type 0 where
  pub down : c.top.0 + c.size ≤ v.line.0
  pub bottom : v.line.0 < c.top.0 + rows_of_cell * c.size
  pub across : c.left.0 + c.size ≤ k
  pub end : k < c.left.0 + (cell_columns + 1) * c.size

module _ (dots : Drawn) (v : View) (k : ℕ) (c : Cell) where
  reach_shown : (sh : Shown) → shadow_of dots v k c sh ≡ true → Reached v k c
  unfolding shadow_of
  reach_shown (character colour code blink) e =
      let parts = both_parts (span_has 1 17 (row_in v c)) _ e in
      let l = span_has_law 1 17 (row_in v c) parts.0 in
      let j = span_has_law 1 12 (column_in k c) (both_parts (span_has 1 12 (column_in k c)) _ parts.1).0 in
      let rows = share_in 18 c.size v.line.0 c.top.0 l.0 (omega arith) in
      let columns = share_in 13 c.size k c.left.0 j.0 (omega arith) in
      record { down = rows.0; bottom = rows.1; across = columns.0; end = columns.1 }
  reach_shown space e = absurd (false≢true e)

  pub reach : throws dots v k c ≡ true → Reached v k c
  reach e = reach_shown c.shows e

  -- it does not reach the dot
  pub throws_not : (Reached v k c → ⊥) → throws dots v k c ≡ false
  throws_not none = fails_unless (throws dots v k c) (λ e. none (reach e))

pub no_bits : (j : ℕ) → bit_set 0 j ≡ false
no_bits j = simp (zero-div (2 ^ (11 - j)))

-- the bits of a shown row are the dots that are lit in it
pub shown_bit : (font : List ℕ) (v : View) (code : ℕ) (blink : Bool) (l j : ℕ) → bit_set (shown_row font v code blink l) j ≡ lit_at (font_dot font) v code blink l j
shown_bit font v code blink l j = go (steady_or blink v.lit)
  where
    go : (t : Bool) → bit_set (pick t (row_of font code l) 0) j ≡ both t (bit_set (row_of font code l) j)
    go true = refl
    go false = no_bits j

pick_same : {A : Type 0} (t : Bool) (a : A) → pick t a a ≡ a
pick_same true a = refl
pick_same false a = refl

module _ (font : List ℕ) (v : View) (code : ℕ) (blink : Bool) (l j : ℕ) where
  above_first : ltb 0 l ≡ false → above_row font v code blink l ≡ 0
  above_first first = simp first (ap (λ (n : ℕ). pick (steady_or blink v.lit) n 0) (pick_same (eqb v.mode 1) 0) ∙ pick_same (steady_or blink v.lit) 0)

  above_row_law : v.mode ≡ 1 → 1 ≤ l → above_row font v code blink l ≡ shown_row font v code blink (l - 1)
  above_row_law one some =
      let in_1 : eqb v.mode 1 ≡ true = eq-eqb _ _ one in
      let later : ltb 0 l ≡ true = lt-ltb 0 l (omega arith) in
      let at : 18 * code + l - 1 ≡ 18 * code + (l - 1) = omega arith in
      simp (in_1, later, at)

  -- the shadow of a character in mode 1, by the row above the line's
  pub shade_at : v.mode ≡ 1 → l < rows_of_cell → j < cell_columns + 1
      → both (span_has 1 (rows_of_cell - 1) l) (both (span_has 1 cell_columns j) (lit_at (font_dot font) v code blink (l - 1) (j - 1))) ≡ shade_set (above_row font v code blink l) false j
  shade_at one row column =
      ⊎_elim
      (λ (some : 1 ≤ j).
      let other : eqb j 0 ≡ false = ne_eqb j 0 (λ z. omega (arith, z)) in
      ⊎_elim
      (λ (later : 1 ≤ l). simp (span_in 1 17 l later (omega arith), span_in 1 12 j some (omega arith), other) (sym (ap (λ (n : ℕ). bit_set n (j - 1)) (above_row_law one later) ∙ shown_bit font v code blink (l - 1) (j - 1))))
      (λ (first : l < 1). none_left (span_has 1 17 l) (both (span_has 1 12 j) (lit_at (font_dot font) v code blink (l - 1) (j - 1))) (span_before 1 17 l first) ∙ sym (simp other (ap (λ (n : ℕ). bit_set n (j - 1)) (above_first (le-ltb 0 l (omega arith))) ∙ no_bits (j - 1))))
      (split 1 l))
      (λ (first : j < 1).
      let zeroth : eqb j 0 ≡ true = eq-eqb j 0 (omega arith) in
      none_right (span_has 1 17 l) _ (none_left (span_has 1 12 j) (lit_at (font_dot font) v code blink (l - 1) (j - 1)) (span_before 1 12 j first)) ∙ sym (simp zeroth))
      (split 1 j)

  -- only in mode 1 is there one
  pub hands_in_1 : bit_set (above_row font v code blink l) j ≡ true → v.mode ≡ 1
  hands_in_1 e = go (eqb v.mode 1) refl
    where
      go : (t : Bool) → eqb v.mode 1 ≡ t → v.mode ≡ 1
      go true in_1 = eqb-true _ _ in_1
      go false other =
          let none : above_row font v code blink l ≡ 0 = simp other (pick_same (steady_or blink v.lit) 0) in
          absurd (false≢true (sym (no_bits j) ∙ ap (λ (n : ℕ). bit_set n j) (sym none) ∙ e))

-- in other modes a shadow changes nothing
pub ground_plain : (mode : ℕ) (inside shaded : Bool) (back : ℕ) → eqb mode 1 ≡ false → ground_byte mode inside shaded back ≡ ground_byte mode inside false back
ground_plain mode inside shaded back other = simp other

pub dot_plain : (dots : Drawn) (v : View) (shaded : Bool) (k : ℕ) (c : Cell) → eqb v.mode 1 ≡ false → cell_dot dots v shaded k c ≡ cell_dot dots v false k c
unfolding shown_dot
dot_plain dots v shaded k c other = go c.shows
  where
    go : (sh : Shown) → shown_dot dots v shaded k c sh ≡ shown_dot dots v false k c sh
    go (character colour code blink) =
        ap (λ (n : ℕ). pick (lit_at dots v code blink (row_in v c) (column_in k c)) (8 + colour) n) (ground_plain v.mode true shaded c.background other)
    go space = ground_plain v.mode true shaded c.background other

-- a shadow that falls on what is outside every cell
pub fallen_ground : (v : View) (shaded : Bool) (start : ℕ) → fallen v shaded (ground_byte v.mode false false start) ≡ ground_byte v.mode false shaded start
fallen_ground v shaded start = go (eqb v.mode 1) refl shaded
  where
    go : (t : Bool) → eqb v.mode 1 ≡ t → (s : Bool) → fallen v s (ground_byte v.mode false false start) ≡ ground_byte v.mode false s start
    go true in_1 true = let one = eqb-true v.mode 1 in_1 in rw one
    go true in_1 false = simp in_1
    go false other s = simp other
