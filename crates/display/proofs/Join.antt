-- The pen, once past a dot, stays past it, and no cell from there on has to do with the dot: none has it, and none throws its shadow on it. So each dot lies in at
-- most one cell of a screen.
-- Assumes nothing.
use mathlib.Core.Path.{◌≡◌, refl}
use mathlib.Core.Bool.{Bool, true, false}
use mathlib.Core.Logic.{⊎_elim}
use mathlib.Core.List.{List, [], ◌∷◌, ◌++◌}
use Prim.Native.Nat.{ℕ, ◌+◌, ◌≤◌}
use native.Mathlib.Omega.{arith}
use Rattle.laws.specs.Pick.{pick}
use Rattle.laws.specs.Lines.{any_of, holders}
use Rattle.laws.specs.Placing.{cell_has}
use Rattle.laws.proofs.Holders.{holders_of_none}
use Rattle.laws.proofs.Placing.{Past, past_none, past_cell, past_right, past_below}
use Rattle.units.specs.declared.Dots.{Dots}
use Rattle.display.specs.declared.Kind.{Kind}
use Rattle.display.specs.declared.Kind.TheVariants.{Character, Space, Return, End}
use Rattle.display.specs.declared.View.{View}
use Rattle.display.specs.declared.Pen.{Pen}
use Rattle.display.specs.Cells.{Shown, Cell, character, space, kind_cell, right_of, below_row, row_pen, after_word, goes_on, cells_from}
use Rattle.display.specs.Picture.{Drawn, has, throws}
use Rattle.display.proofs.Shadow.{throws_not}

-- a test that no cell passes from a pen on, by what is true of that pen and stays true of those after it
module _ (left : Dots) (test : Cell → Bool) (Is : Pen → Type 0) (none : (p : Pen) (back : ℕ) (shows : Shown) → Is p → test (record { left = p.x; top = p.y; size = p.size; background = back; shows = shows }) ≡ false)
    (stays : (kd : Kind) (p : Pen) → Is p → Is (after_word left kd p)) where
  none_kind : (kd : Kind) (kinds : List Kind) (p : Pen) → Is p → ((next : Pen) → Is next → any_of test (cells_from left kinds next) ≡ false)
      → any_of test (kind_cell p.x p.y p.size p.background kd ++ pick (goes_on kd) (cells_from left kinds (after_word left kd p)) []) ≡ false
  unfolding any_of kind_cell
  none_kind (Character colour code blink) kinds p h rest = simp (none p p.background (character colour code blink) h) (rest _ (stays (Character colour code blink) p h))
  none_kind (Space own) kinds p h rest = simp (none p own space h) (rest _ (stays (Space own) p h))
  none_kind (Return next spacing) kinds p h rest = rest _ (stays (Return next spacing) p h)
  none_kind End kinds p h rest = refl

  pub none_from : (kinds : List Kind) (p : Pen) → Is p → any_of test (cells_from left kinds p) ≡ false
  unfolding cells_from any_of
  none_from [] p h = refl
  none_from (kd ∷ kinds) p h = none_kind kd kinds p h (λ next n. none_from kinds next n)

module _ (v : View) (left : Dots) (k : ℕ) where
  -- the pen is past dot k of the line
  abbrev pub PenPast : Pen → Type 0
  PenPast p = Past 12 18 v.line.0 k p.x.0 p.y.0 p.size

  past_after : (kd : Kind) (p : Pen) → PenPast p → PenPast (after_word left kd p)
  unfolding after_word
  past_after (Character colour code blink) p h = past_right 12 18 v.line.0 k p.x.0 p.y.0 p.size h
  past_after (Space own) p h = past_right 12 18 v.line.0 k p.x.0 p.y.0 p.size h
  past_after (Return next spacing) p h = past_below 12 18 v.line.0 k p.x.0 p.y.0 p.size left.0 spacing.0 next h
  past_after End p h = h

  -- past the pen no cell has the dot, and none throws its shadow on it
  pub none_has : (kinds : List Kind) (p : Pen) → PenPast p → any_of (has v k) (cells_from left kinds p) ≡ false
  none_has = none_from left (has v k) PenPast (λ p back shows h. past_none 12 18 v.line.0 k p.x.0 p.y.0 p.size h) past_after

  pub none_throws : (dots : Drawn) (kinds : List Kind) (p : Pen) → PenPast p → any_of (throws dots v k) (cells_from left kinds p) ≡ false
  none_throws dots = none_from left (throws dots v k) PenPast (λ p back shows h. throws_not dots v k _ (λ r. ⊎_elim (λ above. omega arith) (λ beside. omega arith) h)) past_after

  one_or : (t : Bool) (rest : ℕ) → (t ≡ true → rest ≡ 0) → rest ≤ 1 → pick t 1 0 + rest ≤ 1
  one_or true rest f g = let z = f refl in omega arith
  one_or false rest f g = omega arith

  -- a cell at the pen has the dot: then no later one does
  later_none : (kinds : List Kind) (p : Pen) (back : ℕ) → cell_has 12 18 p.x.0 p.y.0 p.size v.line.0 k ≡ true → holders (has v k) (cells_from left kinds (right_of p back)) ≡ 0
  later_none kinds p back e = holders_of_none (has v k) _ (none_has kinds (right_of p back) (past_cell 12 18 v.line.0 k p.x.0 p.y.0 p.size e))

  one_kind : (kd : Kind) (kinds : List Kind) (p : Pen)
      → ((next : Pen) → holders (has v k) (cells_from left kinds next) ≤ 1)
      → holders (has v k) (kind_cell p.x p.y p.size p.background kd ++ pick (goes_on kd) (cells_from left kinds (after_word left kd p)) []) ≤ 1
  unfolding holders kind_cell after_word
  one_kind (Character colour code blink) kinds p rest = one_or _ _ (λ e. later_none kinds p p.background e) (rest (right_of p p.background))
  one_kind (Space own) kinds p rest = one_or _ _ (λ e. later_none kinds p own e) (rest (right_of p own))
  one_kind (Return next spacing) kinds p rest = rest (row_pen left (below_row p.y p.size spacing) next p.background)
  one_kind End kinds p rest = omega arith

  -- cells never overlap
  pub one_cell : (kinds : List Kind) (p : Pen) → holders (has v k) (cells_from left kinds p) ≤ 1
  unfolding cells_from holders
  one_cell [] p = omega arith
  one_cell (kd ∷ kinds) p = one_kind kd kinds p (λ next. one_cell kinds next)
