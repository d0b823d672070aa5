-- What M-101 claims of pictures: what a dot depends on, and what the shadow changes.
-- Assumes nothing.
use Rattle.std.specs.Prelude.{◌≡◌, Bool, true, false, List, [], ◌∷◌, ◌++◌, ℕ, ◌+◌, ◌*◌, ◌<◌, ◌≤◌, eqb}
use Rattle.laws.specs.Pick.{pick, both}
use Rattle.laws.specs.Lines.{any_of}
use Rattle.font.specs.Font.{rows_of_cell, cell_columns}
use Rattle.units.specs.declared.Dots.{Dots}
use Rattle.units.specs.declared.Lines.{Lines}
use Rattle.modes.specs.Modes.{video, in_colour, black}
use Rattle.display.specs.declared.Kind.{Kind}
use Rattle.display.specs.declared.View.{View}
use Rattle.display.specs.declared.Pen.{Pen}
use Rattle.display.specs.Cells.{Cell, cells_from}
use Rattle.display.specs.Picture.{Drawn, has, throws, shaded_dot, dot_at}

-- A cell's shadow reaches no further than its own lines, but for the first row, and from its second column to one column right of it: never below its bottom line.
abbrev pub Reach : Type 0
Reach =
    (dots : Drawn) (v : View) (k : ℕ) (c : Cell) → throws dots v k c ≡ true
    → ((c.top.0 + c.size ≤ v.line.0) × (v.line.0 < c.top.0 + rows_of_cell * c.size)) × ((c.left.0 + c.size ≤ k) × (k < c.left.0 + (cell_columns + 1) * c.size))

-- A dot that a cell has depends on that cell and the one before it: were these two the screen's only cells, the dot would be the same. In the first cell of the screen, or of
-- a row, it depends on that cell alone.
abbrev pub OnTwoCells : Type 0
OnTwoCells =
    (dots : Drawn) (v : View) (start k : ℕ) (left : Dots) (kinds : List Kind) (p : Pen) (before : List Cell) (b c : Cell) (after : List Cell)
    → cells_from left kinds p ≡ before ++ (b ∷ c ∷ after) → has v k c ≡ true → dot_at dots v start (cells_from left kinds p) k ≡ dot_at dots v start (b ∷ c ∷ []) k

abbrev pub OnFirstCell : Type 0
OnFirstCell =
    (dots : Drawn) (v : View) (start k : ℕ) (left : Dots) (kinds : List Kind) (p : Pen) (c : Cell) (after : List Cell)
    → cells_from left kinds p ≡ c ∷ after → has v k c ≡ true → dot_at dots v start (cells_from left kinds p) k ≡ dot_at dots v start (c ∷ []) k

abbrev pub OnRowsFirst : Type 0
OnRowsFirst =
    (dots : Drawn) (v : View) (start k : ℕ) (left : Dots) (kinds : List Kind) (p : Pen) (before : List Cell) (b c : Cell) (after : List Cell)
    → cells_from left kinds p ≡ before ++ (b ∷ c ∷ after) → has v k c ≡ true → (b.top ≡ c.top → ⊥) → dot_at dots v start (cells_from left kinds p) k ≡ dot_at dots v start (c ∷ []) k

-- A dot that no cell has depends on a cell that throws its shadow on it, if there is one: on the last of its row, as the cell after it stands in another. If there is none, it
-- depends on no cell.
abbrev pub OnOneOutside : Type 0
OnOneOutside =
    (dots : Drawn) (v : View) (start k : ℕ) (before : List Cell) (b : Cell) (after : List Cell)
    → any_of (has v k) (before ++ (b ∷ after)) ≡ false → throws dots v k b ≡ true → dot_at dots v start (before ++ (b ∷ after)) k ≡ dot_at dots v start (b ∷ []) k

abbrev pub AfterLast : Type 0
AfterLast =
    (dots : Drawn) (v : View) (k : ℕ) (left : Dots) (kinds : List Kind) (p : Pen) (before : List Cell) (b c : Cell) (after : List Cell)
    → cells_from left kinds p ≡ before ++ (b ∷ c ∷ after) → any_of (has v k) (cells_from left kinds p) ≡ false → throws dots v k b ≡ true → b.top ≡ c.top → ⊥

abbrev pub OnNoneOutside : Type 0
OnNoneOutside =
    (dots : Drawn) (v : View) (start k : ℕ) (cs : List Cell) → any_of (has v k) cs ≡ false → any_of (throws dots v k) cs ≡ false → dot_at dots v start cs k ≡ dot_at dots v start [] k

-- In modes 0, 2 and 3 no dot depends on a shadow: each is what it is where none falls.
abbrev pub NoShadowElsewhere : Type 0
NoShadowElsewhere = (dots : Drawn) (v : View) (start : ℕ) (cs : List Cell) (k : ℕ) → (v.mode ≡ 1 → ⊥) → dot_at dots v start cs k ≡ shaded_dot dots v start cs k false

-- In mode 1 each dot is that of mode 0, but black where that is video and a shadow falls on it: a shadow covers no lit dot.
abbrev pub in_mode : ℕ → Dots → Lines → Bool → View
in_mode mode left line lit = record { left = left; line = line; mode = mode; lit = lit }

abbrev pub OverMode0 : Type 0
OverMode0 =
    (dots : Drawn) (left : Dots) (line : Lines) (lit : Bool) (start : ℕ) (cs : List Cell) (k : ℕ)
    → dot_at dots (in_mode 1 left line lit) start cs k
    ≡ pick (both (any_of (throws dots (in_mode 1 left line lit) k) cs) (eqb (dot_at dots (in_mode 0 left line lit) start cs k) video)) (in_colour black)
    (dot_at dots (in_mode 0 left line lit) start cs k)
