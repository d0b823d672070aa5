-- What follows from the account: a line is its dots, and a smaller width cuts it; what is after an end does not matter; screens whose cells are alike have the same
-- line, however their characters are numbered and drawn; left of the first cell and above it nothing is shown. (That cells never overlap is `one_Cell` of Join.antt;
-- what a dot depends on, and what the shadow changes, is claimed in crate pictures.)
-- Assumes nothing.
use mathlib.Core.Path.{◌≡◌, refl, sym, ap, ◌∙◌}
use mathlib.Core.Bool.{Bool, true, false}
use mathlib.Core.Logic.{◌⊎◌, inl, inr, ⊎_elim}
use mathlib.Core.List.{List, [], ◌∷◌, ◌++◌, Forall₂}
use Prim.Native.Nat.{ℕ, ◌-◌, ◌*◌, ◌<◌, ◌≤◌}
use native.Mathlib.Omega.{arith}
use Rattle.laws.specs.Pick.{pick, both}
use Rattle.laws.specs.Lines.{first_shown, any_of}
use Rattle.laws.specs.Lists.{tabulate}
use Rattle.laws.specs.Placing.{span_has}
use lib.ListN.{take, get_or}
use Rattle.laws.proofs.Lists.{tabulate_same, get_or_tabulate, tabulate_cut}
use Rattle.laws.proofs.Holders.{first_of_none}
use Rattle.laws.proofs.Both.{both_where, pick_where}
use Rattle.laws.proofs.Placing.{span_has_law, cell_has_law, cell_below, cell_beside, share_below}
use Rattle.font.specs.Font.{rows_of_cell, cell_columns}
use Rattle.modes.specs.Modes.{ground_byte}
use Rattle.units.specs.declared.Dots.{Dots}
use Rattle.units.specs.declared.Lines.{Lines}
use Rattle.display.specs.declared.View.{View}
use Rattle.display.specs.declared.Pen.{Pen}
use Rattle.judging.specs.declared.Settings.{Settings}
use Rattle.display.specs.declared.Kind.{Kind}
use Rattle.display.specs.declared.Kind.TheVariants.{Character, Space, Return, End}
use Rattle.display.specs.Cells.{Shown, character, space, Cell, kind_cell, row_pen, after_word, goes_on, cells_from}
use Rattle.display.specs.Picture.{Drawn, steady_or, row_in, column_in, has, shadow_of, throws, shown_dot, cell_dot, shaded_dot, dot_at}
use Rattle.display.specs.Painting.{first_dot, first_line, view_of, screen_of, dot_of, line_of}
use Rattle.display.proofs.Join.{none_from}
use Rattle.display.proofs.Shadow.{throws_not}

-- what is read of a screen: up to the first end, with it
unfoldable pub kinds_read : List Kind → List Kind
kinds_read [] = []
kinds_read (kd ∷ kinds) = kd ∷ pick (goes_on kd) (kinds_read kinds) []

cells_read : (left : Dots) (kinds : List Kind) (p : Pen) → cells_from left (kinds_read kinds) p ≡ cells_from left kinds p
unfolding kinds_read cells_from
cells_read left [] p = refl
cells_read left (kd ∷ kinds) p =
    ap (λ cs. kind_cell p.x p.y p.size p.background kd ++ cs) (go (goes_on kd) (cells_read left kinds (after_word left kd p)))
  where
    go : (t : Bool) → cells_from left (kinds_read kinds) (after_word left kd p) ≡ cells_from left kinds (after_word left kd p)
        → pick t (cells_from left (pick t (kinds_read kinds) []) (after_word left kd p)) [] ≡ pick t (cells_from left kinds (after_word left kd p)) []
    go true e = e
    go false e = refl

-- a line depends on what is read alone
pub same_read : (kinds kinds' : List Kind) (dots : Drawn) (s : Settings) (frame : ℕ) (line : Lines) (width : Dots) → kinds_read kinds ≡ kinds_read kinds'
    → line_of kinds dots s frame line width ≡ line_of kinds' dots s frame line width
unfolding dot_of
same_read kinds kinds' dots s frame line width e =
    let p = row_pen (first_dot s) (first_line s) 1 s.colour in
    ap (λ (cs : List Cell). tabulate width.0 (λ k. pick s.on (dot_at dots (view_of s frame line) s.colour cs k) 0))
    (sym (cells_read (first_dot s) kinds p) ∙ ap (λ (ks : List Kind). cells_from (first_dot s) ks p) e ∙ cells_read (first_dot s) kinds' p)

module _ (kinds : List Kind) (dots : Drawn) (s : Settings) (frame : ℕ) (line : Lines) where
  -- the line is its dots, one by one
  pub line_dot : (width : Dots) (k d : ℕ) → k < width.0 → get_or (line_of kinds dots s frame line width) k d ≡ dot_of kinds dots s frame line k
  line_dot width k d lt = get_or_tabulate width.0 (dot_of kinds dots s frame line) k d lt

  -- a smaller width cuts the line and changes no dot of it
  pub line_cut : (less width : Dots) → less.0 ≤ width.0 → take less.0 (line_of kinds dots s frame line width) ≡ line_of kinds dots s frame line less
  line_cut less width le = tabulate_cut less.0 width.0 (dot_of kinds dots s frame line) le

-- what two cells show is the same, each character drawn in its own way: in colour, in blinking, and dot by dot
abbrev pub SameShown : Drawn → Drawn → Shown → Shown → Type 0
SameShown dots dots' (character colour code blink) (character colour' code' blink') =
    (colour ≡ colour') × ((blink ≡ blink') × ((l j : ℕ) → l < rows_of_cell → j < cell_columns → dots code l j ≡ dots' code' l j))
SameShown dots dots' (character colour code blink) space = ⊥
SameShown dots dots' space (character colour code blink) = ⊥
SameShown dots dots' space space = Unit

-- two cells are alike: they have one place, one size and one background, and what they show is the same
pub record Alike (dots dots' : Drawn) (c c' : Cell) : Type 0 where
  pub left : c.left ≡ c'.left
  pub top : c.top ≡ c'.top
  pub size : c.size ≡ c'.size
  pub background : c.background ≡ c'.background
  pub shows : SameShown dots dots' c.shows c'.shows

module _ (dots dots' : Drawn) (v : View) (k : ℕ) where
  alike_has : (c c' : Cell) → Alike dots dots' c c' → has v k c ≡ has v k c'
  alike_has c c' same = rw (same.left, same.top, same.size)

  alike_shown : (shaded : Bool) (c c' : Cell) (sh sh' : Shown) → Alike dots dots' c c' → SameShown dots dots' sh sh' → has v k c ≡ true → shown_dot dots v shaded k c sh ≡ shown_dot dots' v shaded k c' sh'
  unfolding shown_dot
  alike_shown shaded c c' (character colour code blink) (character colour' code' blink') same shows in_the_cell =
      let h = cell_has_law cell_columns rows_of_cell v.line.0 k c.left.0 c.top.0 c.size in_the_cell in
      let row = share_below rows_of_cell c.size v.line.0 c.top.0 h.0.0 h.0.1 in
      let column = share_below cell_columns c.size k c.left.0 h.1.0 h.1.1 in
      rw (shows.0, shows.1.0, shows.1.1 _ _ row column, same.left, same.top, same.size, same.background)
  alike_shown shaded c c' (character colour code blink) space same shows in_the_cell = absurd shows
  alike_shown shaded c c' space (character colour code blink) same shows in_the_cell = absurd shows
  alike_shown shaded c c' space space same shows in_the_cell = rw same.background

  alike_shadow : (c c' : Cell) (sh sh' : Shown) → Alike dots dots' c c' → SameShown dots dots' sh sh' → shadow_of dots v k c sh ≡ shadow_of dots' v k c' sh'
  unfolding shadow_of
  alike_shadow c c' (character colour code blink) (character colour' code' blink') same shows =
      rw (same.left, same.top, same.size)
      (both_where (span_has 1 17 (row_in v c')) _ _ (λ rows. both_where (span_has 1 12 (column_in k c')) _ _ (λ columns.
      let l = span_has_law 1 17 (row_in v c') rows in
      let j = span_has_law 1 12 (column_in k c') columns in
      rw shows.1.0 (ap (both (steady_or blink' v.lit)) (shows.1.1 (row_in v c' - 1) (column_in k c' - 1) (omega arith) (omega arith))))))
  alike_shadow c c' (character colour code blink) space same shows = absurd shows
  alike_shadow c c' space (character colour code blink) same shows = absurd shows
  alike_shadow c c' space space same shows = refl

  any_alike : (cs cs' : List Cell) → Forall₂ (Alike dots dots') cs cs' → any_of (throws dots v k) cs ≡ any_of (throws dots' v k) cs'
  unfolding any_of
  any_alike cs cs' Forall₂.nil = refl
  any_alike cs cs' (Forall₂.cons {a = c} {b = c'} {l₁ = ds} {l₂ = ds'} same rest) = rw (alike_shadow c c' c.shows c'.shows same same.shows, any_alike ds ds' rest)

  first_alike : (shaded : Bool) (cs cs' : List Cell) (other : ℕ) → Forall₂ (Alike dots dots') cs cs'
      → first_shown (has v k) (cell_dot dots v shaded k) cs other ≡ first_shown (has v k) (cell_dot dots' v shaded k) cs' other
  unfolding first_shown
  first_alike shaded cs cs' other Forall₂.nil = refl
  first_alike shaded cs cs' other (Forall₂.cons {a = c} {b = c'} {l₁ = ds} {l₂ = ds'} same rest) =
      pick_where (has v k c) _ _ _ (alike_shown shaded c c' c.shows c'.shows same same.shows) ∙ rw (alike_has c c' same, first_alike shaded ds ds' other rest)

  -- lists of cells that are alike one by one make the same picture
  pub alike_dot : (start : ℕ) (cs cs' : List Cell) → Forall₂ (Alike dots dots') cs cs' → dot_at dots v start cs k ≡ dot_at dots' v start cs' k
  unfolding dot_at
  alike_dot start cs cs' alike = ap (shaded_dot dots v start cs k) (any_alike cs cs' alike) ∙ first_alike (any_of (throws dots' v k) cs') cs cs' _ alike

-- and screens whose cells are alike have the same line
pub same_line : (kinds kinds' : List Kind) (dots dots' : Drawn) (s : Settings) (frame : ℕ) (line : Lines) (width : Dots) → Forall₂ (Alike dots dots') (screen_of kinds s) (screen_of kinds' s)
    → line_of kinds dots s frame line width ≡ line_of kinds' dots' s frame line width
unfolding dot_of
same_line kinds kinds' dots dots' s frame line width alike =
    tabulate_same width.0 _ _ (λ k lt. ap (λ (n : ℕ). pick s.on n 0) (alike_dot dots dots' (view_of s frame line) k s.colour (screen_of kinds s) (screen_of kinds' s) alike))

-- two kinds do the same, wherever the pen is: their cells are alike, the pen goes to one place, and reading goes on after both or neither
pub record SameKind (dots dots' : Drawn) (kd kd' : Kind) : Type 0 where
  pub cells : (x : Dots) (y : Lines) (size back : ℕ) → Forall₂ (Alike dots dots') (kind_cell x y size back kd) (kind_cell x y size back kd')
  pub moves : (left : Dots) (p : Pen) → after_word left kd p ≡ after_word left kd' p
  pub goes : goes_on kd ≡ goes_on kd'

module _ (dots dots' : Drawn) where
  alike_append : (cs cs' ds ds' : List Cell) → Forall₂ (Alike dots dots') cs cs' → Forall₂ (Alike dots dots') ds ds' → Forall₂ (Alike dots dots') (cs ++ ds) (cs' ++ ds')
  alike_append cs cs' ds ds' Forall₂.nil second = second
  alike_append cs cs' ds ds' (Forall₂.cons {l₁ = es} {l₂ = es'} same first) second = Forall₂.cons same (alike_append es es' ds ds' first second)

  alike_pick : (t : Bool) (ds ds' : List Cell) → Forall₂ (Alike dots dots') ds ds' → Forall₂ (Alike dots dots') (pick t ds []) (pick t ds' [])
  alike_pick true ds ds' rest = rest
  alike_pick false ds ds' rest = Forall₂.nil

  -- screens of kinds that do the same, one by one, have cells that are alike
  pub alike_cells : (left : Dots) (p : Pen) (kinds kinds' : List Kind) → Forall₂ (SameKind dots dots') kinds kinds' → Forall₂ (Alike dots dots') (cells_from left kinds p) (cells_from left kinds' p)
  unfolding cells_from
  alike_cells left p kinds kinds' Forall₂.nil = Forall₂.nil
  alike_cells left p kinds kinds' (Forall₂.cons {a = kd} {b = kd'} {l₁ = ks} {l₂ = ks'} same rest) =
      rw (same.goes, same.moves left p)
      (alike_append _ _ _ _ (same.cells p.x p.y p.size p.background) (alike_pick (goes_on kd') _ _ (alike_cells left (after_word left kd' p) ks ks' rest)))

-- no cell stands left of where rows start, and none above the pen
module _ (v : View) (left : Dots) (k : ℕ) where
  Before : Pen → Type 0
  Before p = ((k < left.0) × (left.0 ≤ p.x.0)) ⊎ (v.line.0 < p.y.0)

  before_after : (kd : Kind) (p : Pen) → Before p → Before (after_word left kd p)
  unfolding after_word Before
  before_after (Character colour code blink) p b = ⊎_elim (λ h. inl (h.0, omega arith)) (λ h. inr h) b
  before_after (Space own) p b = ⊎_elim (λ h. inl (h.0, omega arith)) (λ h. inr h) b
  before_after (Return next spacing) p b = ⊎_elim (λ h. inl (h.0, omega arith)) (λ h. inr (omega arith)) b
  before_after End p b = b

  before_has : (kinds : List Kind) (p : Pen) → Before p → any_of (has v k) (cells_from left kinds p) ≡ false
  unfolding Before
  before_has =
      none_from left (has v k) Before
      (λ p back shows b. ⊎_elim (λ h. cell_beside 12 18 v.line.0 k p.x.0 p.y.0 p.size (omega arith)) (λ h. cell_below 12 18 v.line.0 k p.x.0 p.y.0 p.size h) b) before_after

  before_throws : (dots : Drawn) (kinds : List Kind) (p : Pen) → Before p → any_of (throws dots v k) (cells_from left kinds p) ≡ false
  unfolding Before
  before_throws dots = none_from left (throws dots v k) Before (λ p back shows b. throws_not dots v k _ (λ r. ⊎_elim (λ h. omega arith) (λ h. omega arith) b)) before_after

-- a dot left of 4h, and each dot of a line above 4v, is outside, and in no shadow
pub outside_left_above : (kinds : List Kind) (dots : Drawn) (s : Settings) (frame : ℕ) (line : Lines) (k : ℕ) → (k < 4 * s.h) ⊎ (line.0 < 4 * s.v)
    → dot_at dots (view_of s frame line) s.colour (screen_of kinds s) k ≡ ground_byte s.mode false false s.colour
unfolding dot_at Before
outside_left_above kinds dots s frame line k b =
    let v = view_of s frame line in
    let p = row_pen (first_dot s) (first_line s) 1 s.colour in
    let at : ((k < 4 * s.h) × (4 * s.h ≤ 4 * s.h)) ⊎ (line.0 < 4 * s.v) = ⊎_elim (λ h. inl (h, omega arith)) (λ h. inr h) b in
    ap (shaded_dot dots v s.colour (screen_of kinds s) k) (before_throws v (first_dot s) k dots kinds p at)
    ∙ first_of_none (has v k) (cell_dot dots v false k) (screen_of kinds s) (ground_byte s.mode false false s.colour) (before_has v (first_dot s) k kinds p at)
