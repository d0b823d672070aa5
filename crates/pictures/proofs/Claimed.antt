-- The claims of M-101. Of the cells of a screen each later one stands right of an earlier one in its row, or in a row below: so of those before a cell only the next to it
-- can throw a shadow on it, and of those after it none.
-- Assumes nothing.
use mathlib.Core.Path.{◌≡◌, refl, sym, ap, subst, ◌∙◌}
use mathlib.Core.Bool.{Bool, true, false, false≢true}
use mathlib.Core.Logic.{◌⊎◌, inl, inr, ⊎_elim}
use mathlib.Core.List.{List, [], ◌∷◌, ◌++◌}
use Prim.Native.Nat.{ℕ, ◌+◌, ◌*◌, ◌<◌, ◌≤◌}
use native.Mathlib.Omega.{arith}
use borrow.Author.Tests.{ne_eqb}
use lib.Dec.{eqb}
use Rattle.laws.specs.Pick.{pick, both, either}
use Rattle.laws.specs.Lines.{first_shown, any_of}
use Rattle.laws.proofs.Both.{both_none, fails_unless}
use Rattle.laws.proofs.Holders.{first_of_none, first_past, first_alike_shown}
use Rattle.laws.proofs.Placing.{span_in, cell_has_law, cell_in_row, cell_above}
use Rattle.laws.proofs.Scan.{split}
use Rattle.font.specs.Font.{rows_of_cell, cell_columns}
use Rattle.modes.specs.Modes.{ground_byte}
use Rattle.units.specs.declared.Dots.{Dots}
use Rattle.units.specs.declared.Lines.{Lines}
use Rattle.display.specs.declared.Kind.{Kind}
use Rattle.display.specs.declared.Kind.TheVariants.{Character, Space, Return, End}
use Rattle.display.specs.declared.View.{View}
use Rattle.display.specs.declared.Pen.{Pen}
use Rattle.display.specs.Cells.{Cell, Shown, character, space, kind_cell, right_of, below_row, row_pen, after_word, goes_on, cells_from}
use Rattle.display.specs.Picture.{Drawn, lit_at, row_in, column_in, has, throws, shown_dot, cell_dot, shaded_dot, dot_at}
use Rattle.display.proofs.Shadow as shadow
use Rattle.display.proofs.Shadow.{throws_not, ground_plain, dot_plain}
use Rattle.pictures.specs.Claims.{Reach, OnTwoCells, OnFirstCell, OnRowsFirst, OnOneOutside, AfterLast, OnNoneOutside, NoShadowElsewhere, in_mode, OverMode0}

-- each of a list
EachOf : (Cell → Type 0) → List Cell → Type 0
EachOf Is [] = Unit
EachOf Is (c ∷ cs) = Is c × EachOf Is cs

each_so : (Is Was : Cell → Type 0) → ((c : Cell) → Was c → Is c) → (cs : List Cell) → EachOf Was cs → EachOf Is cs
unfolding EachOf
each_so Is Was so [] h = tt
each_so Is Was so (c ∷ cs) h = (so c h.0, each_so Is Was so cs h.1)

-- a cell stands at the pen or after it: in a row below, or in its row and not left of it
abbrev AtPen : Pen → Cell → Type 0
AtPen p c = (p.y.0 + rows_of_cell * p.size ≤ c.top.0) ⊎ ((c.top ≡ p.y) × ((c.size ≡ p.size) × (p.x.0 ≤ c.left.0)))

-- after another cell: in a row below, or right of it in its row
abbrev After : Cell → Cell → Type 0
After b c = (b.top.0 + rows_of_cell * b.size ≤ c.top.0) ⊎ ((c.top ≡ b.top) × ((c.size ≡ b.size) × (b.left.0 + cell_columns * b.size ≤ c.left.0)))

-- each cell after all those before it
Sorted : List Cell → Type 0
Sorted [] = Unit
Sorted (c ∷ cs) = EachOf (After c) cs × Sorted cs

module _ (left : Dots) where
  right_at : (p : Pen) (back : ℕ) (c : Cell) → AtPen (right_of p back) c → AtPen p c
  right_at p back c h = ⊎_elim (λ below. inl below) (λ beside. inr (beside.0, (beside.1.0, omega arith))) h

  below_at : (p : Pen) (next back : ℕ) (spacing : Lines) (c : Cell) → AtPen (row_pen left (below_row p.y p.size spacing) next back) c → AtPen p c
  below_at p next back spacing c h = ⊎_elim (λ below. inl (omega arith)) (λ beside. let e = ap (λ (t : Lines). t.0) beside.0 in inl (omega arith)) h

  at_kind : (kd : Kind) (kinds : List Kind) (p : Pen) → ((next : Pen) → EachOf (AtPen next) (cells_from left kinds next))
      → EachOf (AtPen p) (kind_cell p.x p.y p.size p.background kd ++ pick (goes_on kd) (cells_from left kinds (after_word left kd p)) [])
  unfolding EachOf kind_cell after_word
  at_kind (Character colour code blink) kinds p rest =
      let next = right_of p p.background in
      (inr (refl, (refl, omega arith)), each_so (AtPen p) (AtPen next) (right_at p p.background) (cells_from left kinds next) (rest next))
  at_kind (Space own) kinds p rest =
      let next = right_of p own in
      (inr (refl, (refl, omega arith)), each_so (AtPen p) (AtPen next) (right_at p own) (cells_from left kinds next) (rest next))
  at_kind (Return size spacing) kinds p rest =
      let next = row_pen left (below_row p.y p.size spacing) size p.background in
      each_so (AtPen p) (AtPen next) (below_at p size p.background spacing) (cells_from left kinds next) (rest next)
  at_kind End kinds p rest = tt

  at_pen : (kinds : List Kind) (p : Pen) → EachOf (AtPen p) (cells_from left kinds p)
  unfolding EachOf cells_from
  at_pen [] p = tt
  at_pen (kd ∷ kinds) p = at_kind kd kinds p (λ next. at_pen kinds next)

  sorted_kind : (kd : Kind) (kinds : List Kind) (p : Pen) → ((next : Pen) → Sorted (cells_from left kinds next))
      → Sorted (kind_cell p.x p.y p.size p.background kd ++ pick (goes_on kd) (cells_from left kinds (after_word left kd p)) [])
  unfolding Sorted kind_cell after_word
  sorted_kind (Character colour code blink) kinds p rest = let next = right_of p p.background in (at_pen kinds next, rest next)
  sorted_kind (Space own) kinds p rest = let next = right_of p own in (at_pen kinds next, rest next)
  sorted_kind (Return size spacing) kinds p rest = rest (row_pen left (below_row p.y p.size spacing) size p.background)
  sorted_kind End kinds p rest = tt

  sorted : (kinds : List Kind) (p : Pen) → Sorted (cells_from left kinds p)
  unfolding Sorted cells_from
  sorted [] p = tt
  sorted (kd ∷ kinds) p = sorted_kind kd kinds p (λ next. sorted kinds next)

-- of three cells in their order, each stands after the one before it
both_after : (a : Cell) (before : List Cell) (b c : Cell) (after : List Cell) → EachOf (After a) (before ++ (b ∷ c ∷ after)) → Sorted (before ++ (b ∷ c ∷ after)) → After a b × After b c
unfolding EachOf Sorted
both_after a [] b c after each s = (each.0, s.0.0)
both_after a (x ∷ before) b c after each s = both_after a before b c after each.1 s.1

next_after : (before : List Cell) (b c : Cell) (after : List Cell) → Sorted (before ++ (b ∷ c ∷ after)) → After b c
unfolding EachOf Sorted
next_after [] b c after s = s.0.0
next_after (x ∷ before) b c after s = next_after before b c after s.1

module _ (dots : Drawn) (v : View) (start k : ℕ) where
  -- a cell that has nothing to do with the dot
  skip : (c : Cell) (cs : List Cell) → has v k c ≡ false → throws dots v k c ≡ false → dot_at dots v start (c ∷ cs) k ≡ dot_at dots v start cs k
  unfolding dot_at any_of
  skip c cs away dark =
      first_past (has v k) (cell_dot dots v (any_of (throws dots v k) (c ∷ cs)) k) c cs _ away
      ∙ ap (λ (t : Bool). shaded_dot dots v start cs k (either t (any_of (throws dots v k) cs))) dark

  -- none of these has to do with it
  none : (test : Cell → Bool) (Is : Cell → Type 0) → ((c : Cell) → Is c → test c ≡ false) → (cs : List Cell) → EachOf Is cs → any_of test cs ≡ false
  unfolding EachOf any_of
  none test Is so [] h = refl
  none test Is so (c ∷ cs) h = rw (so c h.0) (none test Is so cs h.1)

  module _ (c : Cell) (here : has v k c ≡ true) where
    at : ((c.top.0 ≤ v.line.0) × (v.line.0 < c.top.0 + rows_of_cell * c.size)) × ((c.left.0 ≤ k) × (k < c.left.0 + cell_columns * c.size))
    at = cell_has_law cell_columns rows_of_cell v.line.0 k c.left.0 c.top.0 c.size here

    later_throws : (d : Cell) → After c d → throws dots v k d ≡ false
    later_throws d h = let i = at in throws_not dots v k d (λ r. ⊎_elim (λ below. omega arith) (λ beside. omega arith) h)

    -- one that stands before another that stands before it
    earlier : (a b : Cell) → After a b → After b c → (has v k a ≡ false) × (throws dots v k a ≡ false)
    earlier a b ab bc =
        let i = at in
        ⊎_elim
        (λ (below : a.top.0 + 18 * a.size ≤ b.top.0).
        let above : a.top.0 + 18 * a.size ≤ v.line.0 = ⊎_elim (λ (under : b.top.0 + 18 * b.size ≤ c.top.0). omega arith) (λ beside. let e = ap (λ (t : Lines). t.0) beside.0 in omega arith) bc in
        (cell_above 12 18 v.line.0 k a.left.0 a.top.0 a.size above, throws_not dots v k a (λ r. omega arith)))
        (λ beside. ⊎_elim
        (λ (under : b.top.0 + 18 * b.size ≤ c.top.0).
        let e = ap (λ (t : Lines). t.0) beside.0 in
        let s = beside.1.0 in
        let above : a.top.0 + 18 * a.size ≤ v.line.0 = omega arith in
        (cell_above 12 18 v.line.0 k a.left.0 a.top.0 a.size above, throws_not dots v k a (λ r. omega arith)))
        (λ beside'. away a b beside beside')
        bc)
        ab
      where
        away : (a b : Cell) → (b.top ≡ a.top) × ((b.size ≡ a.size) × (a.left.0 + cell_columns * a.size ≤ b.left.0)) → (c.top ≡ b.top) × ((c.size ≡ b.size) × (b.left.0 + cell_columns * b.size ≤ c.left.0))
            → (has v k a ≡ false) × (throws dots v k a ≡ false)
        away a b h g =
            let i = at in
            let s : b.size ≡ a.size = h.1.0 in
            let far : a.left.0 + 12 * a.size + 12 * a.size ≤ k = omega arith in
            (fails_unless (has v k a) (λ e. let j = cell_has_law 12 18 v.line.0 k a.left.0 a.top.0 a.size e in omega arith), throws_not dots v k a (λ r. omega arith))

  -- cells after a cell that has the dot
  ends : (b c : Cell) (after : List Cell) → has v k c ≡ true → any_of (throws dots v k) after ≡ false → dot_at dots v start (b ∷ c ∷ after) k ≡ dot_at dots v start (b ∷ c ∷ []) k
  unfolding dot_at first_shown any_of
  ends b c after here dark = rw (here, dark)

  ends_first : (c : Cell) (after : List Cell) → has v k c ≡ true → any_of (throws dots v k) after ≡ false → dot_at dots v start (c ∷ after) k ≡ dot_at dots v start (c ∷ []) k
  unfolding dot_at first_shown any_of
  ends_first c after here dark = rw (here, dark)

  -- cells before those two
  two : (before : List Cell) (b c : Cell) (after : List Cell) → has v k c ≡ true → Sorted (before ++ (b ∷ c ∷ after)) → dot_at dots v start (before ++ (b ∷ c ∷ after)) k ≡ dot_at dots v start (b ∷ c ∷ []) k
  unfolding Sorted EachOf
  two [] b c after here s =
      ends b c after here (none (throws dots v k) (After c) (later_throws c here) after s.1.0)
  two (a ∷ before) b c after here s =
      let parts = both_after a before b c after s.0 s.1 in
      let e = earlier c here a b parts.0 parts.1 in
      skip a (before ++ (b ∷ c ∷ after)) e.0 e.1 ∙ two before b c after here s.1

pub on_two_cells : OnTwoCells
on_two_cells dots v start k left kinds p before b c after are here =
    ap (λ (cs : List Cell). dot_at dots v start cs k) are ∙ two dots v start k before b c after here (subst Sorted are (sorted left kinds p))

pub on_first_cell : OnFirstCell
unfolding Sorted
on_first_cell dots v start k left kinds p c after are here =
    let s : Sorted (c ∷ after) = subst Sorted are (sorted left kinds p) in
    ap (λ (cs : List Cell). dot_at dots v start cs k) are
    ∙ ends_first dots v start k c after here (none dots v start k (throws dots v k) (After c) (later_throws dots v start k c here) after s.0)

pub reach : Reach
reach dots v k c thrown = let r = shadow.reach dots v k c thrown in ((r.down, r.bottom), (r.across, r.end))

pub on_rows_first : OnRowsFirst
unfolding dot_at first_shown any_of
on_rows_first dots v start k left kinds p before b c after are here other =
    let i = at dots v start k c here in
    let follows = next_after before b c after (subst Sorted are (sorted left kinds p)) in
    let above : b.top.0 + 18 * b.size ≤ c.top.0 = ⊎_elim (λ (below : b.top.0 + 18 * b.size ≤ c.top.0). below) (λ beside. absurd (other (sym beside.0))) follows in
    on_two_cells dots v start k left kinds p before b c after are here
    ∙ skip dots v start k b (c ∷ []) (cell_above 12 18 v.line.0 k b.left.0 b.top.0 b.size (omega arith)) (throws_not dots v k b (λ r. omega arith))

-- the first of a list of cells stands at the pen, or in a row below
FirstAt : Pen → List Cell → Type 0
FirstAt p [] = Unit
FirstAt p (c ∷ cs) = (p.y.0 + rows_of_cell * p.size ≤ c.top.0) ⊎ ((c.top ≡ p.y) × ((c.size ≡ p.size) × (c.left ≡ p.x)))

-- each cell is next to the one before it, or in a row below
Chained : List Cell → Type 0
Chained [] = Unit
Chained (b ∷ cs) = FirstAt (record { x = record { 0 = b.left.0 + cell_columns * b.size }; y = b.top; size = b.size; background = b.background }) cs × Chained cs

module _ (left : Dots) where
  first_below : (p : Pen) (next back : ℕ) (spacing : Lines) (cs : List Cell) → FirstAt (row_pen left (below_row p.y p.size spacing) next back) cs → FirstAt p cs
  unfolding FirstAt
  first_below p next back spacing [] h = tt
  first_below p next back spacing (c ∷ cs) h = ⊎_elim (λ below. inl (omega arith)) (λ at. let e = ap (λ (t : Lines). t.0) at.0 in inl (omega arith)) h

  first_kind : (kd : Kind) (kinds : List Kind) (p : Pen) → ((next : Pen) → FirstAt next (cells_from left kinds next))
      → FirstAt p (kind_cell p.x p.y p.size p.background kd ++ pick (goes_on kd) (cells_from left kinds (after_word left kd p)) [])
  unfolding FirstAt kind_cell after_word
  first_kind (Character colour code blink) kinds p rest = inr (refl, (refl, refl))
  first_kind (Space own) kinds p rest = inr (refl, (refl, refl))
  first_kind (Return size spacing) kinds p rest =
      let next = row_pen left (below_row p.y p.size spacing) size p.background in first_below p size p.background spacing (cells_from left kinds next) (rest next)
  first_kind End kinds p rest = tt

  first_at : (kinds : List Kind) (p : Pen) → FirstAt p (cells_from left kinds p)
  unfolding FirstAt cells_from
  first_at [] p = tt
  first_at (kd ∷ kinds) p = first_kind kd kinds p (λ next. first_at kinds next)

  chained_kind : (kd : Kind) (kinds : List Kind) (p : Pen) → ((next : Pen) → Chained (cells_from left kinds next))
      → Chained (kind_cell p.x p.y p.size p.background kd ++ pick (goes_on kd) (cells_from left kinds (after_word left kd p)) [])
  unfolding Chained FirstAt kind_cell after_word
  chained_kind (Character colour code blink) kinds p rest = let next = right_of p p.background in (first_at kinds next, rest next)
  chained_kind (Space own) kinds p rest = let next = right_of p own in (first_at kinds next, rest next)
  chained_kind (Return size spacing) kinds p rest = rest (row_pen left (below_row p.y p.size spacing) size p.background)
  chained_kind End kinds p rest = tt

  chained : (kinds : List Kind) (p : Pen) → Chained (cells_from left kinds p)
  unfolding Chained cells_from
  chained [] p = tt
  chained (kd ∷ kinds) p = chained_kind kd kinds p (λ next. chained kinds next)

next_to : (before : List Cell) (b c : Cell) (after : List Cell) → Chained (before ++ (b ∷ c ∷ after))
    → (b.top.0 + rows_of_cell * b.size ≤ c.top.0) ⊎ ((c.top ≡ b.top) × ((c.size ≡ b.size) × (c.left ≡ record { 0 = b.left.0 + cell_columns * b.size })))
unfolding Chained FirstAt
next_to [] b c after s = s.0
next_to (x ∷ before) b c after s = next_to before b c after s.1

-- one of a list passes a test, or none does
any_there : (test : Cell → Bool) (before : List Cell) (b : Cell) (after : List Cell) → test b ≡ true → any_of test (before ++ (b ∷ after)) ≡ true
unfolding any_of
any_there test [] b after e = rw e
any_there test (x ∷ before) b after e = rw (any_there test before b after e) (go (test x))
  where
    go : (t : Bool) → either t true ≡ true
    go true = refl
    go false = refl

any_next : (test : Cell → Bool) (before : List Cell) (b c : Cell) (after : List Cell) → test c ≡ true → any_of test (before ++ (b ∷ c ∷ after)) ≡ true
unfolding any_of
any_next test [] b c after e = any_there test (b ∷ []) c after e
any_next test (x ∷ before) b c after e = rw (any_next test before b c after e) (go (test x))
  where
    go : (t : Bool) → either t true ≡ true
    go true = refl
    go false = refl

pub on_one_outside : OnOneOutside
unfolding dot_at any_of first_shown
on_one_outside dots v start k before b after outside thrown =
    let away = fails_unless (has v k b) (λ e. false≢true (sym outside ∙ any_there (has v k) before b after e)) in
    ap (shaded_dot dots v start (before ++ (b ∷ after)) k) (any_there (throws dots v k) before b after thrown)
    ∙ first_of_none (has v k) (cell_dot dots v true k) (before ++ (b ∷ after)) (ground_byte v.mode false true start) outside
    ∙ sym (rw (away, thrown))

pub after_last : AfterLast
after_last dots v k left kinds p before b c after are outside thrown same =
    let r = shadow.reach dots v k b thrown in
    let none : any_of (has v k) (before ++ (b ∷ c ∷ after)) ≡ false = ap (any_of (has v k)) (sym are) ∙ outside in
    let away : has v k b ≡ true → ⊥ = λ e. false≢true (sym none ∙ any_there (has v k) before b (c ∷ after) e) in
    let away' : has v k c ≡ true → ⊥ = λ e. false≢true (sym none ∙ any_next (has v k) before b c after e) in
    let et = ap (λ (t : Lines). t.0) same in
    ⊎_elim
    (λ (below : b.top.0 + 18 * b.size ≤ c.top.0). absurd (omega arith))
    (λ beside.
    let s = beside.1.0 in
    let ex = ap (λ (d : Dots). d.0) beside.1.1 in
    ⊎_elim
    (λ (right : b.left.0 + 12 * b.size ≤ k). away' (cell_in_row 12 18 v.line.0 k c.left.0 c.top.0 c.size (omega arith) (omega arith) ∙ span_in c.left.0 (12 * c.size) k (omega arith) (omega arith)))
    (λ (within : k < b.left.0 + 12 * b.size). away (cell_in_row 12 18 v.line.0 k b.left.0 b.top.0 b.size (omega arith) (omega arith) ∙ span_in b.left.0 (12 * b.size) k (omega arith) within))
    (split (b.left.0 + 12 * b.size) k))
    (next_to before b c after (subst Chained are (chained left kinds p)))

pub on_none_outside : OnNoneOutside
unfolding dot_at first_shown any_of
on_none_outside dots v start k cs outside dark =
    ap (shaded_dot dots v start cs k) dark ∙ first_of_none (has v k) (cell_dot dots v false k) cs (ground_byte v.mode false false start) outside

pub no_shadow_elsewhere : NoShadowElsewhere
unfolding dot_at
no_shadow_elsewhere dots v start cs k other =
    let shaded = any_of (throws dots v k) cs in
    let plain = ne_eqb v.mode 1 other in
    first_alike_shown (has v k) (cell_dot dots v shaded k) (cell_dot dots v false k) cs (ground_byte v.mode false shaded start) (λ c. dot_plain dots v shaded k c plain)
    ∙ ap (first_shown (has v k) (cell_dot dots v false k) cs) (ground_plain v.mode false shaded start plain)

module _ (dots : Drawn) (left : Dots) (line : Lines) (lit : Bool) (k : ℕ) (shaded other : Bool) where
  -- what mode 1 makes of a dot of mode 0
  abbrev over : ℕ → ℕ
  over dot = pick (both shaded (eqb dot 0)) 8 dot

  over_video : (t : Bool) → ground_byte 1 false t 0 ≡ pick (both t true) (ground_byte 1 false true 0) 0
  over_video true = refl
  over_video false = refl

  over_lit : (t : Bool) (colour : ℕ) → pick t (8 + colour) (pick shaded 8 0) ≡ over (pick t (8 + colour) 0)
  over_lit true colour =
      let some : eqb (8 + colour) 0 ≡ false = ne_eqb (8 + colour) 0 (λ z. omega (arith, z)) in
      sym (rw some (ap (λ (u : Bool). pick u 8 (8 + colour)) (both_none shaded)))
  over_lit false colour = over_video shaded

  over_shown : (c : Cell) (sh : Shown) → shown_dot dots (in_mode 1 left line lit) shaded k c sh ≡ over (shown_dot dots (in_mode 0 left line lit) other k c sh)
  unfolding shown_dot
  over_shown c (character colour code blink) = over_lit (lit_at dots (in_mode 0 left line lit) code blink (row_in (in_mode 0 left line lit) c) (column_in k c)) colour
  over_shown c space = over_video shaded

  over_first : (cs : List Cell) → first_shown (has (in_mode 1 left line lit) k) (cell_dot dots (in_mode 1 left line lit) shaded k) cs (pick shaded 8 0)
      ≡ over (first_shown (has (in_mode 0 left line lit) k) (cell_dot dots (in_mode 0 left line lit) other k) cs 0)
  unfolding first_shown
  over_first [] = over_video shaded
  over_first (c ∷ cs) = go (has (in_mode 0 left line lit) k c) (over_shown c c.shows) (over_first cs)
    where
      go : (t : Bool) → cell_dot dots (in_mode 1 left line lit) shaded k c ≡ over (cell_dot dots (in_mode 0 left line lit) other k c)
          → first_shown (has (in_mode 1 left line lit) k) (cell_dot dots (in_mode 1 left line lit) shaded k) cs (pick shaded 8 0)
          ≡ over (first_shown (has (in_mode 0 left line lit) k) (cell_dot dots (in_mode 0 left line lit) other k) cs 0)
          → pick t (cell_dot dots (in_mode 1 left line lit) shaded k c) (first_shown (has (in_mode 1 left line lit) k) (cell_dot dots (in_mode 1 left line lit) shaded k) cs (pick shaded 8 0))
          ≡ over (pick t (cell_dot dots (in_mode 0 left line lit) other k c) (first_shown (has (in_mode 0 left line lit) k) (cell_dot dots (in_mode 0 left line lit) other k) cs 0))
      go true here there = here
      go false here there = there

pub over_mode_0 : OverMode0
unfolding dot_at
over_mode_0 dots left line lit start cs k =
    over_first dots left line lit k (any_of (throws dots (in_mode 1 left line lit) k) cs) (any_of (throws dots (in_mode 0 left line lit) k) cs) cs
