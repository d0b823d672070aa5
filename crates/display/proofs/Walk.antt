-- The walk along a row, dot by dot: painting a cell, and then the cells after it with what it throws on the first of them, paints the account's list of cells. And the
-- walk past the rows above the line.
-- Assumes nothing.
use mathlib.Core.Path.{◌≡◌, refl, sym, ap, subst, ◌∙◌}
use mathlib.Core.Bool.{Bool, true, false, true≢false}
use mathlib.Core.Logic.{⊎_elim}
use mathlib.Core.List.{List, [], ◌∷◌}
use Prim.Native.Nat.{ℕ, ◌+◌, ◌-◌, ◌*◌, ◌/◌, ◌<◌, ◌≤◌}
use native.Mathlib.Omega.{arith}
use borrow.Author.Tests.{eqb-true, eq-eqb}
use lib.Dec.{eqb}
use Rattle.laws.specs.Pick.{pick, both, either}
use Rattle.laws.specs.Lines.{first_shown, any_of}
use Rattle.laws.specs.Placing.{span_has}
use Rattle.laws.proofs.Both.{none_right, both_none, either_none, fails_unless}
use Rattle.laws.proofs.Holders.{first_of_none, first_past, first_alike_shown}
use Rattle.laws.proofs.Placing.{span_in, span_has_law, span_before, cell_above, cell_in_row, past_cell, part_at}
use Rattle.laws.proofs.Scan.{split}
use Rattle.font.specs.Font.{rows_of_cell, bit_set, font_dot}
use Rattle.units.specs.declared.Dots.{Dots}
use Rattle.display.specs.declared.Kind.{Kind}
use Rattle.display.specs.declared.Kind.TheVariants.{Character, Space, Return, End}
use Rattle.stretch.specs.Stretch.{shade_set}
use Rattle.display.specs.declared.View.{View}
use Rattle.display.specs.declared.Pen.{Pen}
use Rattle.display.specs.Cells.{Cell, character, kind_cell, right_of, after_word, cells_from}
use Rattle.display.specs.Picture.{Drawn, has, throws, shadow_of, cell_dot}
use Rattle.display.specs.Steps.{fallen, painted_in, painted, on_first, above_row, end_of, drawn_dot, Cut}
use Rattle.display.proofs.Join.{PenPast, none_has, none_throws}
use Rattle.display.proofs.Shadow.{Reached, throws_not, shade_at, dot_plain}
use Rattle.display.proofs.Stretched.{row_within}

module _ (dots : Drawn) (v : View) (k : ℕ) where
  -- in other modes than 1 a shadow changes nothing
  fallen_plain : (shaded : Bool) (old : ℕ) → eqb v.mode 1 ≡ false → fallen v shaded old ≡ old
  fallen_plain shaded old other = simp other

  painted_plain : (cs : List Cell) (old : ℕ) (s t : Bool) → eqb v.mode 1 ≡ false → painted_in dots v cs k old s ≡ painted_in dots v cs k old t
  painted_plain cs old s t other =
      first_alike_shown (has v k) (cell_dot dots v s k) (cell_dot dots v t k) cs (fallen v s old) (λ c. dot_plain dots v s k c other ∙ sym (dot_plain dots v t k c other))
      ∙ ap (first_shown (has v k) (cell_dot dots v t k) cs) (fallen_plain s old other ∙ sym (fallen_plain t old other))

  -- cells that have nothing to do with the dot
  pub painted_none : (cs : List Cell) (before : Bool) (old : ℕ) → any_of (has v k) cs ≡ false → any_of (throws dots v k) cs ≡ false → painted dots v before cs k old ≡ fallen v before old
  painted_none cs before old none dark =
      ap (λ (t : Bool). painted_in dots v cs k old (either before t)) dark
      ∙ ap (painted_in dots v cs k old) (either_none before)
      ∙ first_of_none (has v k) (cell_dot dots v before k) cs (fallen v before old) none

  fallen_none : (old : ℕ) → fallen v false old ≡ old
  fallen_none old = ap (λ (t : Bool). pick t 8 old) (both_none (eqb v.mode 1))

  pub painted_quiet : (cs : List Cell) (old : ℕ) → any_of (has v k) cs ≡ false → any_of (throws dots v k) cs ≡ false → painted dots v false cs k old ≡ old
  painted_quiet cs old none dark = painted_none cs false old none dark ∙ fallen_none old

  -- a cell that has the dot, before cells that have nothing to do with it
  module _ (c : Cell) (cs : List Cell) (before : Bool) (old : ℕ) where
    pub walk_here : has v k c ≡ true → any_of (has v k) cs ≡ false → any_of (throws dots v k) cs ≡ false
        → painted dots v false cs k (drawn_dot dots v k before c old) ≡ painted dots v before (c ∷ cs) k old
    unfolding first_shown any_of
    walk_here here none dark =
        painted_quiet cs (drawn_dot dots v k before c old) none dark
        ∙ rw (here, dark, either_none (throws dots v k c))

    -- one that does not have it, and hands over what it throws
    walk_by : (t : Bool) → eqb v.mode 1 ≡ t → (next : Bool) → has v k c ≡ false → before ≡ false → (v.mode ≡ 1 → throws dots v k c ≡ next)
        → painted dots v next cs k old ≡ painted dots v before (c ∷ cs) k old
    unfolding first_shown any_of
    walk_by true in_1 next away clear hands =
        subst (λ (b : Bool). painted dots v next cs k old ≡ painted dots v b (c ∷ cs) k old) (sym clear)
        (sym (first_past (has v k) (cell_dot dots v (any_of (throws dots v k) (c ∷ cs)) k) c cs _ away
        ∙ ap (λ (t : Bool). painted_in dots v cs k old (either t (any_of (throws dots v k) cs))) (hands (eqb-true _ _ in_1))))
    walk_by false other next away clear hands =
        subst (λ (b : Bool). painted dots v next cs k old ≡ painted dots v b (c ∷ cs) k old) (sym clear)
        (painted_plain cs old (either next (any_of (throws dots v k) cs)) (any_of (throws dots v k) (c ∷ cs)) other
        ∙ sym (first_past (has v k) (cell_dot dots v (any_of (throws dots v k) (c ∷ cs)) k) c cs _ away))

    pub walk_away : (next : Bool) → has v k c ≡ false → before ≡ false → (v.mode ≡ 1 → throws dots v k c ≡ next)
        → painted dots v next cs k (drawn_dot dots v k before c old) ≡ painted dots v before (c ∷ cs) k old
    walk_away next away clear hands =
        ap (λ (t : Bool). painted dots v next cs k (pick t (cell_dot dots v (either before (throws dots v k c)) k c) old)) away ∙ walk_by (eqb v.mode 1) refl next away clear hands

  -- one that has nothing to do with it
  pub walk_past : (c : Cell) (cs : List Cell) (before : Bool) (old : ℕ) → has v k c ≡ false → throws dots v k c ≡ false → painted dots v before (c ∷ cs) k old ≡ painted dots v before cs k old
  unfolding any_of
  walk_past c cs before old away dark =
      first_past (has v k) (cell_dot dots v (either before (any_of (throws dots v k) (c ∷ cs))) k) c cs _ away
      ∙ ap (λ (t : Bool). painted_in dots v cs k old (either before (either t (any_of (throws dots v k) cs)))) dark

  -- the end of a row
  pub row_end : (p : Pen) (thrown : Bool) (old : ℕ) → (thrown ≡ true → v.mode ≡ 1) → fallen v (on_first p.x p.size thrown k) old ≡ end_of p.x p.size thrown k old
  row_end p true old only = let in_1 : eqb v.mode 1 ≡ true = eq-eqb _ _ (only refl) in simp in_1
  row_end p false old only = fallen_none old

  -- a cell at the pen in the row that the line cuts, and the cells after it
  module _ (left : Dots) (p : Pen) (cut : Cut v p) (some : 1 ≤ p.size) (c : Cell) (ex : c.left ≡ p.x) (ey : c.top ≡ p.y) (es : c.size ≡ p.size) (back : ℕ) (kinds : List Kind) (thrown next : Bool) (old : ℕ)
      (hands : v.mode ≡ 1 → p.x.0 + 12 * p.size ≤ k → k < p.x.0 + 13 * p.size → throws dots v k c ≡ next) where
    in_row : has v k c ≡ span_has p.x.0 (12 * p.size) k
    in_row = rw (ex, ey, es) (cell_in_row 12 18 v.line.0 k p.x.0 p.y.0 p.size cut.from cut.to)

    step_here : has v k c ≡ true
        → painted dots v (on_first (right_of p back).x p.size next k) (cells_from left kinds (right_of p back)) k (drawn_dot dots v k (on_first p.x p.size thrown k) c old)
        ≡ painted dots v (on_first p.x p.size thrown k) (c ∷ cells_from left kinds (right_of p back)) k old
    step_here e =
        let h = span_has_law p.x.0 (12 * p.size) k (sym in_row ∙ e) in
        let past : PenPast v left k (right_of p back) = past_cell 12 18 v.line.0 k p.x.0 p.y.0 p.size (rw (ex, ey, es) at e) in
        ap (λ (t : Bool). painted dots v t (cells_from left kinds (right_of p back)) k (drawn_dot dots v k (on_first p.x p.size thrown k) c old))
        (none_right next _ (span_before (p.x.0 + 12 * p.size) p.size k h.1))
        ∙ walk_here c (cells_from left kinds (right_of p back)) (on_first p.x p.size thrown k) old e (none_has v left k kinds (right_of p back) past) (none_throws v left k dots kinds (right_of p back) past)

    handed : v.mode ≡ 1 → span_has p.x.0 (12 * p.size) k ≡ false → throws dots v k c ≡ on_first (right_of p back).x p.size next k
    handed one away = go (span_has (p.x.0 + 12 * p.size) p.size k) refl
      where
        go : (t : Bool) → span_has (p.x.0 + 12 * p.size) p.size k ≡ t → throws dots v k c ≡ both next t
        go true e = let h = span_has_law (p.x.0 + 12 * p.size) p.size k e in hands one h.0 (omega arith) ∙ sym (keep next)
          where
            keep : (t : Bool) → both t true ≡ t
            keep true = refl
            keep false = refl
        go false e = throws_not dots v k c (λ r. outside r) ∙ sym (both_none next)
          where
            outside : Reached v k c → ⊥
            outside r =
                let across : p.x.0 + p.size ≤ k = rw (ex, es) at r.across in
                let end : k < p.x.0 + 13 * p.size = rw (ex, es) at r.end in
                ⊎_elim
                (λ (far : p.x.0 + 12 * p.size ≤ k). absurd (true≢false (sym (span_in (p.x.0 + 12 * p.size) p.size k far (omega arith)) ∙ e)))
                (λ (near : k < p.x.0 + 12 * p.size). absurd (true≢false (sym (span_in p.x.0 (12 * p.size) k (omega arith) near) ∙ away)))
                (split (p.x.0 + 12 * p.size) k)

    clear : span_has p.x.0 (12 * p.size) k ≡ false → on_first p.x p.size thrown k ≡ false
    clear away = none_right thrown _ (fails_unless (span_has p.x.0 p.size k) (λ e. let h = span_has_law p.x.0 p.size k e in
        true≢false (sym (span_in p.x.0 (12 * p.size) k h.0 (omega arith)) ∙ away)))

    pub step_cell : painted dots v (on_first (right_of p back).x p.size next k) (cells_from left kinds (right_of p back)) k (drawn_dot dots v k (on_first p.x p.size thrown k) c old)
        ≡ painted dots v (on_first p.x p.size thrown k) (c ∷ cells_from left kinds (right_of p back)) k old
    step_cell = go (has v k c) refl
      where
        go : (t : Bool) → has v k c ≡ t
            → painted dots v (on_first (right_of p back).x p.size next k) (cells_from left kinds (right_of p back)) k (drawn_dot dots v k (on_first p.x p.size thrown k) c old)
            ≡ painted dots v (on_first p.x p.size thrown k) (c ∷ cells_from left kinds (right_of p back)) k old
        go true e = step_here e
        go false e =
            let away = sym in_row ∙ e in
            walk_away c (cells_from left kinds (right_of p back)) (on_first p.x p.size thrown k) old (on_first (right_of p back).x p.size next k) e (clear away) (λ one. handed one away)

-- what a character's last column throws on the next, in mode 1
pub hands_character : (font : List ℕ) (v : View) (k : ℕ) (p : Pen) (cut : Cut v p) (colour code : ℕ) (blink : Bool) → v.mode ≡ 1 → p.x.0 + 12 * p.size ≤ k → k < p.x.0 + 13 * p.size
    → throws (font_dot font) v k (record { left = p.x; top = p.y; size = p.size; background = p.background; shows = character colour code blink })
    ≡ bit_set (above_row font v code blink ((v.line.0 - p.y.0) / p.size)) 11
unfolding shadow_of
hands_character font v k p cut colour code blink one lo hi =
    let j : ℕ = (k - p.x.0) / p.size in
    let last : j ≡ 12 = part_at 12 p.size (k - p.x.0) (omega arith) (omega arith) in
    shade_at font v code blink ((v.line.0 - p.y.0) / p.size) j one (row_within v p cut) (omega arith)
    ∙ ap (shade_set (above_row font v code blink ((v.line.0 - p.y.0) / p.size)) false) last

-- the walk past a row above the line: where its cells stand does not matter
module _ (dots : Drawn) (v : View) (left : Dots) (k old : ℕ) where
  abbrev Above : Pen → Type 0
  Above p = p.y.0 + rows_of_cell * p.size ≤ v.line.0

  past_cell_above : (c : Cell) (cs : List Cell) → c.top.0 + rows_of_cell * c.size ≤ v.line.0 → painted dots v false (c ∷ cs) k old ≡ painted dots v false cs k old
  past_cell_above c cs above =
      walk_past dots v k c cs false old (cell_above 12 18 v.line.0 k c.left.0 c.top.0 c.size above) (throws_not dots v k c (λ r. omega arith))

  abbrev Same : List Kind → Pen → Pen → Type 0
  Same kinds p q = painted dots v false (cells_from left kinds p) k old ≡ painted dots v false (cells_from left kinds q) k old

  abbrev pub moved : Pen → Dots → ℕ → Pen
  moved p x back = record { x = x; y = p.y; size = p.size; background = back }

  any_kind : (kd : Kind) (kinds : List Kind) (p : Pen) (x x' : Dots) → Above p → ((y y' : Dots) (back : ℕ) → Same kinds (moved p y back) (moved p y' back)) → Same (kd ∷ kinds) (moved p x p.background) (moved p x' p.background)
  unfolding cells_from kind_cell after_word
  any_kind (Character colour code blink) kinds p x x' above rest =
      past_cell_above _ (cells_from left kinds (right_of (moved p x p.background) p.background)) above
      ∙ rest _ _ p.background
      ∙ sym (past_cell_above _ (cells_from left kinds (right_of (moved p x' p.background) p.background)) above)
  any_kind (Space own) kinds p x x' above rest =
      past_cell_above _ (cells_from left kinds (right_of (moved p x p.background) own)) above
      ∙ rest _ _ own
      ∙ sym (past_cell_above _ (cells_from left kinds (right_of (moved p x' p.background) own)) above)
  any_kind (Return next spacing) kinds p x x' above rest = refl
  any_kind End kinds p x x' above rest = refl

  anywhere : (kinds : List Kind) (p : Pen) (x x' : Dots) (back : ℕ) → Above p → Same kinds (moved p x back) (moved p x' back)
  unfolding cells_from
  anywhere [] p x x' back above = refl
  anywhere (kd ∷ kinds) p x x' back above = any_kind kd kinds (record { x = x; y = p.y; size = p.size; background = back }) x x' above (λ y y' b. anywhere kinds p y y' b above)

  -- a word of such a row
  pub passed_character : (colour code : ℕ) (blink : Bool) (kinds : List Kind) (p : Pen) → Above p → painted dots v false (cells_from left (Character colour code blink ∷ kinds) p) k old ≡ painted dots v false (cells_from left kinds p) k old
  unfolding cells_from kind_cell after_word
  passed_character colour code blink kinds p above = past_cell_above _ (cells_from left kinds (right_of p p.background)) above ∙ anywhere kinds p _ p.x p.background above

  pub passed_space : (own : ℕ) (kinds : List Kind) (p : Pen) → Above p → painted dots v false (cells_from left (Space own ∷ kinds) p) k old ≡ painted dots v false (cells_from left kinds (moved p p.x own)) k old
  unfolding cells_from kind_cell after_word
  passed_space own kinds p above = past_cell_above _ (cells_from left kinds (right_of p own)) above ∙ anywhere kinds p _ p.x own above
