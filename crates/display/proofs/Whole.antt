-- The line with the display on; and what a call leaves: an accepted one the line and the bytes after it, a refused one all as it was.
-- Assumes nothing.
use Rattle.std.proofs.Common.{Result, Ok}
use mathlib.Core.Path.{◌≡◌, sym, ap, ◌∙◌}
use mathlib.Core.Bool.{Bool, true, false}
use mathlib.Core.List.{List, ◌++◌}
use Prim.Native.Nat.{ℕ, ◌%◌, ◌≤◌}
use native.Mathlib.Omega.{arith}
use borrow.Author.Tests.{eq-eqb, ne_eqb}
use lib.ListN.{length, take, drop, replicate}
use lib.Seq.{length-take-le}
use Rattle.laws.specs.Said.{Said}
use Rattle.laws.specs.Lines.{overlay, first_shown, any_of}
use Rattle.laws.specs.Lists.{tabulate}
use Rattle.laws.proofs.Overlay.{overlay_filled}
use Rattle.laws.proofs.Lists.{tabulate_same, tabulate_constant}
use Rattle.font.specs.Font.{font_dot}
use Rattle.units.specs.declared.Dots.{Dots}
use Rattle.units.specs.declared.Lines.{Lines}
use Rattle.modes.specs.Modes.{video, ground_byte, lit_in}
use Rattle.judging.specs.declared.Settings.{Settings}
use Rattle.judging.specs.declared.PaintError.{PaintError}
use Rattle.judging.specs.Judging.{answer_of, said}
use Rattle.judging.proofs.Accepted.{accepted_ok, not_done}
use Rattle.display.specs.declared.View.{View}
use Rattle.display.specs.Words.{kinds_of}
use Rattle.display.specs.Cells.{Cell}
use Rattle.display.specs.Picture.{Drawn, has, throws, cell_dot, dot_at}
use Rattle.display.specs.Painting.{first_dot, screen_of, view_of, dot_of, line_of, left_by}
use Rattle.display.specs.Steps.{painted, Usable}
use Rattle.display.proofs.Shadow.{fallen_ground}

-- cells painted over what is outside every cell show what the account says
joined : (dots : Drawn) (v : View) (start : ℕ) (cs : List Cell) (k : ℕ) → painted dots v false cs k (ground_byte v.mode false false start) ≡ dot_at dots v start cs k
unfolding dot_at
joined dots v start cs k =
    let shaded = any_of (throws dots v k) cs in
    ap (first_shown (has v k) (cell_dot dots v shaded k) cs) (fallen_ground v shaded start)

-- a line of outside bytes, painted over by the cells in turn; of settings that are usable every bit counts
pub on_line : (words font : List ℕ) (s : Settings) (frame : ℕ) (line : Lines) (lit : Bool) (n other : ℕ) (mid last : List ℕ) → Usable words font s → lit ≡ lit_in (s.ratio % 4) (s.frequency % 4) frame
    → other ≡ ground_byte s.mode false false (s.colour % 8) → mid ≡ replicate n other
    → last ≡ overlay (painted (font_dot font) (record { left = first_dot s; line = line; mode = s.mode; lit = lit }) false (screen_of (kinds_of words) s)) mid
    → last ≡ tabulate n (dot_at (font_dot font) (view_of s frame line) s.colour (screen_of (kinds_of words) s))
on_line words font s frame line lit n other mid last usable blink shade filled walked =
    let colour : s.colour % 8 ≡ s.colour = omega (arith, usable.colour) in
    let ratio : s.ratio % 4 ≡ s.ratio = omega (arith, usable.ratio) in
    let frequency : s.frequency % 4 ≡ s.frequency = omega (arith, usable.frequency) in
    let view : Bool → View = λ b. record { left = first_dot s; line = line; mode = s.mode; lit = b } in
    let cs = screen_of (kinds_of words) s in
    walked
    ∙ ap (λ (t : List ℕ). overlay (painted (font_dot font) (view lit) false cs) t) (filled ∙ ap (λ (b : ℕ). replicate n b) (shade ∙ ap (ground_byte s.mode false false) colour))
    ∙ overlay_filled (painted (font_dot font) (view lit) false cs) (ground_byte s.mode false false s.colour) n
    ∙ tabulate_same n _ _ (λ k lt. joined (font_dot font) (view lit) s.colour cs k)
    ∙ ap (λ (b : Bool). tabulate n (dot_at (font_dot font) (view b) s.colour cs)) (blink ∙ ap (λ (q : ℕ). lit_in q (s.frequency % 4) frame) ratio ∙ ap (λ (q : ℕ). lit_in s.ratio q frame) frequency)

-- the first n bytes
pub part_there : (n : ℕ) (out : List ℕ) → n ≤ length out → n ≡ length (take n out)
part_there n out fits = sym (length-take-le n out fits)

-- what an accepted call has shown
module _ (words font : List ℕ) (s : Settings) (line : Lines) (width : Dots) (out : List ℕ) (r : Result (Unit {0}) PaintError) (e : said r ≡ answer_of words font s line width (length out)) (done : r ≡ Ok tt) where
  pub room_there : width.0 ≤ length out
  room_there = (accepted_ok words font s line width (length out) r e done).fits

  pub usable : Usable words font s
  usable =
      let acc = accepted_ok words font s line width (length out) r e done in
      record { words = acc.words64; rows = acc.rows; colour = acc.colour; h = acc.h; v = acc.v; ratio = acc.ratio; frequency = acc.frequency }

module _ (words font : List ℕ) (s : Settings) (frame : ℕ) (line : Lines) (width : Dots) (out : List ℕ) (r : Result (Unit {0}) PaintError) (e : said r ≡ answer_of words font s line width (length out)) where
  pub refused_leaves : (r ≡ Ok tt → ⊥) → out ≡ left_by words font s frame line width out
  unfolding left_by
  refused_leaves other =
      simp (ne_eqb (answer_of words font s line width (length out)).number 0 (λ z. not_done r other (ap (λ (a : Said). a.number) e ∙ z)))

  module _ (done : r ≡ Ok tt) (last : List ℕ) where
    leaves : last ≡ line_of (kinds_of words) (font_dot font) s frame line width → last ++ drop width.0 out ≡ left_by words font s frame line width out
    unfolding left_by
    leaves l =
        simp (eq-eqb (answer_of words font s line width (length out)).number 0 (ap (λ (a : Said). a.number) (sym e ∙ ap said done)))
        (ap (λ (t : List ℕ). t ++ drop width.0 out) l)

    pub shown : s.on ≡ true → last ≡ tabulate (length (take width.0 out)) (dot_at (font_dot font) (view_of s frame line) s.colour (screen_of (kinds_of words) s))
        → last ++ drop width.0 out ≡ left_by words font s frame line width out
    unfolding dot_of
    shown on l =
        leaves
        (l
        ∙ ap (λ (n : ℕ). tabulate n (dot_at (font_dot font) (view_of s frame line) s.colour (screen_of (kinds_of words) s))) (length-take-le width.0 out (room_there words font s line width out r e done))
        ∙ tabulate_same width.0 (dot_at (font_dot font) (view_of s frame line) s.colour (screen_of (kinds_of words) s)) (dot_of (kinds_of words) (font_dot font) s frame line) (λ k lt. simp on))

    pub dark : s.on ≡ false → last ≡ replicate (length (take width.0 out)) video → last ++ drop width.0 out ≡ left_by words font s frame line width out
    unfolding dot_of
    dark off l =
        leaves
        (l
        ∙ ap (λ (n : ℕ). replicate n video) (length-take-le width.0 out (room_there words font s line width out r e done))
        ∙ tabulate_constant video width.0
        ∙ tabulate_same width.0 (λ k. video) (dot_of (kinds_of words) (font_dot font) s frame line) (λ k lt. simp off))
