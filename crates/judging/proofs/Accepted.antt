-- What the tests of an accepted call show, and that no refusal has number 0.
-- Assumes nothing.
use Rattle.std.proofs.Common.{◌≡◌, ℕ, suc, ◌≤◌, Bool, true, false, not, leb, ltb, eqb, List, length, Result, Ok, Err, refl, sym, ap, ◌∙◌, leb-true, eqb-true, arith}
use Rattle.std.proofs.lemmas.Bool.{ltb-false, eqb-false, not-false}
use Rattle.laws.specs.Pick.{pick}
use Rattle.laws.specs.Said.{Said, accepted, refused}
use Rattle.laws.specs.Within.{within, first_row_above}
use Rattle.laws.proofs.Both.{both_parts}
use Rattle.font.specs.Font.{font_rows, most_row}
use Rattle.font.specs.declared.FontError.TheVariants.{Length, Row}
use Rattle.units.specs.declared.Dots.{Dots}
use Rattle.units.specs.declared.Lines.{Lines}
use Rattle.judging.specs.declared.Settings.{Settings}
use Rattle.judging.specs.declared.PaintError.{PaintError}
use Rattle.judging.specs.declared.PaintError.TheVariants.{Setting, ReservedRatio, Words, Font, OffScreen, NoRoom}
use Rattle.judging.specs.Judging.{word_count, in_range, all_are_words, on_screen, answer_of, said}

-- what an accepted call's arguments are
pub record Accepted (words font : List ℕ) (s : Settings) (width : Dots) (room : ℕ) : Type 0 where
  pub colour : s.colour ≤ 7
  pub h : s.h ≤ 63
  pub v : s.v ≤ 63
  pub ratio : s.ratio ≤ 2
  pub frequency : s.frequency ≤ 3
  pub words64 : length words ≡ word_count
  pub rows : length font ≡ font_rows
  pub fits : width.0 ≤ room

-- an answer that accepts was not refused by the first test
peel : (t : Bool) (k place : ℕ) (rest : Said) → pick t (refused (suc k) place) rest ≡ accepted 0 → (t ≡ false) × (rest ≡ accepted 0)
peel true k place rest e = let z = ap (λ (a : Said). a.number) e in absurd (omega arith)
peel false k place rest e = (refl, e)

accepted_by : (words font : List ℕ) (s : Settings) (line : Lines) (width : Dots) (room : ℕ) → answer_of words font s line width room ≡ accepted 0 → Accepted words font s width room
unfolding answer_of
accepted_by words font s line width room e =
    let ranged = peel (not (in_range s)) 0 0 _ e in
    let allowed = peel (eqb s.ratio 3) 1 0 _ ranged.1 in
    let worded = peel (not (all_are_words words)) 2 0 _ allowed.1 in
    let long = peel (not (eqb (length font) font_rows)) 3 0 _ worded.1 in
    let narrow = peel (not (within most_row font)) 17 (first_row_above most_row font) _ long.1 in
    let placed = peel (not (on_screen line width)) 4 0 _ narrow.1 in
    let roomy = peel (ltb room width.0) 5 0 _ placed.1 in
    let mode = both_parts (leb s.mode 3) _ (not-false (in_range s) ranged.0) in
    let colour = both_parts (leb s.colour 7) _ mode.1 in
    let h = both_parts (leb s.h 63) _ colour.1 in
    let v = both_parts (leb s.v 63) _ h.1 in
    let ratio = both_parts (leb s.ratio 3) _ v.1 in
    let three = leb-true s.ratio 3 ratio.0 in
    record {
      colour = leb-true s.colour 7 colour.0;
      h = leb-true s.h 63 h.0;
      v = leb-true s.v 63 v.0;
      ratio = omega (arith, eqb-false s.ratio 3 allowed.0);
      frequency = leb-true s.frequency 3 ratio.1;
      words64 = eqb-true (length words) word_count (both_parts (eqb (length words) word_count) _ (not-false (all_are_words words) worded.0)).0;
      rows = eqb-true (length font) font_rows (not-false (eqb (length font) font_rows) long.0);
      fits = ltb-false room width.0 roomy.0;
    }

pub accepted_ok : (words font : List ℕ) (s : Settings) (line : Lines) (width : Dots) (room : ℕ) (r : Result (Unit {0}) PaintError) → said r ≡ answer_of words font s line width room
    → r ≡ Ok tt → Accepted words font s width room
accepted_ok words font s line width room r e ok = accepted_by words font s line width room (sym e ∙ ap said ok)

-- a refusal tells a number above 0
pub refusal_told : (e : PaintError) → (said (Err e)).number ≡ 0 → ⊥
refusal_told Setting g = omega arith
refusal_told ReservedRatio g = omega arith
refusal_told Words g = omega arith
refusal_told (Font Length) g = omega arith
refusal_told (Font (Row row)) g = omega arith
refusal_told OffScreen g = omega arith
refusal_told NoRoom g = omega arith

-- an answer that is not `Ok` tells a number above 0
pub not_done : (r : Result (Unit {0}) PaintError) → (r ≡ Ok tt → ⊥) → (said r).number ≡ 0 → ⊥
not_done (Ok done) w g = w refl
not_done (Err e) w g = refusal_told e g
