-- Painting and writing: 4 is told by the first test of a font, that of its length, and 18 by the second, which fails at the first row above 4095.
-- Assumes nothing.
use Prim.Native.Nat.{ℕ, ◌<◌}
use mathlib.Core.Path.{◌≡◌, refl, sym, ◌∙◌}
use mathlib.Core.Bool.{Bool, true, false, not}
use mathlib.Core.List.{List}
use native.Mathlib.Omega.{arith}
use borrow.Author.Tests.{ltb-true, ltb-false, eqb-true, eqb-false}
use lib.Dec.{eqb, ltb}
use lib.ListN.{length, get_or}
use Rattle.laws.specs.Pick.{pick}
use Rattle.laws.specs.Said.{Said, accepted, refused}
use Rattle.laws.specs.Within.{within, first_row_above}
use Rattle.laws.proofs.Lists.{first_most, first_at, first_before}
use Rattle.laws.proofs.Scan.{within_first}
use Rattle.font.specs.Font.{font_rows, most_row}
use Rattle.units.specs.declared.Dots.{Dots}
use Rattle.units.specs.declared.Lines.{Lines}
use Rattle.judging.specs.declared.Settings.{Settings}
use Rattle.judging.specs.Judging.{in_range, most_ratio, all_are_words, on_screen, answer_of as painting}
use Rattle.writer.specs.Text.{text_bytes}
use Rattle.writer.specs.Writing.{answer_of as writing}
use Rattle.finer.specs.Claims.{PaintLength, WriteLength, IsFirstAbove, PaintPoints, WritePoints}

-- where the place of 18 points
first_above : (font : List ℕ) → eqb (length font) font_rows ≡ true → within most_row font ≡ false → IsFirstAbove font (first_row_above most_row font)
first_above font long wide =
    let size = eqb-true (length font) font_rows long in
    let other = eqb-false (first_row_above most_row font) (length font) (sym (within_first most_row font) ∙ wide) in
    let most = first_most (length font) (λ k. ltb most_row (get_or font k 0)) in
    let inside : first_row_above most_row font < length font = omega arith in
    record {
      size = size;
      inside = omega arith;
      above = ltb-true _ _ (first_at (length font) (λ k. ltb most_row (get_or font k 0)) inside);
      before = λ k h. ltb-false _ _ (first_before (length font) (λ k. ltb most_row (get_or font k 0)) k h);
    }

-- 18 is said by the second of the two tests, and 4 by the first
module _ (font : List ℕ) (rest : Said) where
  font_said : Said
  font_said = pick (not (eqb (length font) font_rows)) (refused 4 0) (pick (not (within most_row font)) (refused 18 (first_row_above most_row font)) rest)

  font_points : (rest.number ≡ 18 → ⊥) → font_said.number ≡ 18 → IsFirstAbove font font_said.place
  unfolding font_said
  font_points other e = go (eqb (length font) font_rows) refl (within most_row font) refl e
    where
      go : (a : Bool) → eqb (length font) font_rows ≡ a → (b : Bool) → within most_row font ≡ b
          → (pick (not a) (refused 4 0) (pick (not b) (refused 18 (first_row_above most_row font)) rest)).number ≡ 18
          → IsFirstAbove font (pick (not a) (refused 4 0) (pick (not b) (refused 18 (first_row_above most_row font)) rest)).place
      go false _ b _ e = absurd (omega arith)
      go true long true _ e = absurd (other e)
      go true long false wide e = first_above font long wide

  font_length : (rest.number ≡ 4 → ⊥) → font_said.number ≡ 4 → length font ≡ font_rows → ⊥
  unfolding font_said
  font_length other e = go (eqb (length font) font_rows) refl (within most_row font) e
    where
      go : (a : Bool) → eqb (length font) font_rows ≡ a → (b : Bool)
          → (pick (not a) (refused 4 0) (pick (not b) (refused 18 (first_row_above most_row font)) rest)).number ≡ 4 → length font ≡ font_rows → ⊥
      go false other_length b e = eqb-false (length font) font_rows other_length
      go true _ true e = absurd (other e)
      go true _ false e = absurd (omega arith)

-- what is told after them is neither
module _ (b : Bool) where
  room_said : Said
  room_said = pick b (refused 6 0) (accepted 0)

  room_other : (n : ℕ) → 0 < n → (n ≡ 6 → ⊥) → room_said.number ≡ n → ⊥
  unfolding room_said
  room_other n some other e = go b e
    where
      go : (b : Bool) → (pick b (refused 6 0) (accepted 0)).number ≡ n → ⊥
      go true e = other (sym e)
      go false e = omega arith

  screen_other : (a : Bool) (n : ℕ) → 0 < n → (n ≡ 5 → ⊥) → (n ≡ 6 → ⊥) → (pick a (refused 5 0) room_said).number ≡ n → ⊥
  unfolding room_said
  screen_other true n some five six e = five (sym e)
  screen_other false n some five six e = room_other n some six e

pub write_points : WritePoints
unfolding writing font_said room_said
write_points font room e = font_points font (room_said (ltb room text_bytes)) (room_other (ltb room text_bytes) 18 (omega arith) (λ z. omega arith)) e

pub write_length : WriteLength
unfolding writing font_said room_said
write_length font room e = font_length font (room_said (ltb room text_bytes)) (room_other (ltb room text_bytes) 4 (omega arith) (λ z. omega arith)) e

module _ (words font : List ℕ) (s : Settings) (line : Lines) (width : Dots) (room : ℕ) where
  later : Said
  later = pick (not (on_screen line width)) (refused 5 0) (room_said (ltb room width.0))

  -- 4 and 18 come after the tests of settings and words
  behind : (P : ℕ → Type 0) (n : ℕ) → 3 < n → ((font_said font later).number ≡ n → P (font_said font later).place)
      → (painting words font s line width room).number ≡ n → P (painting words font s line width room).place
  unfolding painting font_said later room_said
  behind P n high so e = go (not (in_range s)) (eqb s.ratio most_ratio) (not (all_are_words words)) e
    where
      tests : Bool → Bool → Bool → Said
      tests a b d = pick a (refused 1 0) (pick b (refused 2 0) (pick d (refused 3 0) (font_said font later)))

      go : (a b d : Bool) → (tests a b d).number ≡ n → P (tests a b d).place
      go true b d e = absurd (omega arith)
      go false true d e = absurd (omega arith)
      go false false true e = absurd (omega arith)
      go false false false e = so e

pub paint_points : PaintPoints
unfolding later room_said
paint_points words font s line width room =
    behind words font s line width room (IsFirstAbove font) 18 (omega arith)
    (font_points font (later words font s line width room) (screen_other (ltb room width.0) (not (on_screen line width)) 18 (omega arith) (λ z. omega arith) (λ z. omega arith)))

pub paint_length : PaintLength
unfolding later room_said
paint_length words font s line width room =
    behind words font s line width room (λ p. length font ≡ font_rows → ⊥) 4 (omega arith)
    (font_length font (later words font s line width room) (screen_other (ltb room width.0) (not (on_screen line width)) 4 (omega arith) (λ z. omega arith) (λ z. omega arith)))
