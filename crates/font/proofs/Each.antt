-- A list's numbers one by one: it is within a bound where each of them is, and what a search for one above it finds; they are those of four parts, and
-- what is left; and a font's two tests.
-- Assumes nothing.
use Rattle.std.proofs.Common.{◌≡◌, ℕ, zero, suc, ◌+◌, ◌-◌, ◌*◌, ◌<◌, ◌≤◌, true, false, List, [], ◌∷◌, length, get_or, take, drop, leb, ltb, eqb, Bool, Option, Some, None, MatchOption, refl, sym, ap, ◌∙◌, below_more, le-leb, leb-true, le-ltb, lt-ltb, ne_eqb, arith}
use Rattle.std.proofs.lemmas.Bool.{eqb-false}
use Rattle.std.proofs.lemmas.List.{get_or-drop, get_or-take}
use native.Mathlib.Decide.{dec_lt}
use Rattle.laws.specs.Pick.{pick}
use Rattle.laws.specs.Within.{within, first_row_above}
use Rattle.laws.proofs.Both.{both_parts}
use Rattle.laws.proofs.Lists.{first_is, first_most}
use Rattle.laws.proofs.Scan.{within_first}
use Rattle.font.specs.Font.{font_rows, most_row, is_font, first_above}

pub within_at : (most : ℕ) (l : List ℕ) → within most l ≡ true → (k : ℕ) → get_or l k 0 ≤ most
unfolding within
within_at most [] e k = omega arith
within_at most (a ∷ l) e zero = leb-true a most (both_parts (leb a most) (within most l) e).0
within_at most (a ∷ l) e (suc k) = within_at most l (both_parts (leb a most) (within most l) e).1 k

pub within_each : (most : ℕ) (l : List ℕ) → ((k : ℕ) → k < length l → get_or l k 0 ≤ most) → within most l ≡ true
unfolding within
within_each most [] h = refl
within_each most (a ∷ l) h = rw (le-leb a most (h 0 (omega arith))) (within_each most l (λ k g. h (suc k) (omega arith)))

-- what a search for a number above the bound finds
pub found_above : (most : ℕ) (l : List ℕ) (r : Option ℕ)
    → MatchOption r ((k : ℕ) → k < length l → get_or l k 0 ≤ most) (λ i. (i < length l) × ((most < get_or l i 0) × ((k : ℕ) → k < i → get_or l k 0 ≤ most))) → r ≡ first_above most l
found_above most l None all = simp (within_each most l all)
found_above most l (Some i) found =
    let first : first_row_above most l ≡ i = first_is (length l) (λ k. ltb most (get_or l k 0)) i found.0 (λ k h. le-ltb most (get_or l k 0) (found.1.1 k h)) (lt-ltb most (get_or l i 0) found.1.0) in
    let some : within most l ≡ false = within_first most l ∙ ne_eqb _ _ (omega (arith, first)) in
    simp (some, first)

-- and what the place says: none is above the bound, or the first is there
pub none_above : (most : ℕ) (l : List ℕ) → None ≡ first_above most l → within most l ≡ true
none_above most l e = go (within most l) refl e
  where
    go : (t : Bool) → within most l ≡ t → None ≡ pick t None (Some (first_row_above most l)) → within most l ≡ true
    go true e g = e
    go false e g = cc

pub record Above (most : ℕ) (l : List ℕ) (i : ℕ) : Type 0 where
  pub some : within most l ≡ false
  pub first : i ≡ first_row_above most l
  pub below : i < length l

pub one_above : (most : ℕ) (l : List ℕ) (i : ℕ) → Some i ≡ first_above most l → Above most l i
one_above most l i e = go (within most l) refl e
  where
    go : (t : Bool) → within most l ≡ t → Some i ≡ pick t None (Some (first_row_above most l)) → Above most l i
    go true e g = cc
    go false e g =
        let first : i ≡ first_row_above most l = cc in
        let not_all : eqb (first_row_above most l) (length l) ≡ false = sym (within_first most l) ∙ e in
        record { some = e; first = first; below = omega (arith, eqb-false _ _ not_all, first_most (length l) (λ k. ltb most (get_or l k 0))) }

-- a number of a part is the list's from the part's start on
pub part_at : (l : List ℕ) (n w i : ℕ) → i < w → get_or (take w (drop n l)) i 0 ≡ get_or l (n + i) 0
part_at l n w i h = get_or-take w (drop n l) i 0 h ∙ get_or-drop n l i 0

-- what a font is, test by test
pub font_tests : (rows : List ℕ) → is_font rows ≡ true → (eqb (length rows) font_rows ≡ true) × (within most_row rows ≡ true)
unfolding is_font
font_tests rows e = both_parts (eqb (length rows) font_rows) (within most_row rows) e

-- the first i numbers of each part are within the bound
pub record Parts (most : ℕ) (s : List ℕ) (part i : ℕ) : Type 0 where
  pub first : (k : ℕ) → k < i → get_or s k 0 ≤ most
  pub second : (k : ℕ) → k < i → get_or s (part + k) 0 ≤ most
  pub third : (k : ℕ) → k < i → get_or s (2 * part + k) 0 ≤ most
  pub fourth : (k : ℕ) → k < i → get_or s (3 * part + k) 0 ≤ most

module _ (most : ℕ) (s : List ℕ) (part : ℕ) where
  pub parts_none : Parts most s part 0
  parts_none =
      record {
        first = λ k h. absurd (omega arith);
        second = λ k h. absurd (omega arith);
        third = λ k h. absurd (omega arith);
        fourth = λ k h. absurd (omega arith);
      }

  pub parts_more : (i : ℕ) → Parts most s part i
      → get_or s i 0 ≤ most → get_or s (part + i) 0 ≤ most → get_or s (2 * part + i) 0 ≤ most → get_or s (3 * part + i) 0 ≤ most → Parts most s part (i + 1)
  parts_more i g a b c d =
      record {
        first = below_more (λ k. get_or s k 0 ≤ most) i g.first a;
        second = below_more (λ k. get_or s (part + k) 0 ≤ most) i g.second b;
        third = below_more (λ k. get_or s (2 * part + k) 0 ≤ most) i g.third c;
        fourth = below_more (λ k. get_or s (3 * part + k) 0 ≤ most) i g.fourth d;
      }

  pub parts_all : (i : ℕ) → part ≤ i → Parts most s part i → (k : ℕ) → k < 4 * part → get_or s k 0 ≤ most
  parts_all i all g k h = go (dec_lt k part) (dec_lt k (2 * part)) (dec_lt k (3 * part))
    where
      go : Dec (k < part) → Dec (k < 2 * part) → Dec (k < 3 * part) → get_or s k 0 ≤ most
      go (yes a) b c = g.first k (omega arith)
      go (no a) (yes b) c =
          let e : part + (k - part) ≡ k = omega arith in
          omega (arith, g.second (k - part) (omega arith), ap (λ (j : ℕ). get_or s j 0) e)
      go (no a) (no b) (yes c) =
          let e : 2 * part + (k - 2 * part) ≡ k = omega arith in
          omega (arith, g.third (k - 2 * part) (omega arith), ap (λ (j : ℕ). get_or s j 0) e)
      go (no a) (no b) (no c) =
          let e : 3 * part + (k - 3 * part) ≡ k = omega arith in
          omega (arith, g.fourth (k - 3 * part) (omega arith), ap (λ (j : ℕ). get_or s j 0) e)
