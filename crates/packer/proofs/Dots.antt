-- Two glyphs are of one pattern exactly if their dots agree, and, if none of their rows is above 4095, exactly if their rows do: twelve bits make a row.
-- Assumes nothing.
use Rattle.std.proofs.Common.{◌≡◌, ℕ, zero, suc, ◌-◌, ◌/◌, ◌%◌, ◌^◌, ◌<◌, ◌≤◌, Bool, true, false, eqb, List, sym, refl, ap, ◌∙◌, true≢false, div-one, arith, eqb-true}
use mathlib.Core.Bool.{beq as agree, false≢true}
use native.Mathlib.Nat.{pow-succ', div-div-eq-div-mul}
use borrow.Author.Tests.{eqb-false}
use Rattle.laws.specs.Lists.{upto}
use Rattle.laws.proofs.Tests.{upto_at, upto_all}
use Rattle.font.specs.Font.{rows_of_cell, cell_columns, most_row, row_of, bit_set, font_dot}
use Rattle.packer.specs.Glyphs.{same_pattern, SameDots}

agree_same : (a b : Bool) → agree a b ≡ true → a ≡ b
agree_same true true e = refl
agree_same true false e = absurd (false≢true e)
agree_same false true e = absurd (false≢true e)
agree_same false false e = refl

agree_self : (a : Bool) → agree a a ≡ true
agree_self true = refl
agree_self false = refl

module _ (glyphs : List ℕ) where
  pub same_dots : (g h : ℕ) → same_pattern glyphs g h ≡ true → SameDots glyphs g h
  unfolding same_pattern
  same_dots g h e l j a b =
      agree_same _ _ (upto_at 12 (λ j. agree (font_dot glyphs g l j) (font_dot glyphs h l j)) (upto_at 18 (λ l. upto 12 (λ j. agree (font_dot glyphs g l j) (font_dot glyphs h l j))) e l a) j b)

  pub dots_same : (g h : ℕ) → SameDots glyphs g h → same_pattern glyphs g h ≡ true
  unfolding same_pattern
  dots_same g h e =
      upto_all 18 (λ l. upto 12 (λ j. agree (font_dot glyphs g l j) (font_dot glyphs h l j)))
      (λ l a. upto_all 12 (λ j. agree (font_dot glyphs g l j) (font_dot glyphs h l j)) (λ j b. ap (λ (t : Bool). agree (font_dot glyphs g l j) t) (sym (e l j a b)) ∙ agree_self (font_dot glyphs g l j)))

  -- to be of one pattern is to be alike: a glyph is like itself, and likeness goes both ways and on
  pub like_self : (g : ℕ) → same_pattern glyphs g g ≡ true
  like_self g = dots_same g g (λ l j a b. refl)

  pub like_back : (g h : ℕ) → same_pattern glyphs g h ≡ true → same_pattern glyphs h g ≡ true
  like_back g h e = dots_same h g (λ l j a b. sym (same_dots g h e l j a b))

  pub like_on : (g h k : ℕ) → same_pattern glyphs g h ≡ true → same_pattern glyphs h k ≡ true → same_pattern glyphs g k ≡ true
  like_on g h k e f = dots_same g k (λ l j a b. same_dots g h e l j a b ∙ same_dots h k f l j a b)

-- numbers of n bits are equal where each bit is
pub bits_same : (n x y : ℕ) → x < 2 ^ n → y < 2 ^ n → ((k : ℕ) → k < n → x / 2 ^ k % 2 ≡ y / 2 ^ k % 2) → x ≡ y
bits_same zero x y a b h = omega (arith, a, b)
bits_same (suc n) x y a b h =
    let halves : x / 2 ≡ y / 2 = bits_same n (x / 2) (y / 2) (below x a) (below y b) (λ k l. sym (bit x k) ∙ h (suc k) (omega arith) ∙ bit y k) in
    let last : x % 2 ≡ y % 2 = sym (ap (λ (i : ℕ). i % 2) (div-one x)) ∙ h 0 (omega arith) ∙ ap (λ (i : ℕ). i % 2) (div-one y) in
    omega (arith, halves, last)
  where
    below : (z : ℕ) → z < 2 ^ suc n → z / 2 < 2 ^ n
    below z l = omega (arith, l, pow-succ' 2 n)

    bit : (z k : ℕ) → z / 2 ^ suc k % 2 ≡ z / 2 / 2 ^ k % 2
    bit z k = ap (λ (i : ℕ). i % 2) (ap (λ (i : ℕ). z / i) (pow-succ' 2 k) ∙ sym (div-div-eq-div-mul z 2 (2 ^ k)))

one_same : (u v : ℕ) → u < 2 → v < 2 → (s t : Bool) → eqb u 1 ≡ s → eqb v 1 ≡ t → s ≡ t → u ≡ v
one_same u v a b true true e f q = eqb-true u 1 e ∙ sym (eqb-true v 1 f)
one_same u v a b true false e f q = absurd (true≢false q)
one_same u v a b false true e f q = absurd (false≢true q)
one_same u v a b false false e f q = omega (arith, a, b, eqb-false u 1 e, eqb-false v 1 f)

-- rows of twelve dots
pub row_same : (x y : ℕ) → x ≤ most_row → y ≤ most_row → ((j : ℕ) → j < cell_columns → bit_set x j ≡ bit_set y j) → x ≡ y
row_same x y a b h = bits_same 12 x y (omega (arith, a)) (omega (arith, b)) (λ k l. go k l)
  where
    go : (k : ℕ) → k < 12 → x / 2 ^ k % 2 ≡ y / 2 ^ k % 2
    go k l =
        let back : 12 - 1 - (11 - k) ≡ k = omega arith in
        let bits : eqb (x / 2 ^ k % 2) 1 ≡ eqb (y / 2 ^ k % 2) 1 = rw back at (h (11 - k) (omega arith)) in
        one_same (x / 2 ^ k % 2) (y / 2 ^ k % 2) (omega arith) (omega arith) _ _ refl refl bits

module _ (glyphs : List ℕ) where
  pub rows_same : (g h : ℕ) → ((l : ℕ) → l < rows_of_cell → row_of glyphs g l ≡ row_of glyphs h l) → same_pattern glyphs g h ≡ true
  rows_same g h e = dots_same glyphs g h (λ l j a b. ap (λ (r : ℕ). bit_set r j) (e l a))

  pub same_rows : (g h : ℕ) → ((l : ℕ) → l < rows_of_cell → row_of glyphs g l ≤ most_row) → ((l : ℕ) → l < rows_of_cell → row_of glyphs h l ≤ most_row)
      → same_pattern glyphs g h ≡ true → (l : ℕ) → l < rows_of_cell → row_of glyphs g l ≡ row_of glyphs h l
  same_rows g h small_g small_h e l a = row_same (row_of glyphs g l) (row_of glyphs h l) (small_g l a) (small_h l a) (λ j b. same_dots glyphs g h e l j a b)
