-- Rows as numbers: the numbers of two glyphs' rows are equal exactly if the rows are, and glyphs with the same rows have one spot.
-- Assumes nothing.
use Rattle.std.proofs.Common.{◌≡◌, ℕ, ◌+◌, ◌*◌, ◌/◌, ◌%◌, ◌<◌, ◌≤◌, Bool, true, false, eqb, List, get_or, sym, refl, mul-le-mul, arith, eq-eqb, eqb-true}
use native.Mathlib.Decide.{dec_lt}
use borrow.Author.Tests.{eqb-false}
use Rattle.laws.proofs.Tests.{upto_at, upto_all}
use Rattle.font.specs.Font.{rows_of_cell}
use Rattle.packer.specs.Steps.{two_at, four_at, same_rows, spots, mixed_spot, sum_of, spot_of}

-- rows agree, as far as they are compared
abbrev pub Rows : List ℕ → List ℕ → ℕ → Type 0
Rows one other n = (l : ℕ) → l < n → get_or one l 0 ≡ get_or other l 0

pub rows_none : (one other : List ℕ) → Rows one other 0
rows_none one other l lt = absurd (omega arith)

-- the product of a number's halves fits
pub halves_product : (n : ℕ) → n < 18446744073709551616 → n % 4294967296 * (n / 4294967296) ≤ 18446744065119617025
halves_product n l =
    let low : n % 4294967296 ≤ 4294967295 = omega arith in
    let high : n / 4294967296 ≤ 4294967295 = omega arith in
    mul-le-mul low high

pub spot_below : (glyph : List ℕ) → spot_of glyph < spots
unfolding mixed_spot
spot_below glyph = omega arith

module _ (one other : List ℕ) where
  pub rows_same : Rows one other rows_of_cell → same_rows one other ≡ true
  unfolding same_rows
  rows_same e = upto_all 18 (λ l. eqb (get_or one l 0) (get_or other l 0)) (λ l a. eq-eqb _ _ (e l a))

  pub same_rows_at : same_rows one other ≡ true → Rows one other rows_of_cell
  unfolding same_rows
  same_rows_at e l a = eqb-true _ _ (upto_at 18 (λ l. eqb (get_or one l 0) (get_or other l 0)) e l a)

  -- equal rows make equal numbers
  two_same : (k : ℕ) → k ≤ 16 → Rows one other rows_of_cell → two_at one k ≡ two_at other k
  unfolding two_at
  two_same k le e = omega (arith, e k (omega arith), e (k + 1) (omega arith))

  pub four_same : (k : ℕ) → k ≤ 14 → Rows one other rows_of_cell → four_at one k ≡ four_at other k
  unfolding four_at
  four_same k le e =
      let low = two_same k (omega arith) e in
      let high = two_same (k + 2) (omega arith) e in
      rw (low, high)

  -- glyphs with the same rows have one spot
  pub spot_same : same_rows one other ≡ true → spot_of one ≡ spot_of other
  unfolding sum_of
  spot_same same =
      let e = same_rows_at same in
      rw (four_same 0 (omega arith) e, four_same 4 (omega arith) e, four_same 8 (omega arith) e, four_same 12 (omega arith) e, two_same 16 (omega arith) e)

  -- numbers that differ are of rows that do
  differ : (Rows one other rows_of_cell → ⊥) → same_rows one other ≡ false
  differ unlike = go (same_rows one other) refl
    where
      go : (t : Bool) → same_rows one other ≡ t → t ≡ false
      go true e = absurd (unlike (same_rows_at e))
      go false e = refl

  pub four_differ : (k : ℕ) → k ≤ 14 → (four_at one k ≡ four_at other k → ⊥) → same_rows one other ≡ false
  four_differ k le unlike = differ (λ e. unlike (four_same k le e))

  two_differ : (two_at one 16 ≡ two_at other 16 → ⊥) → same_rows one other ≡ false
  two_differ unlike = differ (λ e. unlike (two_same 16 (omega arith) e))

  -- equal numbers are of equal rows, where a row has 16 bits
  module _ (fits : (k : ℕ) → get_or one k 0 < 65536) (fits' : (k : ℕ) → get_or other k 0 < 65536) where
    two_rows : (k : ℕ) → two_at one k ≡ two_at other k → (get_or one k 0 ≡ get_or other k 0) × (get_or one (k + 1) 0 ≡ get_or other (k + 1) 0)
    unfolding two_at
    two_rows k e = (omega (arith, e, fits k, fits' k), omega (arith, e, fits k, fits' k))

    four_twos : (k : ℕ) → four_at one k ≡ four_at other k → (two_at one k ≡ two_at other k) × (two_at one (k + 2) ≡ two_at other (k + 2))
    unfolding four_at two_at
    four_twos k e = (omega (arith, e, fits k, fits (k + 1), fits' k, fits' (k + 1)), omega (arith, e, fits k, fits (k + 1), fits' k, fits' (k + 1)))

    -- two rows more, and four
    more_two : (k n : ℕ) → k ≤ n → two_at one k ≡ two_at other k → Rows one other n → Rows one other (k + 2)
    more_two k n le e rows l lt = go (dec_lt l k) (dec_lt l (k + 1))
      where
        go : Dec (l < k) → Dec (l < k + 1) → get_or one l 0 ≡ get_or other l 0
        go (yes d) f = rows l (omega arith)
        go (no d) (yes f) = let here : l ≡ k = omega arith in rw here (two_rows k e).0
        go (no d) (no f) = let here : l ≡ k + 1 = omega arith in rw here (two_rows k e).1

    pub more_four : (k n : ℕ) → k ≤ n → four_at one k ≡ four_at other k → Rows one other n → Rows one other (k + 4)
    more_four k n le e rows =
        let twos = four_twos k e in
        let low = more_two k n le twos.0 rows in
        λ l lt. more_two (k + 2) (k + 2) (omega arith) twos.1 low l (omega arith)

    -- the last two rows decide where those before them agree
    pub last_decide : (n p q : ℕ) → 16 ≤ n → Rows one other n → p ≡ two_at one 16 → q ≡ two_at other 16 → eqb p q ≡ same_rows one other
    last_decide n p q le rows is_p is_q = rw (is_p, is_q) (go _ refl)
      where
        go : (t : Bool) → eqb (two_at one 16) (two_at other 16) ≡ t → t ≡ same_rows one other
        go true e = sym (rows_same (λ l lt. more_two 16 n (omega arith) (eqb-true _ _ e) rows l (omega arith)))
        go false e = sym (two_differ (eqb-false _ _ e))
