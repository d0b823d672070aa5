-- Cells placed one after the other never share a dot, for any width and height. Once a cell has been passed, the place where the next
-- one stands is past each of its dots: to the right in the same row, or in a row below; and it stays past them.
-- Assumes nothing.
use mathlib.Core.Path.{◌≡◌, sym, ◌∙◌}
use mathlib.Core.Bool.{true, false}
use mathlib.Core.Logic.{◌⊎◌, inl, inr, ⊎_elim}
use Prim.Native.Nat.{ℕ, ◌+◌, ◌*◌, ◌/◌, ◌-◌, ◌<◌, ◌≤◌}
use native.Mathlib.Nat.{div-lt_iff_lt-mul, div-eq_of_lt-le, le-div_iff_mul-le, div-zero, div-eq_of_lt}
use native.Mathlib.Omega.{arith}
use borrow.Author.Tests.{leb-true, le-leb, lt-leb, lt-ltb, le-ltb, ltb-true, eq-eqb, ne_eqb}
use lib.Dec.{leb, ltb, eqb}
use Rattle.laws.specs.Placing.{row_has, span_has, cell_has}
use Rattle.laws.proofs.Both.{both_parts, none_left, none_right}
use Rattle.laws.proofs.Scan.{split}

-- what a span has
pub span_in : (x n k : ℕ) → x ≤ k → k < x + n → span_has x n k ≡ true
span_in x n k le lt = simp (le-leb x k le, lt-ltb k (x + n) lt)

pub span_before : (x n k : ℕ) → k < x → span_has x n k ≡ false
span_before x n k lt = simp (lt-leb x k lt)

pub span_after : (x n k : ℕ) → x + n ≤ k → span_has x n k ≡ false
span_after x n k le = none_right (leb x k) (ltb k (x + n)) (le-ltb k (x + n) le)

pub span_has_law : (x n k : ℕ) → span_has x n k ≡ true → (x ≤ k) × (k < x + n)
span_has_law x n k e = let parts = both_parts (leb x k) (ltb k (x + n)) e in (leb-true _ _ parts.0, ltb-true _ _ parts.1)

module _ (width height line k : ℕ) where
  -- what it is for a cell to have the dot
  pub cell_has_law : (x y size : ℕ) → cell_has width height x y size line k ≡ true → ((y ≤ line) × (line < y + height * size)) × ((x ≤ k) × (k < x + width * size))
  unfolding cell_has
  cell_has_law x y size e =
      let parts = both_parts (row_has height y size line) (span_has x (width * size) k) e in
      (span_has_law y (height * size) line parts.0, span_has_law x (width * size) k parts.1)

  -- a row that has the line: its cells have the dots of their spans
  pub cell_in_row : (x y size : ℕ) → y ≤ line → line < y + height * size → cell_has width height x y size line k ≡ span_has x (width * size) k
  unfolding cell_has
  cell_in_row x y size le lt = simp (le-leb y line le, lt-ltb line (y + height * size) lt)

  -- a row above the line: its cells have no dot of it
  pub cell_above : (x y size : ℕ) → y + height * size ≤ line → cell_has width height x y size line k ≡ false
  unfolding cell_has
  cell_above x y size le =
      none_left (row_has height y size line) (span_has x (width * size) k) (none_right (leb y line) (ltb line (y + height * size)) (le-ltb line (y + height * size) le))

  pub cell_below : (x y size : ℕ) → line < y → cell_has width height x y size line k ≡ false
  unfolding cell_has
  cell_below x y size lt =
      none_left (row_has height y size line) (span_has x (width * size) k) (none_left (leb y line) (ltb line (y + height * size)) (lt-leb y line lt))

  pub cell_beside : (x y size : ℕ) → k < x → cell_has width height x y size line k ≡ false
  unfolding cell_has
  cell_beside x y size lt = none_right (row_has height y size line) (span_has x (width * size) k) (span_before x (width * size) k lt)

  -- the place is past dot k of the line
  abbrev pub Past : ℕ → ℕ → ℕ → Type 0
  Past x y size = (line < y) ⊎ ((k < x) × (line < y + height * size))

  pub past_none : (x y size : ℕ) → Past x y size → cell_has width height x y size line k ≡ false
  past_none x y size h = ⊎_elim (λ above. cell_below x y size above) (λ left. cell_beside x y size left.0) h

  -- the cell that has the dot is passed
  pub past_cell : (x y size : ℕ) → cell_has width height x y size line k ≡ true → Past (x + width * size) y size
  past_cell x y size e = let h = cell_has_law x y size e in inr (h.1.1, h.0.1)

  -- the next cell of the row
  pub past_right : (x y size : ℕ) → Past x y size → Past (x + width * size) y size
  past_right x y size h = ⊎_elim (λ above. inl above) (λ left. inr (omega arith, left.1)) h

  -- the first cell of the next row
  pub past_below : (x y size left gap next : ℕ) → Past x y size → Past left (y + height * size + gap) next
  past_below x y size left gap next h = ⊎_elim (λ above. inl (omega arith)) (λ beside. inl (omega arith)) h

-- of n parts of this size, the part that i is in
pub part_below : (n size i : ℕ) → i < n * size → i / size < n
part_below n size i lt = ⊎_elim (λ (some : 1 ≤ size). (div-lt_iff_lt-mul some).1 lt) (λ (z : size < 1). absurd (none z)) (split 1 size)
  where
    none : size < 1 → ⊥
    none z =
        let e : size ≡ 0 = omega arith in
        let d : i < n * 0 = rw e at lt in
        omega arith

-- the part that i is in, by its bounds
pub part_at : (j size i : ℕ) → j * size ≤ i → i < j * size + size → i / size ≡ j
part_at j size i le lt = div-eq_of_lt-le size le (omega arith)

-- counted from where the parts begin
pub share_below : (n size at from : ℕ) → from ≤ at → at < from + n * size → (at - from) / size < n
share_below n size at from le lt = part_below n size (at - from) (omega arith)

-- not in the first part, and in one of the first n
pub share_in : (n size at from : ℕ) → 1 ≤ (at - from) / size → (at - from) / size < n → (from + size ≤ at) × (at < from + n * size)
share_in n size at from lo hi = ⊎_elim (λ (some : 1 ≤ size). bounds some) (λ (z : size < 1). absurd (none z)) (split 1 size)
  where
    bounds : 1 ≤ size → (from + size ≤ at) × (at < from + n * size)
    bounds some =
        let least : 1 * size ≤ at - from = (le-div_iff_mul-le some).0 lo in
        let most : at - from < n * size = (div-lt_iff_lt-mul some).0 hi in
        (omega arith, omega arith)

    none : size < 1 → ⊥
    none z =
        let e : size ≡ 0 = omega arith in
        let d : 1 ≤ (at - from) / 0 = rw e at lo in
        omega (arith, div-zero (at - from))

-- in the first part
pub first_part : (size at from : ℕ) → 1 ≤ size → from ≤ at → span_has from size at ≡ eqb ((at - from) / size) 0
first_part size at from some le =
    ⊎_elim
    (λ (after : from + size ≤ at). span_after from size at after ∙ sym (ne_eqb _ 0 (later after)))
    (λ (within : at < from + size). span_in from size at le within ∙ sym (eq-eqb _ 0 (div-eq_of_lt {n = at - from} {m = size} (omega arith))))
    (split (from + size) at)
  where
    later : from + size ≤ at → (at - from) / size ≡ 0 → ⊥
    later after e =
        let least : 1 * size ≤ at - from = omega arith in
        let part : 1 ≤ (at - from) / size = (le-div_iff_mul-le some).1 least in
        omega arith

-- after a word, one word fewer fits: `far` is how far the words may reach, `most` how far one goes at most
pub room_step : (far most step at n : ℕ) → step ≤ most → at + most * (n + 1) ≤ far → at + step + most * n ≤ far
room_step far most step at n le fits = let e : most * (n + 1) ≡ most * n + most = omega arith in omega arith
