-- An image and its font are one thing in two forms: the image of a font gives the font again, an image that is turned into a font is the
-- image of that font, and so two fonts never share an image. Each is shown at one place: a row from the two addresses that hold it, and
-- an address from the row that it holds.
-- Assumes nothing.
use mathlib.Core.Path.{◌≡◌, refl, sym, ◌∙◌, ap}
use mathlib.Core.Bool.{Bool, true, false}
use mathlib.Core.List.{List}
use Prim.Native.Nat.{ℕ, ◌+◌, ◌-◌, ◌*◌, ◌/◌, ◌%◌, ◌<◌, ◌≤◌}
use native.Mathlib.Decide.{dec_lt}
use native.Mathlib.Omega.{arith}
use lib.Dec.{ltb, eqb}
use lib.ListN.{length, get_or}
use borrow.Author.Tests.{lt-ltb, le-ltb, eq-eqb, eqb-true, ltb-false}
use Rattle.laws.specs.Pick.{both, pick}
use Rattle.laws.specs.Said.{Said, accepted, refused}
use Rattle.font.specs.Font.{is_font, row_of}
use Rattle.image.specs.Image.{image_of, font_of, half_at, due_at, row_in, low_at, cell_at, row_at, has_row, least_at, lacks_at, first_lacking, answer_of}
use Rattle.font.proofs.Each.{within_at, within_each, font_tests}
use Rattle.laws.proofs.Lists.{length_tabulate, get_or_tabulate, is_tabulate, first_none, first_before}

-- a font's rows
pub font_length : (font : List ℕ) → is_font font ≡ true → length font ≡ 1116
font_length font e = eqb-true (length font) 1116 (font_tests font e).0

pub font_row_law : (font : List ℕ) → is_font font ≡ true → (k : ℕ) → get_or font k 0 ≤ 4095
font_row_law font e = within_at 4095 font (font_tests font e).1

-- an address from its cell and row, in the first half and in the second, and back
module _ (c l : ℕ) (hc : c < 62) (hl : l < 18) where
  low_cell : (32 * c + l) % 4096 / 32 ≡ c
  low_cell = omega arith

  low_row : (32 * c + l) % 32 ≡ l
  low_row = omega arith

  high_cell : (4096 + (32 * c + l)) % 4096 / 32 ≡ c
  high_cell = omega arith

  high_row : (4096 + (32 * c + l)) % 32 ≡ l
  high_row = omega arith

low_whole : (a : ℕ) → a < 4096 → 32 * (a % 4096 / 32) + a % 32 ≡ a
low_whole a h = let e : a % 4096 ≡ a = omega arith in rw e (omega arith)

high_whole : (a : ℕ) → 4096 ≤ a → a < 8192 → 4096 + (32 * (a % 4096 / 32) + a % 32) ≡ a
high_whole a h g = let e : a % 4096 ≡ a - 4096 = omega arith in rw e (omega arith)

row_below : (c l : ℕ) → c < 62 → l < 18 → 18 * c + l < 1116
row_below c l h g = omega arith

pub row_low : (c l : ℕ) → l < 18 → low_at (18 * c + l) ≡ 32 * c + l
row_low c l h = omega arith

-- the two addresses of row k
module _ (font : List ℕ) (k : ℕ) (h : k < 1116) where
  low_due : due_at font (low_at k) ≡ get_or font k 0 % 256
  unfolding due_at half_at
  low_due =
      let hc : k / 18 < 62 = omega arith in
      let hl : k % 18 < 18 = omega arith in
      let e : 18 * (k / 18) + k % 18 ≡ k = omega arith in
      simp (low_cell (k / 18) (k % 18) hc hl, low_row (k / 18) (k % 18) hc hl, lt-ltb (k / 18) 62 hc, lt-ltb (k % 18) 18 hl, lt-ltb (low_at k) 4096 (omega arith), e)

  high_due : due_at font (4096 + low_at k) ≡ 240 + get_or font k 0 / 256
  unfolding due_at half_at
  high_due =
      let hc : k / 18 < 62 = omega arith in
      let hl : k % 18 < 18 = omega arith in
      let e : 18 * (k / 18) + k % 18 ≡ k = omega arith in
      simp
      (high_cell (k / 18) (k % 18) hc hl, high_row (k / 18) (k % 18) hc hl, lt-ltb (k / 18) 62 hc, lt-ltb (k % 18) 18 hl, le-ltb (4096 + low_at k) 4096 (omega arith), e)

-- the image of a font gives the font again
pub font_again : (font : List ℕ) → is_font font ≡ true → font_of (image_of font) ≡ font
unfolding row_in
font_again font e =
    sym (is_tabulate 0 1116 (row_in (image_of font)) font (font_length font e) (λ k h.
    let low = get_or_tabulate 8192 (due_at font) (low_at k) 0 (omega arith) ∙ low_due font k h in
    let high = get_or_tabulate 8192 (due_at font) (4096 + low_at k) 0 (omega arith) ∙ high_due font k h in
    omega (arith, low, high, font_row_law font e k)))

-- it lacks no bit, so it is accepted
module _ (font : List ℕ) where
  due_least : (address : ℕ) → least_at address ≤ due_at font address
  unfolding least_at due_at half_at
  due_least address = go (has_row address) (ltb address 4096)
    where
      row : ℕ
      row = row_of font (cell_at address) (row_at address)

      go : (b d : Bool) → pick b (pick d 0 240) 255 ≤ pick b (pick d (row % 256) (240 + row / 256)) 255
      go true true = omega arith
      go true false = omega arith
      go false d = omega arith

  pub image_accepted : answer_of (image_of font) 1116 ≡ accepted 0
  unfolding answer_of
  image_accepted =
      let none = first_none 8192 (lacks_at (image_of font)) (λ j h. le-ltb (get_or (image_of font) j 0) (least_at j) (rw (get_or_tabulate 8192 (due_at font) j 0 h) (due_least j))) in
      simp (eq-eqb _ _ (length_tabulate 8192 (due_at font)), none)

-- two fonts never share an image
pub image_tells : (font font' : List ℕ) → is_font font ≡ true → is_font font' ≡ true → image_of font ≡ image_of font' → font ≡ font'
image_tells font font' e e' same = sym (font_again font e) ∙ ap font_of same ∙ font_again font' e'

-- an accepted image has 8,192 bytes and lacks no bit
module _ (image : List ℕ) (room : ℕ) (e : answer_of image room ≡ accepted 0) where
  accepted_size : length image ≡ 8192
  unfolding answer_of
  accepted_size = go (eqb (length image) 8192) refl e
    where
      go : (b : Bool) → eqb (length image) 8192 ≡ b
          → pick (both b (eqb room 1116)) (pick (ltb (first_lacking image) 8192) (refused 13 (first_lacking image)) (accepted 0)) (refused 13 0) ≡ accepted 0 → length image ≡ 8192
      go true h g = eqb-true _ _ h
      go false h g = absurd (omega (arith, ap (λ (s : Said). s.number) g))

  accepted_none : (a : ℕ) → a < 8192 → least_at a ≤ get_or image a 0
  unfolding answer_of
  accepted_none a h = ltb-false _ _ (first_before 8192 (lacks_at image) a (go (both (eqb (length image) 8192) (eqb room 1116)) (ltb (first_lacking image) 8192) refl e))
    where
      go : (b d : Bool) → ltb (first_lacking image) 8192 ≡ d
          → pick b (pick d (refused 13 (first_lacking image)) (accepted 0)) (refused 13 0) ≡ accepted 0 → a < first_lacking image
      go true true l g = absurd (omega (arith, ap (λ (s : Said). s.number) g))
      go true false l g = omega (arith, ltb-false (first_lacking image) 8192 l)
      go false d l g = absurd (omega (arith, ap (λ (s : Said). s.number) g))

  -- it is the image of the font that it gives
  module _ (bytes : (a : ℕ) → get_or image a 0 < 256) where
    row_here : (k : ℕ) → k < 1116 → get_or (font_of image) k 0 ≡ get_or image (low_at k) 0 + 256 * (get_or image (4096 + low_at k) 0 % 16)
    unfolding row_in
    row_here k h = get_or_tabulate 1116 (row_in image) k 0 h

    due_again : (a : ℕ) → a < 8192 → due_at (font_of image) a ≡ get_or image a 0
    unfolding due_at half_at least_at
    due_again a h = go (dec_lt (a % 4096 / 32) 62) (dec_lt (a % 32) 18) (dec_lt a 4096) (accepted_none a h)
      where
        go : Dec (a % 4096 / 32 < 62) → Dec (a % 32 < 18) → Dec (a < 4096) → least_at a ≤ get_or image a 0 → due_at (font_of image) a ≡ get_or image a 0
        go (yes c) (yes l) (yes d) g =
            let place : low_at (18 * (a % 4096 / 32) + a % 32) ≡ a = row_low (a % 4096 / 32) (a % 32) l ∙ low_whole a d in
            let row = row_here (18 * (a % 4096 / 32) + a % 32) (row_below _ _ c l) ∙ ap (λ n. get_or image n 0 + 256 * (get_or image (4096 + n) 0 % 16)) place in
            simp (lt-ltb _ _ c, lt-ltb _ _ l, lt-ltb _ _ d, row) (omega (arith, bytes a))
        go (yes c) (yes l) (no d) g =
            let dd : 4096 ≤ a = omega arith in
            let low = low_at (18 * (a % 4096 / 32) + a % 32) in
            let place : 4096 + low ≡ a = ap (λ n. 4096 + n) (row_low (a % 4096 / 32) (a % 32) l) ∙ high_whole a dd h in
            let row = row_here (18 * (a % 4096 / 32) + a % 32) (row_below _ _ c l) ∙ ap (λ n. get_or image low 0 + 256 * (get_or image n 0 % 16)) place in
            simp (lt-ltb _ _ c, lt-ltb _ _ l, le-ltb _ _ dd, row) (omega (arith, bytes low, bytes a, simp (lt-ltb _ _ c, lt-ltb _ _ l, le-ltb _ _ dd) at g))
        go (yes c) (no l) d g =
            let ll : 18 ≤ a % 32 = omega arith in
            simp (lt-ltb _ _ c, le-ltb _ _ ll) (omega (arith, bytes a, simp (lt-ltb _ _ c, le-ltb _ _ ll) at g))
        go (no c) l d g =
            let cc' : 62 ≤ a % 4096 / 32 = omega arith in
            simp (le-ltb _ _ cc') (omega (arith, bytes a, simp (le-ltb _ _ cc') at g))

    pub image_again : image_of (font_of image) ≡ image
    image_again = sym (is_tabulate 0 8192 (due_at (font_of image)) image accepted_size (λ k h. sym (due_again k h)))

    pub gives_font : is_font (font_of image) ≡ true
    unfolding is_font
    gives_font =
        rw (eq-eqb _ _ (length_tabulate 1116 (row_in image)))
        (within_each 4095 (font_of image) (λ k h. let h' : k < 1116 = rw length_tabulate at h in rw (row_here k h') (omega (arith, bytes (low_at k)))))
