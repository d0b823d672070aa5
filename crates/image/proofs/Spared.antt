-- An image lacks nothing where each byte has all bits set but those that its place spares.
-- Assumes nothing.
use Rattle.std.proofs.Common.{◌≡◌, ℕ, ◌+◌, ◌-◌, ◌/◌, ◌%◌, ◌<◌, ◌≤◌, List, false, length, get_or, bit_or, take, drop, refl, ap, ◌∙◌, arith, length-take, length-drop}
use Rattle.std.specs.Int.Bits.{or_add_and}
use Rattle.std.proofs.lemmas.List.{get_or-take, get_or-drop}
use native.Mathlib.Decide.{dec_lt}
use borrow.Author.Tests.{lt-ltb, le-ltb}
use Rattle.image.specs.Image.{least_at, lacks_at}
use Rattle.image.specs.Steps.{WholeTo, spared_in, Held, Under}

spared : (row free : ℕ) → row < 18 → spared_in row free ≡ free
spared row free h = simp (lt-ltb row 18 h)

unspared : (row free : ℕ) → 18 ≤ row → spared_in row free ≡ 0
unspared row free h = simp (le-ltb row 18 h)

pub low_row : (k : ℕ) → k % 4096 / 32 < 62 → k % 32 < 18 → k < 4096 → least_at k ≡ 0
unfolding least_at
low_row k h r l = simp (lt-ltb (k % 4096 / 32) 62 h, lt-ltb (k % 32) 18 r, lt-ltb k 4096 l)

pub high_row : (k : ℕ) → k % 4096 / 32 < 62 → k % 32 < 18 → 4096 ≤ k → least_at k ≡ 240
unfolding least_at
high_row k h r l = simp (lt-ltb (k % 4096 / 32) 62 h, lt-ltb (k % 32) 18 r, le-ltb k 4096 l)

pub no_row : (k : ℕ) → k % 4096 / 32 < 62 → 18 ≤ k % 32 → least_at k ≡ 255
unfolding least_at
no_row k h r = simp (lt-ltb (k % 4096 / 32) 62 h, le-ltb (k % 32) 18 r)

pub no_cell : (k : ℕ) → 62 ≤ k % 4096 / 32 → least_at k ≡ 255
unfolding least_at
no_cell k h = simp (le-ltb (k % 4096 / 32) 62 h)

module _ (image : List ℕ) (k : ℕ) where
  in_low : k < 1984 → 255 ≤ get_or image k 0 + spared_in (k % 32) 255 → lacks_at image k ≡ false
  in_low u h = go (dec_lt (k % 32) 18)
    where
      go : Dec (k % 32 < 18) → lacks_at image k ≡ false
      go (yes r) = le-ltb (get_or image k 0) (least_at k) (omega (arith, low_row k (omega arith) r (omega arith)))
      go (no r) = le-ltb (get_or image k 0) (least_at k) (omega (arith, h, no_row k (omega arith) (omega arith), unspared (k % 32) 255 (omega arith)))

  in_high : 4096 ≤ k → k < 6080 → 255 ≤ get_or image k 0 + spared_in (k % 32) 15 → lacks_at image k ≡ false
  in_high l u h = go (dec_lt (k % 32) 18)
    where
      go : Dec (k % 32 < 18) → lacks_at image k ≡ false
      go (yes r) = le-ltb (get_or image k 0) (least_at k) (omega (arith, h, high_row k (omega arith) r (omega arith), spared (k % 32) 15 r))
      go (no r) = le-ltb (get_or image k 0) (least_at k) (omega (arith, h, no_row k (omega arith) (omega arith), unspared (k % 32) 15 (omega arith)))

  outside : 62 ≤ k % 4096 / 32 → 255 ≤ get_or image k 0 + spared_in (k % 32) 0 → lacks_at image k ≡ false
  outside c h = go (dec_lt (k % 32) 18)
    where
      go : Dec (k % 32 < 18) → lacks_at image k ≡ false
      go (yes r) = le-ltb (get_or image k 0) (least_at k) (omega (arith, h, no_cell k c, spared (k % 32) 0 r))
      go (no r) = le-ltb (get_or image k 0) (least_at k) (omega (arith, h, no_cell k c, unspared (k % 32) 0 (omega arith)))

-- what is held of a part of the image
held_part : (image : List ℕ) (free from n : ℕ) → from % 32 ≡ 0 → from + n ≤ length image → Held (take n (drop from image)) free
    → (k : ℕ) → from ≤ k → k < from + n → 255 ≤ get_or image k 0 + spared_in (k % 32) free
held_part image free from n whole fits held k l u =
    let i = k - from in
    let long : length (take n (drop from image)) ≡ n = omega (arith, length-take n (drop from image), length-drop from image) in
    let byte : get_or (take n (drop from image)) i 0 ≡ get_or image k 0 =
    get_or-take n (drop from image) i 0 (omega arith) ∙ get_or-drop from image i 0 ∙ ap (λ j. get_or image j 0) (omega arith) in
    let place : i % 32 ≡ k % 32 = omega arith in
    omega (arith, held i (omega arith), byte, ap (λ j. spared_in j free) place)

-- the cells and the rest of either half
pub whole_parts : (image : List ℕ) → length image ≡ 8192 → Held (take 1984 image) 255 → Held (take 2112 (drop 1984 image)) 0
    → Held (take 1984 (drop 4096 image)) 15 → Held (take 2112 (drop 6080 image)) 0 → WholeTo image 8192
whole_parts image size low low_rest high high_rest = record { inside = omega arith; whole = λ k h. go k h (dec_lt k 1984) (dec_lt k 4096) (dec_lt k 6080) }
  where
    go : (k : ℕ) → k < 8192 → Dec (k < 1984) → Dec (k < 4096) → Dec (k < 6080) → lacks_at image k ≡ false
    go k u (yes x) y z = in_low image k x (held_part image 255 0 1984 refl (omega arith) low k (omega arith) x)
    go k u (no x) (yes y) z = outside image k (omega arith) (held_part image 0 1984 2112 refl (omega arith) low_rest k (omega arith) (omega arith))
    go k u (no x) (no y) (yes z) = in_high image k (omega arith) z (held_part image 15 4096 1984 refl (omega arith) high k (omega arith) (omega arith))
    go k u (no x) (no y) (no z) = outside image k (omega arith) (held_part image 0 6080 2112 refl (omega arith) high_rest k (omega arith) (omega arith))

-- what all bytes have at each place, and so each byte
pub held_all : (under strides : List ℕ) (free : ℕ) → length under ≡ 32 → Under under strides
    → ((k : ℕ) → k < 18 → bit_or (get_or under k 0) free ≡ 255) → ((k : ℕ) → k < 14 → bit_or (get_or under (18 + k) 0) 0 ≡ 255) → Held strides free
held_all under strides free long below rows others k u = go (dec_lt (k % 32) 18)
  where
    go : Dec (k % 32 < 18) → 255 ≤ get_or strides k 0 + spared_in (k % 32) free
    go (yes r) = omega (arith, below k u, rows (k % 32) r, or_add_and (get_or under (k % 32) 0) free, spared (k % 32) free r)
    go (no r) =
        let place : 18 + (k % 32 - 18) ≡ k % 32 = omega arith in
        omega (arith, below k u, others (k % 32 - 18) (omega arith), or_add_and (get_or under (18 + (k % 32 - 18)) 0) 0, ap (λ j. get_or under j 0) place)
