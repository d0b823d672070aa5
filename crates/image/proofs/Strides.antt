-- A stride of the image lacks nothing where the places of a cell's rows reach the least byte of its first address and the others have all
-- bits set: the least byte changes only after the rows.
-- Assumes nothing.
use Rattle.std.proofs.Common.{◌≡◌, ℕ, ◌+◌, ◌-◌, ◌/◌, ◌%◌, ◌<◌, ◌≤◌, Bool, true, false, ◌||◌, nat_lt, zero, suc, List, [], ◌∷◌, length, get_or, take, drop, fold, ltb, refl, sym, ◌∙◌, ap, arith, length-take, length-drop}
use Rattle.std.proofs.lemmas.List.{get_or-take, get_or-drop}
use Rattle.std.proofs.lemmas.List.Folds.{fold_stays}
use native.Mathlib.Decide.{dec_lt}
use Rattle.std.proofs.lemmas.Bool.{lt-ltb, le-ltb, ltb-false, false≢true}
use Rattle.laws.specs.Pick.{pick}
use Rattle.image.specs.Image.{least_at, lacks_at, has_row}

-- of bytes among which none is found below a bound each reaches it
pub none_below : (bound : ℕ) (xs : List ℕ) → fold (λ below byte. below || nat_lt byte bound) false xs ≡ false → (k : ℕ) → k < length xs → bound ≤ get_or xs k 0
none_below bound [] e k h = absurd (omega arith)
none_below bound (x ∷ xs) e k h = go (ltb x bound) refl (none_below bound xs) e k h
  where
    go : (b : Bool) → ltb x bound ≡ b → (fold (λ below byte. below || nat_lt byte bound) false xs ≡ false → (k : ℕ) → k < length xs → bound ≤ get_or xs k 0)
        → fold (λ below byte. below || nat_lt byte bound) b xs ≡ false → (k : ℕ) → k < length (x ∷ xs) → bound ≤ get_or (x ∷ xs) k 0
    go true s rest r k h = absurd (false≢true (sym r ∙ fold_stays (λ below byte. below || nat_lt byte bound) true (λ byte. refl) xs))
    go false s rest r zero h = ltb-false x bound s
    go false s rest r (suc k) h = rest r k (omega arith)

pub part_reaches : (image : List ℕ) (bound from n : ℕ) → from + n ≤ length image
    → ((k : ℕ) → k < length (take n (drop from image)) → bound ≤ get_or (take n (drop from image)) k 0) → (k : ℕ) → k < n → bound ≤ get_or image (from + k) 0
part_reaches image bound from n fits reach k h =
    omega (arith, reach k (omega (arith, length-take n (drop from image), length-drop from image)), get_or-take n (drop from image) k 0 h, get_or-drop from image k 0)

least_most : (address : ℕ) → least_at address ≤ 255
unfolding least_at
least_most address = go (has_row address) (ltb address 4096)
  where
    go : (b d : Bool) → pick b (pick d 0 240) 255 ≤ 255
    go true true = omega arith
    go true false = omega arith
    go false d = omega arith

module _ (at : ℕ) (whole : at % 32 ≡ 0) where
  least_same : (k : ℕ) → k < 18 → least_at (at + k) ≡ least_at at
  unfolding least_at
  least_same k h =
      let cell : (at + k) % 4096 / 32 ≡ at % 4096 / 32 = omega arith in
      let row : (at + k) % 32 ≡ k = omega arith in
      rw (cell, row, whole, lt-ltb k 18 h, half (dec_lt at 4096))
    where
      half : Dec (at < 4096) → ltb (at + k) 4096 ≡ ltb at 4096
      half (yes l) = lt-ltb (at + k) 4096 (omega arith) ∙ sym (lt-ltb at 4096 l)
      half (no l) = le-ltb (at + k) 4096 (omega arith) ∙ sym (le-ltb at 4096 (omega arith))

  -- one stride more that lacks nothing
  pub whole_more : (image : List ℕ) → ((k : ℕ) → k < at → lacks_at image k ≡ false)
      → ((k : ℕ) → k < 18 → least_at at ≤ get_or image (at + k) 0)
      → ((k : ℕ) → k < 14 → 255 ≤ get_or image (at + 18 + k) 0)
      → (k : ℕ) → k < at + 32 → lacks_at image k ≡ false
  whole_more image before rows others k h = go (dec_lt k at) (dec_lt k (at + 18))
    where
      go : Dec (k < at) → Dec (k < at + 18) → lacks_at image k ≡ false
      go (yes l) d = before k l
      go (no l) (yes d) =
          let e : at + (k - at) ≡ k = omega arith in
          le-ltb (get_or image k 0) (least_at k)
          (omega (arith, rows (k - at) (omega arith), least_same (k - at) (omega arith), ap least_at e, ap (λ n. get_or image n 0) e))
      go (no l) (no d) =
          let e : at + 18 + (k - at - 18) ≡ k = omega arith in
          le-ltb (get_or image k 0) (least_at k) (omega (arith, others (k - at - 18) (omega arith), least_most k, ap (λ n. get_or image n 0) e))
