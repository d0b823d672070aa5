-- The bits of several rows together. In numbers of four parts the parts' bits come together part by part, and they are at most 4095 exactly if each row's are.
-- Assumes nothing.
use Rattle.std.proofs.Common.{◌≡◌, ℕ, ◌+◌, ◌*◌, ◌/◌, ◌%◌, ◌<◌, ◌≤◌, true, leb, List, get_or, sym, ap, ◌∙◌, add_comm, arith, le-leb, leb-true}
use native.Mathlib.Decide.{dec_lt}
use lib.Bits.{bit_or, or_lt, or_block}
use Rattle.laws.specs.Lists.{upto}
use Rattle.laws.proofs.Both.{both_parts, same_tests}
use Rattle.laws.proofs.Scan.{or_above}
use Rattle.laws.proofs.Tests.{upto_at, upto_all}
use Rattle.font.specs.Font.{rows_of_cell, most_row}
use Rattle.packer.specs.Steps.{two_at, four_at, narrow_rows, all_parts_narrow}

-- a number of four parts
abbrev parts : ℕ → ℕ → ℕ → ℕ → ℕ
parts a b c d = a + b * 65536 + (c + d * 65536) * 4294967296

or_two : (a b c d : ℕ) → a < 65536 → c < 65536 → bit_or (a + b * 65536) (c + d * 65536) ≡ bit_or a c + bit_or b d * 65536
or_two a b c d l m =
    ap (λ (n : ℕ). bit_or n (c + d * 65536)) (add_comm a (b * 65536)) ∙ ap (bit_or (b * 65536 + a)) (add_comm c (d * 65536))
    ∙ or_block 16 b d a c l m ∙ add_comm (bit_or b d * 65536) (bit_or a c)

or_parts : (a b c d a' b' c' d' : ℕ) → a < 65536 → b < 65536 → c < 65536 → a' < 65536 → b' < 65536 → c' < 65536
    → bit_or (parts a b c d) (parts a' b' c' d') ≡ parts (bit_or a a') (bit_or b b') (bit_or c c') (bit_or d d')
or_parts a b c d a' b' c' d' la lb lc la' lb' lc' =
    let low : a + b * 65536 < 4294967296 = omega arith in
    let low' : a' + b' * 65536 < 4294967296 = omega arith in
    let whole = or_block 32 (c + d * 65536) (c' + d' * 65536) (a + b * 65536) (a' + b' * 65536) low low' in
    ap (λ (n : ℕ). bit_or n (parts a' b' c' d')) (add_comm (a + b * 65536) ((c + d * 65536) * 4294967296))
    ∙ ap (bit_or ((c + d * 65536) * 4294967296 + (a + b * 65536))) (add_comm (a' + b' * 65536) ((c' + d' * 65536) * 4294967296))
    ∙ whole ∙ rw (or_two a b a' b' la la', or_two c d c' d' lc lc') (add_comm (parts_high) (parts_low))
  where
    parts_high : ℕ
    parts_high = (bit_or c c' + bit_or d d' * 65536) * 4294967296

    parts_low : ℕ
    parts_low = bit_or a a' + bit_or b b' * 65536

-- each of the parts
pub record Low (a b c d : ℕ) : Type 0 where
  pub first : a ≤ most_row
  pub second : b ≤ most_row
  pub third : c ≤ most_row
  pub fourth : d ≤ most_row

narrow_parts : (a b c d : ℕ) → a < 65536 → b < 65536 → c < 65536 → all_parts_narrow (parts a b c d) ≡ true → Low a b c d
unfolding all_parts_narrow
narrow_parts a b c d la lb lc e =
    let n : ℕ = parts a b c d in
    let one = both_parts (leb (n % 65536) most_row) _ e in
    let two = both_parts (leb (n / 65536 % 65536) most_row) _ one.1 in
    let three = both_parts (leb (n / 4294967296 % 65536) most_row) _ two.1 in
    record {
      first = omega (arith, leb-true (n % 65536) most_row one.0);
      second = omega (arith, leb-true (n / 65536 % 65536) most_row two.0);
      third = omega (arith, leb-true (n / 4294967296 % 65536) most_row three.0);
      fourth = omega (arith, leb-true (n / 4294967296 / 65536) most_row three.1);
    }

parts_narrow : (a b c d : ℕ) → Low a b c d → all_parts_narrow (parts a b c d) ≡ true
unfolding all_parts_narrow
parts_narrow a b c d low =
    let n : ℕ = parts a b c d in
    let one = le-leb (n % 65536) most_row (omega (arith, low.first, low.second, low.third, low.fourth)) in
    let two = le-leb (n / 65536 % 65536) most_row (omega (arith, low.first, low.second, low.third, low.fourth)) in
    let three = le-leb (n / 4294967296 % 65536) most_row (omega (arith, low.first, low.second, low.third, low.fourth)) in
    let four = le-leb (n / 4294967296 / 65536) most_row (omega (arith, low.first, low.second, low.third, low.fourth)) in
    rw (one, two, three, four)

-- the parts of four rows, and of two
four_is : (rows : List ℕ) (at : ℕ) → four_at rows at ≡ parts (get_or rows at 0) (get_or rows (at + 1) 0) (get_or rows (at + 2) 0) (get_or rows (at + 3) 0)
unfolding four_at two_at
four_is rows at =
    let last : at + 2 + 1 ≡ at + 3 = omega arith in
    rw last

two_is : (rows : List ℕ) (at : ℕ) → two_at rows at ≡ parts (get_or rows at 0) (get_or rows (at + 1) 0) 0 0
unfolding two_at
two_is rows at = omega arith

-- numbers of parts of 16 bits
pub record Parts (n : ℕ) : Type 0 where
  pub one : ℕ
  pub two : ℕ
  pub three : ℕ
  pub four : ℕ
  pub one_fits : one < 65536
  pub two_fits : two < 65536
  pub three_fits : three < 65536
  pub four_fits : four < 65536
  pub is : n ≡ parts one two three four

abbrev Narrow : {n : ℕ} → Parts n → Type 0
Narrow p = Low p.one p.two p.three p.four

abbrev or_of : {m n : ℕ} → Parts m → Parts n → Parts (bit_or m n)
or_of {m} {n} p q =
    record {
      one = bit_or p.one q.one;
      two = bit_or p.two q.two;
      three = bit_or p.three q.three;
      four = bit_or p.four q.four;
      one_fits = or_lt 16 p.one q.one p.one_fits q.one_fits;
      two_fits = or_lt 16 p.two q.two p.two_fits q.two_fits;
      three_fits = or_lt 16 p.three q.three p.three_fits q.three_fits;
      four_fits = or_lt 16 p.four q.four p.four_fits q.four_fits;
      is =
          ap (λ (k : ℕ). bit_or k n) p.is ∙ ap (bit_or (parts p.one p.two p.three p.four)) q.is
          ∙ or_parts p.one p.two p.three p.four q.one q.two q.three q.four p.one_fits p.two_fits p.three_fits q.one_fits q.two_fits q.three_fits;
    }

or_narrow : {m n : ℕ} (p : Parts m) (q : Parts n) → Narrow p → Narrow q → Narrow (or_of p q)
or_narrow p q a b =
    record {
      first = most p.one q.one a.first b.first;
      second = most p.two q.two a.second b.second;
      third = most p.three q.three a.third b.third;
      fourth = most p.four q.four a.fourth b.fourth;
    }
  where
    most : (x y : ℕ) → x ≤ most_row → y ≤ most_row → bit_or x y ≤ most_row
    most x y l m = omega (arith, or_lt 12 x y (omega arith) (omega arith))

narrow_or : {m n : ℕ} (p : Parts m) (q : Parts n) → Narrow (or_of p q) → Narrow p × Narrow q
narrow_or p q a =
    let one = or_above p.one q.one most_row a.first in
    let two = or_above p.two q.two most_row a.second in
    let three = or_above p.three q.three most_row a.third in
    let four = or_above p.four q.four most_row a.fourth in
    (record { first = one.0; second = two.0; third = three.0; fourth = four.0 }, record { first = one.1; second = two.1; third = three.1; fourth = four.1 })

is_narrow : {n : ℕ} (p : Parts n) → all_parts_narrow n ≡ true → Narrow p
is_narrow p e = narrow_parts p.one p.two p.three p.four p.one_fits p.two_fits p.three_fits (sym (ap all_parts_narrow p.is) ∙ e)

narrow_is : {n : ℕ} (p : Parts n) → Narrow p → all_parts_narrow n ≡ true
narrow_is p low = ap all_parts_narrow p.is ∙ parts_narrow p.one p.two p.three p.four low

module _ (glyph : List ℕ) (fits : (k : ℕ) → get_or glyph k 0 < 65536) where
  abbrev four_parts : (k : ℕ) → Parts (four_at glyph k)
  four_parts k =
      record {
        one = get_or glyph k 0;
        two = get_or glyph (k + 1) 0;
        three = get_or glyph (k + 2) 0;
        four = get_or glyph (k + 3) 0;
        one_fits = fits k;
        two_fits = fits (k + 1);
        three_fits = fits (k + 2);
        four_fits = fits (k + 3);
        is = four_is glyph k;
      }

  abbrev last_parts : Parts (two_at glyph 16)
  last_parts =
      record {
        one = get_or glyph 16 0;
        two = get_or glyph 17 0;
        three = 0;
        four = 0;
        one_fits = fits 16;
        two_fits = fits 17;
        three_fits = omega arith;
        four_fits = omega arith;
        is = two_is glyph 16;
      }

  abbrev all_parts : Parts (bit_or (bit_or (bit_or (four_at glyph 0) (four_at glyph 4)) (bit_or (four_at glyph 8) (four_at glyph 12))) (two_at glyph 16))
  all_parts = or_of (or_of (or_of (four_parts 0) (four_parts 4)) (or_of (four_parts 8) (four_parts 12))) last_parts

  -- each row is narrow
  abbrev Each : Type 0
  Each = (l : ℕ) → l < rows_of_cell → get_or glyph l 0 ≤ most_row

  -- four rows, by their parts
  four_each : (k : ℕ) → Narrow (four_parts k) → (l : ℕ) → k ≤ l → l < k + 4 → get_or glyph l 0 ≤ most_row
  four_each k low l from to = go (dec_lt l (k + 1)) (dec_lt l (k + 2)) (dec_lt l (k + 3))
    where
      here : (n : ℕ) → l ≡ n → get_or glyph n 0 ≤ most_row → get_or glyph l 0 ≤ most_row
      here n e h = rw e h

      go : Dec (l < k + 1) → Dec (l < k + 2) → Dec (l < k + 3) → get_or glyph l 0 ≤ most_row
      go (yes a) b c = here k (omega arith) low.first
      go (no a) (yes b) c = here (k + 1) (omega arith) low.second
      go (no a) (no b) (yes c) = here (k + 2) (omega arith) low.third
      go (no a) (no b) (no c) = here (k + 3) (omega arith) low.fourth

  each_four : Each → (k : ℕ) → k ≤ 14 → Narrow (four_parts k)
  each_four each k le = record { first = each k (omega arith); second = each (k + 1) (omega arith); third = each (k + 2) (omega arith); fourth = each (k + 3) (omega arith) }

  pub narrow_all : all_parts_narrow (bit_or (bit_or (bit_or (four_at glyph 0) (four_at glyph 4)) (bit_or (four_at glyph 8) (four_at glyph 12))) (two_at glyph 16))
      ≡ narrow_rows glyph
  unfolding narrow_rows
  narrow_all = same_tests _ _ there back
    where
      there : all_parts_narrow (bit_or (bit_or (bit_or (four_at glyph 0) (four_at glyph 4)) (bit_or (four_at glyph 8) (four_at glyph 12))) (two_at glyph 16)) ≡ true
          → upto rows_of_cell (λ l. leb (get_or glyph l 0) most_row) ≡ true
      there e = upto_all 18 (λ l. leb (get_or glyph l 0) most_row) (λ l h. le-leb _ _ (each l h (dec_lt l 4) (dec_lt l 8) (dec_lt l 12) (dec_lt l 16)))
        where
          words : Narrow (or_of (or_of (four_parts 0) (four_parts 4)) (or_of (four_parts 8) (four_parts 12))) × Narrow last_parts
          words = narrow_or (or_of (or_of (four_parts 0) (four_parts 4)) (or_of (four_parts 8) (four_parts 12))) last_parts (is_narrow all_parts e)

          halves : Narrow (or_of (four_parts 0) (four_parts 4)) × Narrow (or_of (four_parts 8) (four_parts 12))
          halves = narrow_or (or_of (four_parts 0) (four_parts 4)) (or_of (four_parts 8) (four_parts 12)) words.0

          upper : Narrow (four_parts 0) × Narrow (four_parts 4)
          upper = narrow_or (four_parts 0) (four_parts 4) halves.0

          lower : Narrow (four_parts 8) × Narrow (four_parts 12)
          lower = narrow_or (four_parts 8) (four_parts 12) halves.1

          each : (l : ℕ) → l < 18 → Dec (l < 4) → Dec (l < 8) → Dec (l < 12) → Dec (l < 16) → get_or glyph l 0 ≤ most_row
          each l h (yes a) b c d = four_each 0 upper.0 l (omega arith) (omega arith)
          each l h (no a) (yes b) c d = four_each 4 upper.1 l (omega arith) (omega arith)
          each l h (no a) (no b) (yes c) d = four_each 8 lower.0 l (omega arith) (omega arith)
          each l h (no a) (no b) (no c) (yes d) = four_each 12 lower.1 l (omega arith) (omega arith)
          each l h (no a) (no b) (no c) (no d) = last_one (dec_lt l 17)
            where
              last_one : Dec (l < 17) → get_or glyph l 0 ≤ most_row
              last_one (yes e) = let at16 : l ≡ 16 = omega arith in rw at16 words.1.first
              last_one (no e) = let at17 : l ≡ 17 = omega arith in rw at17 words.1.second

      back : upto rows_of_cell (λ l. leb (get_or glyph l 0) most_row) ≡ true
          → all_parts_narrow (bit_or (bit_or (bit_or (four_at glyph 0) (four_at glyph 4)) (bit_or (four_at glyph 8) (four_at glyph 12))) (two_at glyph 16)) ≡ true
      back e = narrow_is all_parts (or_narrow (or_of (or_of (four_parts 0) (four_parts 4)) (or_of (four_parts 8) (four_parts 12))) last_parts
          (or_narrow (or_of (four_parts 0) (four_parts 4)) (or_of (four_parts 8) (four_parts 12)) (or_narrow (four_parts 0) (four_parts 4) (each_four each 0 (omega arith)) (each_four each 4 (omega arith)))
          (or_narrow (four_parts 8) (four_parts 12) (each_four each 8 (omega arith)) (each_four each 12 (omega arith))))
          (record { first = each 16 (omega arith); second = each 17 (omega arith); third = omega arith; fourth = omega arith }))
        where
          each : (l : ℕ) → l < 18 → get_or glyph l 0 ≤ most_row
          each l h = leb-true _ _ (upto_at 18 (λ l. leb (get_or glyph l 0) most_row) e l h)
