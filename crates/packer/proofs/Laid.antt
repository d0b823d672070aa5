-- The font laid cell by cell: the rows of each pattern's first glyph, then 0.
-- Assumes nothing.
use Rattle.std.proofs.Common.{◌≡◌, ℕ, ◌+◌, ◌-◌, ◌*◌, ◌/◌, ◌%◌, ◌<◌, ◌≤◌, true, false, ltb, List, [], ◌++◌, length, get_or, replicate, take, drop, sym, ap, ◌∙◌, arith, rules, length-take, le-ltb, lt-ltb}
use Rattle.std.proofs.lemmas.List.{take-append-drop, get_or-take, get_or-replicate, length-replicate, places}
use Rattle.std.proofs.lemmas.Slice.{drop-put_mid}
use native.Mathlib.Decide.{ℕ_discrete}
use borrow.Rule.Slice.PartMut.{put_mid}
use native.Mathlib.Decide.{dec_lt}
use Rattle.laws.proofs.Lists.{is_tabulate}
use Rattle.font.specs.Font.{font_cells, rows_of_cell, font_rows, row_of}
use Rattle.packer.specs.Glyphs.{glyphs_in, first_in, patterns_in, packed_row, packed_font}
use Rattle.packer.specs.Steps.{pattern, AllNumbered, Laid}
use Rattle.packer.proofs.Patterns.{known}
use Rattle.packer.proofs.Table.{drawn_row}

-- a part of a list put anew
module _ (a k : ℕ) (xs ys : List ℕ) (same : length ys ≡ k) (there : a + k ≤ length xs) where
  put_below : (i : ℕ) → i < a → get_or (put_mid a k xs ys) i 0 ≡ get_or xs i 0
  put_below i l = search (rules, places)

  put_within : (i : ℕ) → i < k → get_or (put_mid a k xs ys) (a + i) 0 ≡ get_or ys i 0
  put_within i l = search (rules, places)

  put_length : length (put_mid a k xs ys) ≡ length xs
  put_length = search (rules, places)

-- one pattern's rows more
pub laid_more : (drawn : List (List ℕ)) (firsts font rows : List ℕ) (cell k : ℕ) → k ≡ 18 → 18 * cell + 18 ≤ length font → length rows ≡ 18 → rows ≡ pattern drawn firsts cell
    → ((c i : ℕ) → c < cell → i < 18 → get_or font (18 * c + i) 0 ≡ get_or (pattern drawn firsts c) i 0)
    → (c i : ℕ) → c < cell + 1 → i < 18 → get_or (put_mid (18 * cell) k font rows) (18 * c + i) 0 ≡ get_or (pattern drawn firsts c) i 0
laid_more drawn firsts font rows cell k e there size is before c i l m = go (ℕ_discrete c cell)
  where
    go : Dec (c ≡ cell) → get_or (put_mid (18 * cell) k font rows) (18 * c + i) 0 ≡ get_or (pattern drawn firsts c) i 0
    go (yes d) = rw d (put_within (18 * cell) k font rows (omega arith) (omega arith) i (omega arith) ∙ ap (λ (l : List ℕ). get_or l i 0) is)
    go (no d) = put_below (18 * cell) k font rows (omega arith) (omega arith) (18 * c + i) (omega arith) ∙ before c i (omega arith) m

-- and 0 behind them
pub laid_all : (drawn : List (List ℕ)) (firsts before font zeros : List ℕ) (used k : ℕ) → k ≡ 1116 - 18 * used → used ≤ font_cells → font_rows ≤ length font → length font ≡ length before
    → zeros ≡ replicate k 0
    → ((c i : ℕ) → c < used → i < 18 → get_or font (18 * c + i) 0 ≡ get_or (pattern drawn firsts c) i 0) → drop 1116 font ≡ drop 1116 before
    → Laid drawn firsts used before (put_mid (18 * used) k font zeros)
laid_all drawn firsts before font zeros used k e few room same is rows right =
    record {
      size = put_length (18 * used) k font zeros long (omega arith) ∙ same;
      rows = λ c l a b. put_below (18 * used) k font zeros long (omega arith) (18 * c + l) (omega arith) ∙ rows c l a b;
      rest = λ i a b. rest i a b;
      right = drop-put_mid (18 * used) k font zeros 1116 (omega arith) (omega arith) long ∙ right;
    }
  where
    long : length zeros ≡ k
    long = ap length is ∙ length-replicate k 0

    rest : (i : ℕ) → 18 * used ≤ i → i < 1116 → get_or (put_mid (18 * used) k font zeros) i 0 ≡ 0
    rest i a b =
        let at : 18 * used + (i - 18 * used) ≡ i = omega arith in
        ap (λ (j : ℕ). get_or (put_mid (18 * used) k font zeros) j 0) (sym at) ∙ put_within (18 * used) k font zeros long (omega arith) (i - 18 * used) (omega arith)
        ∙ ap (λ (l : List ℕ). get_or l (i - 18 * used) 0) is ∙ get_or-replicate k (i - 18 * used) 0 0 (omega arith)

-- row i of the font
abbrev pub font_row : List ℕ → ℕ → ℕ
font_row glyphs i = packed_row glyphs (i / rows_of_cell) (i % rows_of_cell)

-- row l of a cell that has a pattern
row_of_law : (glyphs : List ℕ) (c l : ℕ) → c < patterns_in glyphs → l < rows_of_cell → font_row glyphs (18 * c + l) ≡ row_of glyphs (first_in glyphs c) l
unfolding packed_row
row_of_law glyphs c l a b =
    let cell : (18 * c + l) / 18 ≡ c = omega arith in
    let row : (18 * c + l) % 18 ≡ l = omega arith in
    let used : ltb c (patterns_in glyphs) ≡ true = lt-ltb _ _ a in
    rw (cell, row, used)

-- a row behind all patterns
row_left : (glyphs : List ℕ) (i : ℕ) → 18 * patterns_in glyphs ≤ i → 0 ≡ font_row glyphs i
unfolding packed_row
row_left glyphs i le =
    let left : ltb (i / 18) (patterns_in glyphs) ≡ false = le-ltb (i / 18) (patterns_in glyphs) (omega arith) in
    rw left

-- the patterns' rows, and 0 behind them, are the packed font before what the font held past it
pub laid_font : (glyphs : List ℕ) (drawn : List (List ℕ)) (firsts numbers before after : List ℕ) (used : ℕ) → AllNumbered glyphs drawn firsts used numbers → font_rows ≤ length before
    → Laid drawn firsts used before after → after ≡ packed_font glyphs ++ drop font_rows before
laid_font glyphs drawn firsts numbers before after used n room laid =
    sym (take-append-drop 1116 after) ∙ ap (λ (l : List ℕ). l ++ drop 1116 after) (is_tabulate 0 1116 (font_row glyphs) (take 1116 after) size (λ k h. get_or-take 1116 after k 0 h ∙ go k h (dec_lt k (18 * used))))
    ∙ ap (λ (l : List ℕ). packed_font glyphs ++ l) laid.right
  where
    size : length (take 1116 after) ≡ 1116
    size = simp length-take (omega (arith, laid.size, room))

    go : (k : ℕ) → k < 1116 → Dec (k < 18 * used) → get_or after k 0 ≡ font_row glyphs k
    go k h (yes d) =
        let at : 18 * (k / 18) + k % 18 ≡ k = omega arith in
        let there = known glyphs (glyphs_in glyphs) (k / 18) (omega arith) (omega (arith, n.all)) in
        ap (λ (i : ℕ). get_or after i 0) (sym at) ∙ laid.rows (k / 18) (k % 18) (omega arith) (omega arith)
        ∙ ap (λ (g : ℕ). get_or (get_or drawn g []) (k % 18) 0) (n.first (k / 18) (omega arith))
        ∙ drawn_row glyphs drawn n.chunks (first_in glyphs (k / 18)) (k % 18) there.below (omega arith)
        ∙ sym (row_of_law glyphs (k / 18) (k % 18) (omega (arith, n.all)) (omega arith)) ∙ ap (font_row glyphs) at
    go k h (no d) = laid.rest k (omega arith) h ∙ row_left glyphs k (omega (arith, n.all))
