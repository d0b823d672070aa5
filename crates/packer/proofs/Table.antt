-- What `number` keeps: of the glyphs before g, the cell of each; of the patterns among them, the first glyph. Glyphs before g have no row above 4095, so that of
-- them, and of such a glyph g, equal rows are equal dots.
-- Assumes nothing.
use Rattle.std.proofs.Common.{◌≡◌, ℕ, zero, suc, ◌+◌, ◌*◌, ◌/◌, ◌%◌, ◌<◌, ◌≤◌, Bool, true, false, leb, List, [], Some, None, Err, length, get_or, set, take, drop, sym, refl, ap, ◌∙◌, subst, arith, get_or-set_other, get_or-set_same, le-leb, leb-true}
use Rattle.std.proofs.lemmas.List.{get_or-drop, get_or-take, drop-drop}
use Rattle.std.specs.Simd.{first_chunks}
use mathlib.Core.Bool.{false≢true}
use native.Mathlib.Decide.{ℕ_discrete}
use Rattle.laws.specs.Pick.{pick, both}
use Rattle.laws.specs.Lists.{count_of}
use Rattle.laws.specs.Within.{within}
use Rattle.laws.proofs.Both.{none_right}
use Rattle.laws.proofs.Tests.{upto_at, upto_all}
use Rattle.font.specs.Font.{font_cells, rows_of_cell, most_row, row_of}
use Rattle.font.proofs.Each.{within_at, within_each}
use Rattle.packer.specs.declared.PackError.{PackError}
use Rattle.packer.specs.declared.PackError.TheVariants.{NotGlyphs, TooManyPatterns}
use Rattle.packer.specs.Glyphs.{most_glyphs, glyphs_in, same_pattern, is_first, patterns_before, patterns_in, cell_for, first_in}
use Rattle.packer.specs.Packing.{all_whole, are_glyphs}
use Rattle.packer.specs.Steps.{same_rows, narrow_rows, over_of, pattern, Found, Added, ToNumber, AllNumbered, Numbered}
use Rattle.packer.proofs.Asked.{whole_parts}
use Rattle.packer.proofs.Dots.{rows_same, same_rows as rows_alike}
use Rattle.packer.proofs.Words.{same_rows_at, rows_same as same_where}
use Rattle.packer.proofs.Patterns.{before_more, before_grows, first_cell, cell_first, first_in_law, known, found, not_found}

-- a list in chunks of 18
pub chunks_length : (n : ℕ) (xs : List ℕ) → length (first_chunks 18 n xs) ≡ n
chunks_length zero xs = refl
chunks_length (suc n) xs = ap suc (chunks_length n (drop 18 xs))

chunk_at : (n g : ℕ) (xs : List ℕ) → g < n → get_or (first_chunks 18 n xs) g [] ≡ take 18 (drop (18 * g) xs)
chunk_at zero g xs l = absurd (omega (arith, l))
chunk_at (suc n) zero xs l = refl
chunk_at (suc n) (suc g) xs l =
    let at : 18 + 18 * g ≡ 18 * suc g = omega arith in
    chunk_at n g (drop 18 xs) (omega (arith, l)) ∙ ap (take 18) (drop-drop (18 * g) 18 xs ∙ ap (λ (k : ℕ). drop k xs) at)

module _ (glyphs : List ℕ) (drawn : List (List ℕ)) (chunks : drawn ≡ first_chunks rows_of_cell (glyphs_in glyphs) glyphs) where
  pub drawn_length : length drawn ≡ glyphs_in glyphs
  drawn_length = ap (λ (xss : List (List ℕ)). length xss) chunks ∙ chunks_length (glyphs_in glyphs) glyphs

  pub drawn_row : (g l : ℕ) → g < glyphs_in glyphs → l < rows_of_cell → get_or (get_or drawn g []) l 0 ≡ row_of glyphs g l
  drawn_row g l a b =
      ap (λ (xss : List (List ℕ)). get_or (get_or xss g []) l 0) chunks ∙ ap (λ (xs : List ℕ). get_or xs l 0) (chunk_at (glyphs_in glyphs) g glyphs a)
      ∙ get_or-take 18 (drop (18 * g) glyphs) l 0 b ∙ get_or-drop (18 * g) glyphs l 0

  -- what it is for a glyph to be narrow, and for two to have the same rows
  narrow_row : (g : ℕ) → g < glyphs_in glyphs → narrow_rows (get_or drawn g []) ≡ true → (l : ℕ) → l < rows_of_cell → row_of glyphs g l ≤ most_row
  unfolding narrow_rows
  narrow_row g a e l h = omega (arith, drawn_row g l a h, leb-true _ _ (upto_at 18 (λ l. leb (get_or (get_or drawn g []) l 0) most_row) e l h))

  row_narrow : (g : ℕ) → g < glyphs_in glyphs → ((l : ℕ) → l < rows_of_cell → row_of glyphs g l ≤ most_row) → narrow_rows (get_or drawn g []) ≡ true
  unfolding narrow_rows
  row_narrow g a e = upto_all 18 (λ l. leb (get_or (get_or drawn g []) l 0) most_row) (λ l h. le-leb _ _ (omega (arith, drawn_row g l a h, e l h)))

  row_alike : (g h : ℕ) → g < glyphs_in glyphs → h < glyphs_in glyphs → same_rows (get_or drawn g []) (get_or drawn h []) ≡ true
      → (l : ℕ) → l < rows_of_cell → row_of glyphs g l ≡ row_of glyphs h l
  row_alike g h a b e l m = sym (drawn_row g l a m) ∙ same_rows_at (get_or drawn g []) (get_or drawn h []) e l m ∙ drawn_row h l b m

  alike_row : (g h : ℕ) → g < glyphs_in glyphs → h < glyphs_in glyphs → ((l : ℕ) → l < rows_of_cell → row_of glyphs g l ≡ row_of glyphs h l)
      → same_rows (get_or drawn g []) (get_or drawn h []) ≡ true
  alike_row g h a b e = same_where (get_or drawn g []) (get_or drawn h []) (λ l m. drawn_row g l a m ∙ e l m ∙ sym (drawn_row h l b m))

-- glyph g is the same in both
pub glyph_is : (glyphs : List ℕ) (drawn drawn' : List (List ℕ)) (g : ℕ) → drawn ≡ first_chunks rows_of_cell (glyphs_in glyphs) glyphs
    → drawn' ≡ first_chunks rows_of_cell (glyphs_in glyphs) glyphs → get_or drawn g [] ≡ get_or drawn' g []
glyph_is glyphs drawn drawn' g e e' = ap (λ (rows : List (List ℕ)). get_or rows g []) (e ∙ sym e')

pub record Table (glyphs : List ℕ) (drawn : List (List ℕ)) (g used : ℕ) (firsts numbers : List ℕ) : Type 0 where
  pub chunks : drawn ≡ first_chunks rows_of_cell (glyphs_in glyphs) glyphs
  pub below : g ≤ glyphs_in glyphs
  pub all : used ≡ patterns_before glyphs g
  pub narrow : (h : ℕ) → h < g → (l : ℕ) → l < rows_of_cell → row_of glyphs h l ≤ most_row
  pub first : (c : ℕ) → c < used → get_or firsts c 0 ≡ first_in glyphs c
  pub cell : (h : ℕ) → h < g → get_or numbers h 0 ≡ cell_for glyphs h

pub table_none : (glyphs : List ℕ) (drawn : List (List ℕ)) (used : ℕ) (firsts numbers : List ℕ) → ToNumber glyphs drawn used → Table glyphs drawn 0 used firsts numbers
unfolding patterns_before count_of
table_none glyphs drawn used firsts numbers pre =
    record {
      chunks = pre.chunks;
      below = omega arith;
      all = pre.none;
      narrow = λ h l. absurd (omega arith);
      first = λ c l. absurd (omega (arith, pre.none));
      cell = λ h l. absurd (omega arith);
    }

module _ (glyphs : List ℕ) (drawn : List (List ℕ)) (g used : ℕ) (firsts numbers : List ℕ) (whole : all_whole glyphs ≡ true)
    (t : Table glyphs drawn g used firsts numbers) (l : g < glyphs_in glyphs) where
  -- what is known of the patterns met
  first_there : (c : ℕ) → c < used → first_in glyphs c < g
  first_there c m = (known glyphs g c t.below (let a = t.all in omega arith)).below

  pattern_is : (c : ℕ) → c < used → pattern drawn firsts c ≡ get_or drawn (first_in glyphs c) []
  pattern_is c m = ap (λ (i : ℕ). get_or drawn i []) (t.first c m)

  narrow_more : ((l : ℕ) → l < rows_of_cell → row_of glyphs g l ≤ most_row) → (h : ℕ) → h < g + 1 → (l : ℕ) → l < rows_of_cell → row_of glyphs h l ≤ most_row
  narrow_more here h m l n = go (ℕ_discrete h g)
    where
      go : Dec (h ≡ g) → row_of glyphs h l ≤ most_row
      go (yes d) = rw d (here l n)
      go (no d) = t.narrow h (omega arith) l n

  cell_more : (v : ℕ) → length numbers ≡ most_glyphs → v ≡ cell_for glyphs g → (h : ℕ) → h < g + 1 → get_or (set numbers g v) h 0 ≡ cell_for glyphs h
  cell_more v places is h m = go (ℕ_discrete h g)
    where
      few : glyphs_in glyphs ≤ most_glyphs
      few = (whole_parts glyphs whole).1

      go : Dec (h ≡ g) → get_or (set numbers g v) h 0 ≡ cell_for glyphs h
      go (yes d) = rw d (get_or-set_same numbers g v 0 (omega (arith, places, few)) ∙ is)
      go (no d) = get_or-set_other numbers g h v 0 d ∙ t.cell h (omega arith)

  -- a pattern that was met: the glyph has its cell, and is as narrow
  pub table_old : (c : ℕ) → length numbers ≡ most_glyphs → Found drawn firsts used (get_or drawn g []) (Some c) → Table glyphs drawn (g + 1) used firsts (set numbers g c)
  table_old c places by =
      record {
        chunks = t.chunks;
        below = omega arith;
        all = t.all ∙ sym (before_more glyphs g ∙ later (is_first glyphs g) refl);
        narrow = narrow_more slim;
        first = t.first;
        cell = cell_more c places (sym cell);
      }
    where
      low : c < used
      low = by.0

      there : first_in glyphs c < g
      there = first_there c low

      rows : (l : ℕ) → l < rows_of_cell → row_of glyphs (first_in glyphs c) l ≡ row_of glyphs g l
      rows = row_alike glyphs drawn t.chunks (first_in glyphs c) g (omega (arith, there)) l (sym (ap (λ (r : List ℕ). same_rows r (get_or drawn g [])) (pattern_is c low)) ∙ by.1)

      cell : cell_for glyphs g ≡ c
      cell = found glyphs g c t.below (let a = t.all in omega arith) (rows_same glyphs (first_in glyphs c) g rows)

      slim : (l : ℕ) → l < rows_of_cell → row_of glyphs g l ≤ most_row
      slim k m = omega (arith, rows k m, t.narrow (first_in glyphs c) there k m)

      later : (b : Bool) → is_first glyphs g ≡ b → pick b 1 0 + patterns_before glyphs g ≡ patterns_before glyphs g
      later true e = absurd (omega (arith, low, cell, cell_first glyphs g e, t.all))
      later false e = omega arith

  -- a narrow glyph with the rows of no pattern takes the next cell
  module _ (by : Found drawn firsts used (get_or drawn g []) None) (narrow : narrow_rows (get_or drawn g []) ≡ true) where
    new_cell : cell_for glyphs g ≡ used
    new_cell = not_found glyphs g l (λ c m. go c (omega (arith, t.all)) (same_pattern glyphs (first_in glyphs c) g) refl) ∙ sym t.all
      where
        go : (c : ℕ) → c < used → (b : Bool) → same_pattern glyphs (first_in glyphs c) g ≡ b → b ≡ false
        go c m true like =
            let there = first_there c m in
            let rows = rows_alike glyphs (first_in glyphs c) g (t.narrow (first_in glyphs c) there) (narrow_row glyphs drawn t.chunks g l narrow) like in
            absurd (false≢true (sym (by c m) ∙ ap (λ (r : List ℕ). same_rows r (get_or drawn g [])) (pattern_is c m) ∙ alike_row glyphs drawn t.chunks (first_in glyphs c) g (omega arith) l rows))
        go c m false like = refl

    first : is_first glyphs g ≡ true
    first = first_cell glyphs g (new_cell ∙ t.all)

    more : patterns_before glyphs (g + 1) ≡ 1 + patterns_before glyphs g
    more = before_more glyphs g ∙ rw first

    -- too many patterns
    pub table_over : used ≡ 62 → (drawn' : List (List ℕ)) (firsts' : List ℕ) (used' : ℕ) (numbers' : List ℕ) (e : PackError) → e ≡ over_of glyphs → Numbered glyphs drawn' firsts' used' numbers' (Err e)
    unfolding are_glyphs
    table_over full drawn' firsts' used' numbers' e is = subst (λ e. Numbered glyphs drawn' firsts' used' numbers' (Err e)) (sym is) (go (within most_row glyphs) refl)
      where
        many : font_cells < patterns_in glyphs
        many = omega (arith, more, t.all, before_grows glyphs (g + 1) (glyphs_in glyphs) (omega arith))

        go : (b : Bool) → within most_row glyphs ≡ b → Numbered glyphs drawn' firsts' used' numbers' (Err (pick b TooManyPatterns NotGlyphs))
        go true w = (rw (whole, w), many)
        go false w = none_right (all_whole glyphs) (within most_row glyphs) w

    -- a new one
    table_new : length numbers ≡ most_glyphs → length firsts ≡ font_cells → used < font_cells → Table glyphs drawn (g + 1) (used + 1) (set firsts used g) (set numbers g used)
    table_new places roomy few =
        record {
          chunks = t.chunks;
          below = omega arith;
          all = ap (λ n. n + 1) t.all ∙ omega (arith, more);
          narrow = narrow_more (narrow_row glyphs drawn t.chunks g l narrow);
          first = λ c m. go c m (ℕ_discrete c used);
          cell = cell_more used places (sym new_cell);
        }
      where
        here : first_in glyphs used ≡ g
        here = ap (first_in glyphs) t.all ∙ first_in_law glyphs g l first

        go : (c : ℕ) → c < used + 1 → Dec (c ≡ used) → get_or (set firsts used g) c 0 ≡ first_in glyphs c
        go c m (yes d) = rw d (get_or-set_same firsts used g 0 (omega (arith, roomy, few)) ∙ sym here)
        go c m (no d) = get_or-set_other firsts used c g 0 d ∙ t.first c (omega arith)

    pub table_added : (drawn' : List (List ℕ)) (firsts' : List ℕ) (used' cell : ℕ) → Added drawn firsts used g drawn' firsts' used' cell
        → length numbers ≡ most_glyphs → length firsts ≡ font_cells → used < font_cells → Table glyphs drawn' (g + 1) used' firsts' (set numbers g cell)
    table_added drawn' firsts' used' cell a places roomy few = rw (a.same, a.first, a.one, a.here) (table_new places roomy few)

  -- a row too wide
  pub table_wide : narrow_rows (get_or drawn g []) ≡ false → are_glyphs glyphs ≡ false
  unfolding are_glyphs
  table_wide wide = go (within most_row glyphs) refl
    where
      go : (b : Bool) → within most_row glyphs ≡ b → both (all_whole glyphs) b ≡ false
      go true w = absurd (false≢true (sym wide ∙ row_narrow glyphs drawn t.chunks g l (λ k h. within_at most_row glyphs w (18 * g + k))))
      go false w = none_right (all_whole glyphs) false refl

-- all glyphs are numbered
pub table_all : (glyphs : List ℕ) (drawn : List (List ℕ)) (g used : ℕ) (firsts numbers : List ℕ) → all_whole glyphs ≡ true → used ≤ font_cells → g ≡ glyphs_in glyphs
    → Table glyphs drawn g used firsts numbers → AllNumbered glyphs drawn firsts used numbers
unfolding are_glyphs
table_all glyphs drawn g used firsts numbers shape few e t =
    record {
      are = rw (shape, within_each most_row glyphs each);
      chunks = t.chunks;
      all = t.all ∙ ap (patterns_before glyphs) e;
      few = few;
      first = t.first;
      cell = λ k m. t.cell k (omega arith);
    }
  where
    each : (k : ℕ) → k < length glyphs → get_or glyphs k 0 ≤ most_row
    each k m =
        let whole = (whole_parts glyphs shape).0 in
        let row : 18 * (k / 18) + k % 18 ≡ k = omega arith in
        omega (arith, t.narrow (k / 18) (omega arith) (k % 18) (omega arith), ap (λ (i : ℕ). get_or glyphs i 0) row)
