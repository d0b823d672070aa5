-- Patterns in the order in which they appear. Each glyph's pattern appears first with one glyph; as many patterns appear before that as the cell says;
-- so the first glyph of each cell is known, and a glyph's cell is found by comparing it with those.
-- Assumes nothing.
use Rattle.std.proofs.Common.{◌≡◌, ℕ, ◌+◌, ◌<◌, ◌≤◌, Bool, true, false, eqb, List, sym, refl, ap, ◌∙◌, arith, eq-eqb, ne_eqb, eqb-true}
use mathlib.Core.Bool.{false≢true}
use native.Mathlib.Decide.{dec_lt}
use Rattle.laws.specs.Pick.{pick}
use Rattle.laws.specs.Lists.{first_of}
use Rattle.laws.proofs.Lists.{first_is, first_none, first_most, first_before, first_at}
use Rattle.laws.proofs.Counts.{count_more, count_before, count_after, Reached, count_at}
use Rattle.packer.specs.Glyphs.{glyphs_in, same_pattern, first_like, is_first, patterns_before, cell_for, first_in}
use Rattle.packer.proofs.Dots.{like_self, like_back, like_on}

module _ (glyphs : List ℕ) where
  pub first_most_here : (g : ℕ) → first_like glyphs g ≤ g
  unfolding first_like
  first_most_here g = first_most g (same_pattern glyphs g)

  -- a glyph is like the first of its pattern
  pub like_first : (g : ℕ) → same_pattern glyphs g (first_like glyphs g) ≡ true
  unfolding first_like
  like_first g = go (dec_lt (first_of g (same_pattern glyphs g)) g)
    where
      go : Dec (first_of g (same_pattern glyphs g) < g) → same_pattern glyphs g (first_of g (same_pattern glyphs g)) ≡ true
      go (yes l) = first_at g (same_pattern glyphs g) l
      go (no l) =
          let here : first_of g (same_pattern glyphs g) ≡ g = omega (arith, first_most g (same_pattern glyphs g)) in
          rw here (like_self glyphs g)

  -- no glyph before the first is like it
  pub none_before : (g k : ℕ) → is_first glyphs g ≡ true → k < g → same_pattern glyphs g k ≡ true → ⊥
  unfolding first_like
  none_before g k first l like =
      let here : first_of g (same_pattern glyphs g) ≡ g = eqb-true _ _ first in
      false≢true (sym (first_before g (same_pattern glyphs g) k (omega arith)) ∙ like)

  pub first_where : (g : ℕ) → ((k : ℕ) → k < g → same_pattern glyphs g k ≡ true → ⊥) → is_first glyphs g ≡ true
  unfolding first_like
  first_where g none = eq-eqb _ _ (first_none g (same_pattern glyphs g) (λ k l. go k l (same_pattern glyphs g k) refl))
    where
      go : (k : ℕ) → k < g → (t : Bool) → same_pattern glyphs g k ≡ t → t ≡ false
      go k l true e = absurd (none k l e)
      go k l false e = refl

  -- the first of a pattern is a first one
  pub first_first : (g : ℕ) → is_first glyphs (first_like glyphs g) ≡ true
  unfolding first_like
  first_first g = first_where f (λ k l like. false≢true (sym (first_before g (same_pattern glyphs g) k l) ∙ like_on glyphs g f k (like_first g) like))
    where
      f : ℕ
      f = first_like glyphs g

  -- it is the one first glyph that a glyph is like
  pub first_one : (g k : ℕ) → k ≤ g → is_first glyphs k ≡ true → same_pattern glyphs g k ≡ true → first_like glyphs g ≡ k
  unfolding first_like
  first_one g k le first like = go (dec_lt k g)
    where
      before : (j : ℕ) → j < k → (t : Bool) → same_pattern glyphs g j ≡ t → t ≡ false
      before j l true e = absurd (none_before k j first l (like_on glyphs k g j (like_back glyphs g k like) e))
      before j l false e = refl

      go : Dec (k < g) → first_of g (same_pattern glyphs g) ≡ k
      go (yes l) = first_is g (same_pattern glyphs g) k l (λ j m. before j m (same_pattern glyphs g j) refl) like
      go (no l) =
          let here : k ≡ g = omega arith in
          rw here (eqb-true _ _ (rw here at first))

  pub before_more : (g : ℕ) → patterns_before glyphs (g + 1) ≡ pick (is_first glyphs g) 1 0 + patterns_before glyphs g
  unfolding patterns_before
  before_more g = count_more (is_first glyphs) g

  pub before_grows : (g h : ℕ) → g ≤ h → patterns_before glyphs g ≤ patterns_before glyphs h
  unfolding patterns_before
  before_grows g h le = count_before (is_first glyphs) g h le

  -- cells of the glyphs before g are below the number of patterns there
  pub cell_below : (g h : ℕ) → g < h → cell_for glyphs g < patterns_before glyphs h
  unfolding cell_for patterns_before
  cell_below g h l = count_after (is_first glyphs) (first_like glyphs g) h (omega (arith, first_most_here g)) (first_first g)

  -- the first of a pattern takes the next cell, and no other glyph does
  pub cell_first : (g : ℕ) → is_first glyphs g ≡ true → cell_for glyphs g ≡ patterns_before glyphs g
  unfolding cell_for
  cell_first g first = ap (patterns_before glyphs) (eqb-true _ _ first)

  pub first_cell : (g : ℕ) → cell_for glyphs g ≡ patterns_before glyphs g → is_first glyphs g ≡ true
  unfolding cell_for patterns_before
  first_cell g e = go (dec_lt (first_like glyphs g) g)
    where
      go : Dec (first_like glyphs g < g) → is_first glyphs g ≡ true
      go (yes l) = absurd (omega (arith, e, count_after (is_first glyphs) (first_like glyphs g) g l (first_first g)))
      go (no l) = eq-eqb (first_like glyphs g) g (omega (arith, first_most_here g))

  -- likeness is what glyphs of one cell have in common
  pub like_cell : (g h : ℕ) → same_pattern glyphs g h ≡ true → cell_for glyphs g ≡ cell_for glyphs h
  unfolding cell_for
  like_cell g h like = ap (patterns_before glyphs) (go (dec_lt (first_like glyphs h) (g + 1)))
    where
      on_first_law : same_pattern glyphs g (first_like glyphs h) ≡ true
      on_first_law = like_on glyphs g h (first_like glyphs h) like (like_first h)

      back_first : same_pattern glyphs h (first_like glyphs g) ≡ true
      back_first = like_on glyphs h g (first_like glyphs g) (like_back glyphs g h like) (like_first g)

      go : Dec (first_like glyphs h < g + 1) → first_like glyphs g ≡ first_like glyphs h
      go (yes l) = first_one g (first_like glyphs h) (omega arith) (first_first h) on_first_law
      go (no l) = sym (first_one h (first_like glyphs g) (omega (arith, first_most_here g, first_most_here h)) (first_first g) back_first)

  pub cell_like : (g h : ℕ) → cell_for glyphs g ≡ cell_for glyphs h → same_pattern glyphs g h ≡ true
  unfolding cell_for patterns_before
  cell_like g h e = go (dec_lt (first_like glyphs g) (first_like glyphs h)) (dec_lt (first_like glyphs h) (first_like glyphs g))
    where
      go : Dec (first_like glyphs g < first_like glyphs h) → Dec (first_like glyphs h < first_like glyphs g) → same_pattern glyphs g h ≡ true
      go (yes l) d = absurd (omega (arith, e, count_after (is_first glyphs) (first_like glyphs g) (first_like glyphs h) l (first_first g)))
      go (no l) (yes d) = absurd (omega (arith, e, count_after (is_first glyphs) (first_like glyphs h) (first_like glyphs g) d (first_first h)))
      go (no l) (no d) =
          let one : first_like glyphs g ≡ first_like glyphs h = omega arith in
          like_on glyphs g (first_like glyphs h) h (rw one at (like_first g)) (like_back glyphs h (first_like glyphs h) (like_first h))

  -- a first glyph is the first one in its cell
  pub first_in_law : (g : ℕ) → g < glyphs_in glyphs → is_first glyphs g ≡ true → first_in glyphs (patterns_before glyphs g) ≡ g
  unfolding first_in
  first_in_law g l first =
      first_is (glyphs_in glyphs) (λ k. eqb (cell_for glyphs k) (patterns_before glyphs g)) g l
      (λ k m. ne_eqb (cell_for glyphs k) (patterns_before glyphs g) (λ e. let lt = cell_below k g m in omega arith))
      (eq-eqb (cell_for glyphs g) (patterns_before glyphs g) (cell_first g first))

-- what is known of a cell whose pattern appears before glyph g
pub record Known (glyphs : List ℕ) (g c : ℕ) : Type 0 where
  pub below : first_in glyphs c < g
  pub first : is_first glyphs (first_in glyphs c) ≡ true
  pub count : patterns_before glyphs (first_in glyphs c) ≡ c

module _ (glyphs : List ℕ) where
  pub known : (g c : ℕ) → g ≤ glyphs_in glyphs → c < patterns_before glyphs g → Known glyphs g c
  unfolding patterns_before
  known g c le h =
      let r : Reached (is_first glyphs) g c = count_at (is_first glyphs) g c h in
      let here : first_in glyphs c ≡ r.at = ap (first_in glyphs) (sym r.count) ∙ first_in_law glyphs r.at (let l = r.below in omega arith) r.passes in
      record { below = (let l = r.below in omega arith); first = rw here r.passes; count = rw here r.count }

  -- a glyph that is like the first of a cell has that cell
  pub found : (g c : ℕ) → g ≤ glyphs_in glyphs → c < patterns_before glyphs g → same_pattern glyphs (first_in glyphs c) g ≡ true → cell_for glyphs g ≡ c
  unfolding cell_for
  found g c le h like =
      let k = known g c le h in
      ap (patterns_before glyphs) (first_one glyphs g (first_in glyphs c) (let l = k.below in omega arith) k.first (like_back glyphs (first_in glyphs c) g like)) ∙ k.count

  -- a glyph that is like none takes the next
  pub not_found : (g : ℕ) → g < glyphs_in glyphs → ((c : ℕ) → c < patterns_before glyphs g → same_pattern glyphs (first_in glyphs c) g ≡ false) → cell_for glyphs g ≡ patterns_before glyphs g
  unfolding cell_for
  not_found g le none = go (dec_lt (first_like glyphs g) g)
    where
      f : ℕ
      f = first_like glyphs g

      go : Dec (f < g) → patterns_before glyphs f ≡ patterns_before glyphs g
      go (yes l) =
          let lt : patterns_before glyphs f < patterns_before glyphs g = omega (arith, cell_below glyphs f g l, cell_first glyphs f (first_first glyphs g)) in
          let here : first_in glyphs (patterns_before glyphs f) ≡ f = first_in_law glyphs f (omega arith) (first_first glyphs g) in
          let other : same_pattern glyphs f g ≡ false = rw here at (none (patterns_before glyphs f) lt) in
          absurd (false≢true (sym other ∙ like_back glyphs g f (like_first glyphs g)))
      go (no l) = ap (patterns_before glyphs) (omega (arith, first_most_here glyphs g))
