-- The chains of patterns. A chain has the patterns of one spot, from the last one met to the first, and glyphs with the same rows have one spot; so where
-- no pattern of its chain has a glyph's rows, none has.
-- Assumes nothing.
use Rattle.std.proofs.Common.{◌≡◌, ℕ, zero, suc, ◌+◌, ◌<◌, ◌≤◌, Bool, true, false, eqb, List, [], None, replicate, length, get_or, set, sym, refl, ap, ◌∙◌, not-suc-le-zero, add-one, arith, get_or-set_other, get_or-set_same, eq-eqb, ne_eqb, eqb-true}
use mathlib.Core.Bool.{false≢true}
use native.Mathlib.Decide.{dec_lt, ℕ_discrete}
use Rattle.laws.specs.Pick.{pick}
use lib.ListN.{get_or-replicate}
use Rattle.font.specs.Font.{font_cells}
use Rattle.packer.specs.Steps.{same_rows, spots, spot_of, last_of, pattern, last_at, Kept, Walk, Found, ToAdd}
use Rattle.packer.proofs.Words.{spot_same, spot_below}

module _ (test : ℕ → Bool) where
  pub last_most : (n : ℕ) → last_of n test ≤ n
  unfolding last_of
  last_most zero = omega arith
  last_most (suc n) = go (test n) (last_most n)
    where
      go : (t : Bool) → last_of n test ≤ n → pick t (suc n) (last_of n test) ≤ suc n
      go true h = omega arith
      go false h = omega arith

  -- no number from there on passes
  last_after : (n k : ℕ) → last_of n test ≤ k → k < n → test k ≡ false
  unfolding last_of
  last_after zero k le l = absurd (not-suc-le-zero l)
  last_after (suc n) k le l = go (test n) refl le (ℕ_discrete k n) (λ h m. last_after n k h m)
    where
      go : (t : Bool) → test n ≡ t → pick t (suc n) (last_of n test) ≤ k → Dec (k ≡ n) → (last_of n test ≤ k → k < n → test k ≡ false) → test k ≡ false
      go true e h d ih = absurd (omega arith)
      go false e h (yes d) ih = ap test d ∙ e
      go false e h (no d) ih = ih h (omega arith)

  -- the last one passes
  last_at_law : (n c : ℕ) → last_of n test ≡ c + 1 → test c ≡ true
  unfolding last_of
  last_at_law zero c e = absurd (omega (arith, e))
  last_at_law (suc n) c e = go (test n) refl e (λ h. last_at_law n c h)
    where
      go : (t : Bool) → test n ≡ t → pick t (suc n) (last_of n test) ≡ c + 1 → (last_of n test ≡ c + 1 → test c ≡ true) → test c ≡ true
      go true e h ih = let here : c ≡ n = omega (arith, h) in ap test here ∙ e
      go false e h ih = ih h

  last_more : (n : ℕ) → last_of (n + 1) test ≡ pick (test n) (n + 1) (last_of n test)
  unfolding last_of
  last_more n = rw (add-one n)

-- the last one of those that pass, where the tests agree as far as that
last_same : (n : ℕ) (test test' : ℕ → Bool) → ((k : ℕ) → k < n → test k ≡ test' k) → last_of n test ≡ last_of n test'
unfolding last_of
last_same zero test test' e = refl
last_same (suc n) test test' e = rw (e n (omega arith), last_same n test test' (λ k l. e k (omega arith)))

module _ (drawn : List (List ℕ)) (firsts nexts heads : List ℕ) (used : ℕ) (kept : Kept drawn firsts nexts heads used) (glyph : List ℕ) where
  -- a pattern of another spot has other rows
  other_spot : (c : ℕ) → eqb (spot_of (pattern drawn firsts c)) (spot_of glyph) ≡ false → same_rows (pattern drawn firsts c) glyph ≡ false
  other_spot c e = go (same_rows (pattern drawn firsts c) glyph) refl
    where
      go : (t : Bool) → same_rows (pattern drawn firsts c) glyph ≡ t → t ≡ false
      go true same = absurd (false≢true (sym e ∙ eq-eqb _ _ (spot_same (pattern drawn firsts c) glyph same)))
      go false same = refl

  -- a walk begins at the head of the glyph's spot
  pub walk_from : (spot head : ℕ) → spot ≡ spot_of glyph → head ≡ get_or heads spot 0 → Walk drawn firsts used glyph head
  walk_from spot head is_spot is_head =
      record {
        bound = used;
        within_used = omega arith;
        stands = is_head ∙ kept.last spot (omega (arith, is_spot, spot_below glyph)) ∙ ap (last_at drawn firsts used) is_spot;
        passed = λ c a b. absurd (omega arith);
      }

  pub walk_below : (next : ℕ) → Walk drawn firsts used glyph next → next ≤ used
  walk_below next w =
      let m = last_most (λ c. eqb (spot_of (pattern drawn firsts c)) (spot_of glyph)) w.bound in
      omega (arith, m, w.stands, w.within_used)

  -- it goes on to an earlier pattern
  pub walk_on : (next c : ℕ) → next ≡ c + 1 → same_rows (pattern drawn firsts c) glyph ≡ false → Walk drawn firsts used glyph next
      → (get_or nexts c 0 ≤ c) × Walk drawn firsts used glyph (get_or nexts c 0)
  walk_on next c e unlike w =
      let low : c < used = (let le = walk_below next w in omega arith) in (
        omega (arith, kept.next c low, last_most (λ d. eqb (spot_of (pattern drawn firsts d)) (spot_of (pattern drawn firsts c))) c),
        record {
          bound = c;
          within_used = omega arith;
          stands = kept.next c low ∙ ap (last_at drawn firsts c) at_spot;
          passed = λ d a b. go d a b (ℕ_discrete d c) (dec_lt d w.bound);
        },
      )
    where
      at_spot : spot_of (pattern drawn firsts c) ≡ spot_of glyph
      at_spot = eqb-true _ _ (last_at_law (λ c. eqb (spot_of (pattern drawn firsts c)) (spot_of glyph)) w.bound c (sym w.stands ∙ e))

      go : (d : ℕ) → c ≤ d → d < used → Dec (d ≡ c) → Dec (d < w.bound) → same_rows (pattern drawn firsts d) glyph ≡ false
      go d a b (yes h) l = rw h unlike
      go d a b (no h) (yes l) =
          other_spot d (last_after (λ c. eqb (spot_of (pattern drawn firsts c)) (spot_of glyph)) w.bound d (omega (arith, w.stands)) l)
      go d a b (no h) (no l) = w.passed d (omega arith) b

  -- the chain's end: no pattern has the glyph's rows
  pub walk_end : (next : ℕ) → next ≡ 0 → Walk drawn firsts used glyph next → Found drawn firsts used glyph None
  walk_end next e w c l = go (dec_lt c w.bound)
    where
      go : Dec (c < w.bound) → same_rows (pattern drawn firsts c) glyph ≡ false
      go (yes b) =
          other_spot c (last_after (λ c. eqb (spot_of (pattern drawn firsts c)) (spot_of glyph)) w.bound c (omega (arith, w.stands)) b)
      go (no b) = w.passed c (omega arith) l

-- no pattern is kept yet
pub kept_none : (drawn : List (List ℕ)) (used : ℕ) → used ≡ 0 → Kept drawn (replicate 62 0) (replicate 62 0) (replicate 256 0) used
unfolding last_of
kept_none drawn used none = rw none record { few = omega arith; there = λ c l. absurd (omega arith); next = λ c l. absurd (omega arith); last = λ spot l. get_or-replicate 256 spot 0 0 l }

-- one pattern more: it is the last of its spot
module _ (drawn : List (List ℕ)) (firsts nexts heads : List ℕ) (used g spot : ℕ) (kept : Kept drawn firsts nexts heads used) (to : ToAdd drawn used g spot)
    (wide : length firsts ≡ font_cells) (long : length nexts ≡ font_cells) (all : length heads ≡ spots) where
  before : (c : ℕ) → c < used → pattern drawn (set firsts used g) c ≡ pattern drawn firsts c
  before c l = ap (λ (i : ℕ). get_or drawn i []) (get_or-set_other firsts used c g 0 (omega arith))

  here : pattern drawn (set firsts used g) used ≡ get_or drawn g []
  here = ap (λ (i : ℕ). get_or drawn i []) (get_or-set_same firsts used g 0 (omega (arith, wide, to.few)))

  lasts : (n s : ℕ) → n ≤ used → last_at drawn (set firsts used g) n s ≡ last_at drawn firsts n s
  lasts n s le = last_same n _ _ (λ k l. ap (λ (rows : List ℕ). eqb (spot_of rows) s) (before k (omega arith)))

  in_spots : spot < spots
  in_spots = omega (arith, to.at, spot_below (get_or drawn g []))

  pub kept_more : Kept drawn (set firsts used g) (set nexts used (get_or heads spot 0)) (set heads spot (used + 1)) (used + 1)
  kept_more =
      record {
        few = omega (arith, to.few);
        there = λ c l. go_there c (ℕ_discrete c used) l;
        next = λ c l. go_next c (ℕ_discrete c used) l;
        last = λ s l. go_last s (ℕ_discrete s spot) l;
      }
    where
      go_there : (c : ℕ) → Dec (c ≡ used) → c < used + 1 → get_or (set firsts used g) c 0 < length drawn
      go_there c (yes d) l = rw (d, get_or-set_same firsts used g 0 (omega (arith, wide, to.few))) to.there
      go_there c (no d) l = rw (get_or-set_other firsts used c g 0 d) (kept.there c (omega arith))

      go_next : (c : ℕ) → Dec (c ≡ used) → c < used + 1 → get_or (set nexts used (get_or heads spot 0)) c 0 ≡ last_at drawn (set firsts used g) c (spot_of (pattern drawn (set firsts used g) c))
      go_next c (yes d) l =
          rw d
          (get_or-set_same nexts used (get_or heads spot 0) 0 (omega (arith, long, to.few)) ∙ kept.last spot in_spots
          ∙ ap (last_at drawn firsts used) (to.at ∙ ap spot_of (sym here)) ∙ sym (lasts used _ (omega arith)))
      go_next c (no d) l =
          get_or-set_other nexts used c (get_or heads spot 0) 0 d ∙ kept.next c (omega arith) ∙ ap (λ (rows : List ℕ). last_at drawn firsts c (spot_of rows)) (sym (before c (omega arith)))
          ∙ sym (lasts c _ (omega arith))

      go_last : (s : ℕ) → Dec (s ≡ spot) → s < spots → get_or (set heads spot (used + 1)) s 0 ≡ last_at drawn (set firsts used g) (used + 1) s
      go_last s (yes d) l =
          let at : eqb (spot_of (pattern drawn (set firsts used g) used)) s ≡ true = eq-eqb _ _ (ap spot_of here ∙ sym to.at ∙ sym d) in
          ap (λ (i : ℕ). get_or (set heads spot (used + 1)) i 0) d ∙ get_or-set_same heads spot (used + 1) 0 (omega (arith, all, in_spots))
          ∙ sym (last_more (λ c. eqb (spot_of (pattern drawn (set firsts used g) c)) s) used ∙ rw at)
      go_last s (no d) l =
          let other : eqb (spot_of (pattern drawn (set firsts used g) used)) s ≡ false = ne_eqb _ _ (λ q. d (sym q ∙ ap spot_of here ∙ sym to.at)) in
          get_or-set_other heads spot s (used + 1) 0 d ∙ kept.last s l ∙ sym (lasts used s (omega arith)) ∙ sym (last_more (λ c. eqb (spot_of (pattern drawn (set firsts used g) c)) s) used ∙ rw other)
