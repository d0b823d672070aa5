-- The search for a line's first bad character: k characters of the line that starts at a place are passed, none of them bad and no end before
-- any of them. What stands behind them then decides: an end, and the line has no bad character, or one that does not belong there.
-- Assumes nothing.
use Rattle.std.proofs.Common.{◌≡◌, ℕ, zero, suc, ◌+◌, ◌<◌, ◌≤◌, true, false, not, List, length, get_or, drop, ap, ◌∙◌, arith, get_or-drop, get_or-take, drop-drop, drop-cons, below_more, lt-ltb}
use Rattle.laws.specs.Said.{refused}
use Rattle.laws.proofs.Lists.{first_is}
use Rattle.ihex.specs.Lines.{Plain, at_end, body_of}
use Rattle.ihex.specs.Records.{belongs, first_bad, has_bad}
use Rattle.ihex.specs.Reading.{fault_said}
use Rattle.ihex.proofs.Lines.{not_end, body_cuts, body_goes, body_stops}
use Rattle.ihex.proofs.Shape.{colon_first, digit_later, digit_plain, each_belongs}

pub record Searched (text : List ℕ) (at k : ℕ) : Type 0 where
  pub within : at + k ≤ length text
  pub goes : (j : ℕ) → j < k → at_end (drop (at + j) text) ≡ false
  pub fits : (j : ℕ) → j < k → belongs j (get_or text (at + j) 0) ≡ true

pub searched_none : (text : List ℕ) (at : ℕ) → at ≤ length text → Searched text at 0
searched_none text at h = record { within = omega arith; goes = λ j l. absurd (omega arith); fits = λ j l. absurd (omega arith) }

-- a character in its place is no part of a line's end
belongs_plain : (k c : ℕ) → belongs k c ≡ true → Plain c
belongs_plain zero c e = let colon = colon_first c e in (λ f. omega arith, λ f. omega arith)
belongs_plain (suc k) c e = let one : suc k ≡ 1 + k = omega arith in digit_plain c (digit_later k c (rw one at e))

pub belongs_goes : (text : List ℕ) (k place : ℕ) → place < length text → belongs k (get_or text place 0) ≡ true → at_end (drop place text) ≡ false
belongs_goes text k place h e = rw (drop-cons text place 0 h) (not_end (get_or text place 0) (drop (suc place) text) (belongs_plain k (get_or text place 0) e))

module _ {text : List ℕ} {at k : ℕ} (so_far : Searched text at k) where
  pub searched_more : at + k < length text → at_end (drop (at + k) text) ≡ false → belongs k (get_or text (at + k) 0) ≡ true → Searched text at (k + 1)
  searched_more h no_end fit =
      record {
        within = omega arith;
        goes = below_more (λ j. at_end (drop (at + j) text) ≡ false) k so_far.goes no_end;
        fits = below_more (λ j. belongs j (get_or text (at + j) 0) ≡ true) k so_far.fits fit;
      }

  body : List ℕ
  body = body_of (drop at text)

  -- the body's characters are the text's
  body_at : (j : ℕ) → j < length body → get_or body j 0 ≡ get_or text (at + j) 0
  unfolding body
  body_at j h =
      ap (λ (l : List ℕ). get_or l j 0) (body_cuts (drop at text)).front ∙ get_or-take (length (body_of (drop at text))) (drop at text) j 0 h ∙ get_or-drop at text j 0

  dropped : (j : ℕ) → drop j (drop at text) ≡ drop (at + j) text
  dropped j = drop-drop j at text

  -- an end stands there
  pub search_ends : at_end (drop (at + k) text) ≡ true → refused 20 at ≡ fault_said (body_of (drop at text)) at 20
  unfolding fault_said body
  search_ends ends =
      let short = body_stops k (drop at text) (ap at_end (dropped k) ∙ ends) in
      let none : has_bad (body_of (drop at text)) ≡ false =
      each_belongs (body_of (drop at text)) (λ j h. ap (belongs j) (body_at j h) ∙ so_far.fits j (omega arith)) in
      rw none

  -- a bad character does
  pub search_finds : at_end (drop (at + k) text) ≡ false → belongs k (get_or text (at + k) 0) ≡ false → refused 19 (at + k) ≡ fault_said (body_of (drop at text)) at 20
  unfolding fault_said body
  search_finds no_end bad =
      let long : k + 1 ≤ length (body_of (drop at text)) =
      body_goes (k + 1) (drop at text) (λ j h. ap at_end (dropped j) ∙ below_more (λ j. at_end (drop (at + j) text) ≡ false) k so_far.goes no_end j h) in
      let found : first_bad (body_of (drop at text)) ≡ k =
      first_is (length (body_of (drop at text))) (λ j. not (belongs j (get_or (body_of (drop at text)) j 0))) k (omega arith)
      (λ j h. ap not (ap (belongs j) (body_at j (omega arith)) ∙ so_far.fits j h)) (ap not (ap (belongs k) (body_at k (omega arith)) ∙ bad)) in
      rw (found, lt-ltb k (length (body_of (drop at text))) (omega arith))
