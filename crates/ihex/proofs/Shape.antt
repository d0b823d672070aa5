-- The record's shape, told from the bytes of a text from a place on: the body of the line that starts there is what goes from the colon
-- through the last digit asked for, since neither a colon nor a digit is part of a line's end.
-- Assumes nothing.
use Rattle.std.proofs.Common.{◌≡◌, ℕ, zero, suc, ◌+◌, ◌-◌, ◌*◌, ◌<◌, ◌≤◌, Bool, true, false, not, eqb, ltb, List, [], ◌∷◌, length, get_or, take, drop, sym, refl, ap, ◌∙◌, le_of_suc-le-suc, not-suc-le-zero, add-zero, arith, length-drop, length-take-le, get_or-drop, get_or-take, drop-drop, ltb-false, ltb-true, le-ltb, lt-ltb, eq-eqb, ne_eqb, eqb-true}
use borrow.Author.Tests.{not-true, not-false}
use Rattle.laws.specs.Lists.{tabulate}
use Rattle.laws.proofs.Both.{both_parts}
use Rattle.laws.proofs.Lists.{tabulate_same, first_none, first_before}
use Rattle.ihex.specs.Digits.{digit, byte_at, bytes_from}
use Rattle.ihex.specs.Lines.{Plain, at_end, body_of}
use Rattle.ihex.specs.Records.{belongs, first_bad, has_bad, is_shaped, spelled_by}
use Rattle.ihex.specs.Steps.{all_digits}
use Rattle.ihex.proofs.Lines.{Cut, body_cut, body_cuts}

pub digits_at : (l : List ℕ) → all_digits l ≡ true → (k : ℕ) → k < length l → digit (get_or l k 0) < 16
unfolding all_digits
digits_at [] e k h = absurd (not-suc-le-zero h)
digits_at (c ∷ l) e zero h = ltb-true _ _ (both_parts (ltb (digit c) 16) (all_digits l) e).0
digits_at (c ∷ l) e (suc k) h = digits_at l (both_parts (ltb (digit c) 16) (all_digits l) e).1 k (le_of_suc-le-suc h)

pub digits_all : (l : List ℕ) → ((k : ℕ) → k < length l → digit (get_or l k 0) < 16) → all_digits l ≡ true
unfolding all_digits
digits_all [] h = refl
digits_all (c ∷ l) h = rw (lt-ltb (digit c) 16 (h 0 (omega arith))) (digits_all l (λ k g. h (suc k) (omega arith)))

-- in the first place a colon belongs, in a later one a digit
pub colon_first : (c : ℕ) → belongs 0 c ≡ true → c ≡ 58
unfolding belongs
colon_first c e = eqb-true c 58 e

pub digit_later : (k c : ℕ) → belongs (1 + k) c ≡ true → digit c < 16
unfolding belongs
digit_later k c e = ltb-true (digit c) 16 (rw (ne_eqb (1 + k) 0 (omega arith)) at e)

pub first_colon : (c : ℕ) → c ≡ 58 → belongs 0 c ≡ true
unfolding belongs
first_colon c e = eq-eqb c 58 e

pub later_digit : (k c : ℕ) → digit c < 16 → belongs (1 + k) c ≡ true
unfolding belongs
later_digit k c h = rw (ne_eqb (1 + k) 0 (omega arith)) (lt-ltb (digit c) 16 h)

-- where there is no bad character each belongs in its place, and the other way round
pub none_bad : (body : List ℕ) → has_bad body ≡ false → (k : ℕ) → k < length body → belongs k (get_or body k 0) ≡ true
none_bad body e k h =
    not-false (belongs k (get_or body k 0))
    (first_before (length body) (λ k. not (belongs k (get_or body k 0))) k (omega (arith, ltb-false (first_bad body) (length body) e)))

pub each_belongs : (body : List ℕ) → ((k : ℕ) → k < length body → belongs k (get_or body k 0) ≡ true) → has_bad body ≡ false
each_belongs body each =
    let none = first_none (length body) (λ k. not (belongs k (get_or body k 0))) (λ k h. ap not (each k h)) in
    le-ltb (first_bad body) (length body) (omega arith)

-- a line of the record's shape, without its end
pub record Fits (body : List ℕ) : Type 0 where
  pub clean : has_bad body ≡ false
  pub size : length body ≡ 1 + 2 * (5 + byte_at body 1)

pub shaped_fits : (body : List ℕ) → is_shaped body ≡ true → Fits body
unfolding is_shaped
shaped_fits body e =
    let parts = both_parts (not (has_bad body)) (eqb (length body) (1 + 2 * (5 + byte_at body 1))) e in
    record { clean = not-true (has_bad body) parts.0; size = eqb-true _ _ parts.1 }

pub fits_shaped : (body : List ℕ) → Fits body → is_shaped body ≡ true
unfolding is_shaped
fits_shaped body fits = rw fits.clean (eq-eqb (length body) (1 + 2 * (5 + byte_at body 1)) fits.size)

pub digit_plain : (c : ℕ) → digit c < 16 → Plain c
unfolding digit
digit_plain c h = (λ e. omega (arith, ap digit e), λ e. omega (arith, ap digit e))

-- how many bytes the record of the line that starts at a place asks for
abbrev pub size_at : List ℕ → ℕ → ℕ
size_at text place = 5 + (16 * digit (get_or text (place + 1) 0) + digit (get_or text (place + 2) 0))

-- a line of the record's shape starts there
pub record Shape (text : List ℕ) (place : ℕ) : Type 0 where
  pub begins : get_or text place 0 ≡ 58
  pub digits : (k : ℕ) → k < 2 * size_at text place → digit (get_or text (place + 1 + k) 0) < 16
  pub reaches : place + 1 + 2 * size_at text place ≤ length text
  pub ends : at_end (drop (place + 1 + 2 * size_at text place) text) ≡ true

-- digits stay where they are in a front of the text
byte_front : (s : List ℕ) (m k : ℕ) → k + 1 < m → byte_at (take m s) k ≡ byte_at s k
byte_front s m k h = rw (get_or-take m s k 0 (omega arith), get_or-take m s (k + 1) 0 h)

module _ (text : List ℕ) (place : ℕ) where
  -- the text from there on
  at_drop : (k : ℕ) → get_or (drop place text) k 0 ≡ get_or text (place + k) 0
  at_drop k = get_or-drop place text k 0

  at_front : get_or (drop place text) 0 0 ≡ get_or text place 0
  at_front = at_drop 0 ∙ ap (λ n. get_or text n 0) (add-zero place)

  at_next : (k : ℕ) → get_or (drop place text) (1 + k) 0 ≡ get_or text (place + 1 + k) 0
  at_next k = let e : place + (1 + k) ≡ place + 1 + k = omega arith in at_drop (1 + k) ∙ ap (λ n. get_or text n 0) e

  byte_here : (k : ℕ) → byte_at (drop place text) (1 + k) ≡ byte_at text (place + 1 + k)
  byte_here k =
      let e : place + (1 + k + 1) ≡ place + 1 + k + 1 = omega arith in
      rw (at_next k, at_drop (1 + k + 1), e)

  size_here : 5 + byte_at (drop place text) 1 ≡ size_at text place
  size_here = rw (at_drop 1, at_drop 2)

  -- how long the line's body is
  abbrev pub body_size : ℕ
  body_size = 1 + 2 * size_at text place

  module _ (shape : Shape text place) where
    pub digit_here : (q : ℕ) → place < q → q ≤ place + 2 * size_at text place → digit (get_or text q 0) < 16
    digit_here q l h =
        let e : place + 1 + (q - (place + 1)) ≡ q = omega arith in
        rw (← e) (shape.digits (q - (place + 1)) (omega arith))

    pub body_fits : body_size ≤ length (drop place text)
    body_fits = omega (arith, shape.reaches, length-drop place text)

    pub body_plain : (k : ℕ) → k < body_size → Plain (get_or (drop place text) k 0)
    body_plain zero h = let at = at_front ∙ shape.begins in (λ e. omega arith, λ e. omega arith)
    body_plain (suc k) h =
        let one : suc k ≡ 1 + k = omega arith in
        digit_plain _ (rw (one, at_next k) (shape.digits k (omega arith)))

    pub body_after : drop body_size (drop place text) ≡ drop (place + 1 + 2 * size_at text place) text
    body_after = let e : place + body_size ≡ place + 1 + 2 * size_at text place = omega arith in drop-drop body_size place text ∙ ap (λ n. drop n text) e

    pub body_ends : at_end (drop body_size (drop place text)) ≡ true
    body_ends = ap at_end body_after ∙ shape.ends

    body_is : body_of (drop place text) ≡ take body_size (drop place text)
    body_is = body_cut body_size (drop place text) body_fits body_plain body_ends

    front_belongs : (k : ℕ) → k < body_size → belongs k (get_or (take body_size (drop place text)) k 0) ≡ true
    front_belongs zero h = first_colon _ (get_or-take body_size (drop place text) 0 0 (omega arith) ∙ at_front ∙ shape.begins)
    front_belongs (suc k) h =
        let one : suc k ≡ 1 + k = omega arith in
        rw one
        (later_digit k _ (rw (get_or-take body_size (drop place text) (1 + k) 0 (omega arith) ∙ at_next k) (shape.digits k (omega arith))))

    pub shape_is : is_shaped (body_of (drop place text)) ≡ true
    shape_is =
        let body = take body_size (drop place text) in
        let long : length body ≡ body_size = length-take-le body_size (drop place text) body_fits in
        let size = ap (λ n. 5 + n) (byte_front (drop place text) body_size 1 (omega arith)) ∙ size_here in
        rw body_is
        (fits_shaped body
        (record { clean = each_belongs body (λ k h. front_belongs k (omega arith)); size = long ∙ ap (λ n. 1 + 2 * n) (sym size) }))

    pub shape_spells : spelled_by (body_of (drop place text)) ≡ bytes_from text (place + 1) (size_at text place)
    unfolding spelled_by
    shape_spells =
        let body = take body_size (drop place text) in
        rw shape_is
        (rw body_is
        (ap (λ n. tabulate n (λ i. byte_at body (1 + 2 * i))) (ap (λ n. 5 + n) (byte_front (drop place text) body_size 1 (omega arith)) ∙ size_here)
        ∙ tabulate_same (size_at text place) _ _ (λ k h. byte_front (drop place text) body_size (1 + 2 * k) (omega arith) ∙ byte_here (2 * k))))

  -- and no other line has it
  pub shape_has : is_shaped (body_of (drop place text)) ≡ true → Shape text place
  shape_has shaped = go (body_of (drop place text)) (body_cuts (drop place text)) (shaped_fits (body_of (drop place text)) shaped)
    where
      go : (body : List ℕ) → Cut (drop place text) body → Fits body → Shape text place
      go body cut fits =
          let long = fits.size in
          let at : (k : ℕ) → k < length body → get_or body k 0 ≡ get_or (drop place text) k 0 =
          λ k h. ap (λ l. get_or l k 0) cut.front ∙ get_or-take (length body) (drop place text) k 0 h in
          let same : byte_at body 1 ≡ byte_at (drop place text) 1 = rw (at 1 (omega arith), at 2 (omega arith)) in
          let size : length body ≡ 1 + 2 * size_at text place = long ∙ ap (λ n. 1 + 2 * (5 + n)) same ∙ ap (λ n. 1 + 2 * n) size_here in
          let place_is : place + length body ≡ place + 1 + 2 * size_at text place = omega arith in
          record {
            begins = sym at_front ∙ sym (at 0 (omega arith)) ∙ colon_first _ (none_bad body fits.clean 0 (omega arith));
            digits = λ k h. rw (← at_next k, ← at (1 + k) (omega arith)) (digit_later k _ (none_bad body fits.clean (1 + k) (omega arith)));
            reaches = omega (arith, cut.within, length-drop place text);
            ends = rw (← place_is, ← drop-drop (length body) place text) cut.ends;
          }

  pub unshaped : (Shape text place → ⊥) → is_shaped (body_of (drop place text)) ≡ false
  unshaped no_shape = go (is_shaped (body_of (drop place text))) refl
    where
      go : (b : Bool) → is_shaped (body_of (drop place text)) ≡ b → is_shaped (body_of (drop place text)) ≡ false
      go true e = absurd (no_shape (shape_has e))
      go false e = e
