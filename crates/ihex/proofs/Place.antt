-- What the reader's tests at a place of the text say of the line that starts there: they are the record's shape in the text's own places.
-- Assumes nothing.
use Rattle.std.proofs.Common.{◌≡◌, ℕ, ◌+◌, ◌-◌, ◌*◌, ◌<◌, ◌≤◌, true, Some, None, List, ◌∷◌, length, get_or, take, drop, sym, refl, ap, ◌∙◌, arith, length-drop, length-take-le, drop-drop}
use Rattle.laws.proofs.Lists.{length_tabulate}
use Rattle.ihex.specs.Digits.{digit, bytes_from}
use Rattle.ihex.specs.Lines.{lines, at_end}
use Rattle.ihex.specs.Records.{spelled_by, sum_of}
use Rattle.ihex.specs.Steps.{Parsed, Decoded, spelled_at, passes_end, end_length, record_at, next_at, line_at}
use Rattle.ihex.proofs.Lines.{first_cut, end_fits}
use Rattle.ihex.proofs.Steps.{spelled_byte, spelled_digits, sum_good, sum_digits, past_none, past_ends}
use Rattle.ihex.proofs.Shape.{size_at, Shape, digit_here, body_size, body_fits, body_plain, body_after, body_ends, shape_is, shape_spells, unshaped}

-- a line that fails a test
pub not_shaped : (text : List ℕ) (place : ℕ) (bytes : List ℕ) → (Shape text place → ⊥) → Parsed text place bytes None
unfolding line_at record_at spelled_by
not_shaped text place bytes none = let e = unshaped text place none in record { line = simp e; front = simp e }

module _ (text : List ℕ) (place : ℕ) (here : place < length text) where
  -- a line that passes all
  module _ (shape : Shape text place) where
    pub record_here : record_at text place ≡ bytes_from text (place + 1) (size_at text place)
    unfolding record_at
    record_here = shape_spells text place shape

    line_size : ℕ
    line_size = body_size text place + end_length (drop (body_size text place) (drop place text))

    first_line_law : lines (drop place text) ≡ take line_size (drop place text) ∷ lines (drop line_size (drop place text))
    unfolding line_size
    first_line_law =
        first_cut (body_size text place) (drop place text) (omega (arith, length-drop place text)) (body_fits text place shape) (body_plain text place shape) (body_ends text place shape)

    line_fits : line_size ≤ length (drop place text)
    unfolding line_size
    line_fits =
        omega (arith, end_fits (drop (body_size text place) (drop place text)) (body_ends text place shape), length-drop (body_size text place) (drop place text), body_fits text place shape)

    next_is : next_at text place ≡ place + line_size
    unfolding next_at
    next_is = rw first_line_law (ap (λ n. place + n) (length-take-le line_size (drop place text) line_fits))

    -- the line and the lines after it
    pub lines_here : lines (drop place text) ≡ take (next_at text place - place) (drop place text) ∷ lines (drop (next_at text place) text)
    lines_here =
        let e : next_at text place - place ≡ line_size = omega (arith, next_is) in
        rw (e, next_is, ← drop-drop line_size place text) first_line_law

    pub next_within : next_at text place ≤ length text
    next_within = omega (arith, next_is, line_fits, length-drop place text)

    pub next_here : next_at text place ≡ place + 1 + 2 * size_at text place + end_length (drop (place + 1 + 2 * size_at text place) text)
    unfolding line_size
    next_here = omega (arith, next_is, ap end_length (body_after text place shape))

-- the length that a line begins with
module _ (text : List ℕ) (place : ℕ) where
  pub no_size : None ≡ spelled_at text (place + 1) → Shape text place → ⊥
  no_size e shape =
      let high = digit_here text place shape (place + 1) (omega arith) (omega arith) in
      let low = digit_here text place shape (place + 1 + 1) (omega arith) (omega arith) in
      cc (spelled_byte text (place + 1) high low)

  pub size_is : {given : ℕ} → Some given ≡ spelled_at text (place + 1) → 5 + given ≡ size_at text place
  size_is e =
      let second : place + 1 + 1 ≡ place + 2 = omega arith in
      ap (λ n. 5 + n) (spelled_digits text (place + 1) e).2 ∙ ap (λ k. 5 + (16 * digit (get_or text (place + 1) 0) + digit (get_or text k 0))) second

-- the reader's tests: n bytes are asked for, and within the text
pub record Asked (text : List ℕ) (place n : ℕ) : Type 0 where
  pub size : n ≡ size_at text place
  pub reaches : place + 1 + 2 * n ≤ length text

-- all of them passed: the line begins with a colon, and its digits end where the text's last one asked for does
pub record Passes (text : List ℕ) (place n end : ℕ) : Type 0 where
  pub asked : Asked text place n
  pub whole : end ≡ place + 1 + 2 * n
  pub here : place < length text
  pub begins : get_or text place 0 ≡ 58

pub no_sum : {text : List ℕ} {place n : ℕ} {part : List ℕ} → Decoded text (place + 1) n part None → Asked text place n → Shape text place → ⊥
no_sum {text} {place} {n} decoded asked shape =
    let sums = sum_good text (place + 1) n asked.reaches (λ k g. shape.digits k (omega (arith, asked))) in
    cc (decoded.summed)

-- where they end, and where the line after them starts
pub no_end : {text : List ℕ} {place n end : ℕ} → None ≡ passes_end text end → Asked text place n × (end ≡ place + 1 + 2 * n) → Shape text place → ⊥
no_end {text} {place} {n} {end} ended (asked, whole) shape =
    let e : place + 1 + 2 * size_at text place ≡ end = omega (arith, asked) in
    let stands : at_end (drop end text) ≡ true = rw (← e) shape.ends in
    cc (past_none text end ended)

module _ {text : List ℕ} {place n : ℕ} {part : List ℕ} {sum end next : ℕ}
    (decoded : Decoded text (place + 1) n part (Some sum)) (ended : Some next ≡ passes_end text end) (passes : Passes text place n end) where
  digits_here : (k : ℕ) → k < 2 * n → digit (get_or text (place + 1 + k) 0) < 16
  digits_here = sum_digits text (place + 1) n passes.asked.reaches decoded.summed

  end_is : end ≡ place + 1 + 2 * size_at text place
  end_is = omega (arith, passes)

  shape_found : Shape text place
  shape_found =
      record {
        begins = passes.begins;
        digits = λ k h. digits_here k (omega (arith, passes));
        reaches = omega (arith, passes);
        ends = rw (← end_is) (past_ends text end ended).0;
      }

  pub is_shaped_law : (bytes : List ℕ) → take n bytes ≡ part → Parsed text place bytes (Some (record { sum = sum; next = next }))
  unfolding line_at
  is_shaped_law bytes front =
      let rec : record_at text place ≡ bytes_from text (place + 1) n = record_here text place passes.here shape_found ∙ ap (bytes_from text (place + 1)) (sym passes.asked.size) in
      let summed : Some sum ≡ Some (sum_of (record_at text place)) =
      decoded.summed ∙ sum_good text (place + 1) n passes.asked.reaches digits_here ∙ ap (λ r. Some (sum_of r)) (sym rec) in
      let sums : sum ≡ sum_of (record_at text place) = cc in
      let after : next ≡ next_at text place =
      (past_ends text end ended).1 ∙ ap (λ m. m + end_length (drop m text)) end_is ∙ sym (next_here text place passes.here shape_found) in
      let size : length (record_at text place) ≡ n = ap length rec ∙ length_tabulate n _ in
      record { line = rw (shape_is text place shape_found, sums, after); front = rw size (front ∙ decoded.spelled sum refl ∙ sym rec) }
