-- How far a reading has come: k lines passed without a stop, the next one starting here, the scratch and the count those of their
-- records. Each turn of the reader's loop adds one line, and each of its answers is the verdict, by what the next line is.
-- Assumes nothing.
use Rattle.std.proofs.Common.{◌≡◌, ℕ, ◌+◌, ◌*◌, ◌<◌, ◌≤◌, Bool, true, false, Some, None, eqb, ltb, List, [], ◌∷◌, ◌++◌, map, length, get_or, take, drop, sym, refl, ap, ◌∙◌, not-suc-le-zero, add-zero, add-one, arith, length-drop, drop_of_length-le, get_or-drop, take_all, take-suc, drop-drop, below_more, le-ltb, lt-ltb}
use lib.ListN.{length-map, length-replicate, get_or-replicate, get_or-map}
use Rattle.laws.specs.Pick.{pick}
use Rattle.laws.specs.Said.{accepted, refused}
use Rattle.laws.specs.Lists.{tabulate, first_of}
use Rattle.laws.specs.Sums.{sum_all}
use Rattle.laws.proofs.Sums.{sum_take}
use Rattle.laws.proofs.Lists.{is_tabulate, first_is, first_none, first_same, first_before, get_or_tabulate, length_tabulate, take_map}
use Rattle.ihex.specs.Digits.{digit, byte_at, bytes_from}
use Rattle.ihex.specs.Lines.{body_of, lines, onto, place_of}
use Rattle.ihex.specs.Records.{frame, sum_of, address_of, is_given, fresh_in, records, record_of, spelled_by, is_shaped, length_of, byte_in, count_of, fault_of, is_end}
use Rattle.ihex.specs.Reading.{nth, fault_at, stops_at, stop_of, fault_said, judged, verdict}
use Rattle.ihex.specs.Steps.{unfilled, record_at, next_at, line_at}
use Rattle.ihex.specs.declared.Line.{Line}
use Rattle.ihex.proofs.Lines.{lines_nil, first_body}
use Rattle.ihex.proofs.Shape.{size_at, Shape, shape_has}
use Rattle.ihex.proofs.Place.{lines_here, next_within, next_here}
use Rattle.ihex.proofs.Given.{stored_at, spelled_length, scratch_given, stored_all}

-- a text that is not over has a line
lines_some : (s : List ℕ) → 0 < length s → 0 < length (lines s)
unfolding lines
lines_some [] h = absurd (not-suc-le-zero h)
lines_some (c ∷ s) h = go (eqb c 10) (lines s)
  where
    go : (b : Bool) (ls : List (List ℕ)) → 0 < length (pick b ((c ∷ []) ∷ ls) (onto c ls))
    go true ls = omega arith
    go false [] = omega arith
    go false (l ∷ ls) = omega arith

-- what a parsed line says
pub line_shaped : (text : List ℕ) (at : ℕ) (line : Line) → Some line ≡ line_at text at
    → (is_shaped (body_of (drop at text)) ≡ true) × (line.sum ≡ sum_of (record_at text at)) × (line.next ≡ next_at text at)
unfolding line_at
line_shaped text at line e = go (is_shaped (body_of (drop at text))) e
  where
    told : Line
    told = record { sum = sum_of (record_at text at); next = next_at text at }

    go : (b : Bool) → Some line ≡ pick b (Some told) None → (b ≡ true) × (line.sum ≡ told.sum) × (line.next ≡ told.next)
    go true e = let is : line ≡ told = cc in (refl, ap (λ (l : Line). l.sum) is, ap (λ (l : Line). l.next) is)
    go false e = absurd cc

pub line_unshaped : (text : List ℕ) (at : ℕ) → None ≡ line_at text at → record_at text at ≡ []
unfolding line_at record_at spelled_by
line_unshaped text at e = go (is_shaped (body_of (drop at text))) e
  where
    told : Line
    told = record { sum = sum_of (spelled_by (body_of (drop at text))); next = next_at text at }

    go : (b : Bool) → None ≡ pick b (Some told) None → pick b (bytes_from (body_of (drop at text)) 1 (frame + byte_at (body_of (drop at text)) 1)) [] ≡ []
    go true e = absurd cc
    go false e = refl

-- no line, no record
pub record_nil : record_of [] ≡ []
unfolding spelled_by is_shaped body_of first_of digit
record_nil = refl

pub unfilled_length : length unfilled ≡ 8192
unfolding unfilled
unfilled_length = length-replicate {A = ℕ} 8192 256

pub record Passed (text : List ℕ) (at count : ℕ) (scratch : List ℕ) : Type 0 where
  pub k : ℕ
  pub rest : lines (drop at text) ≡ drop k (lines text)
  pub place : at ≡ place_of (lines text) k
  pub within : at ≤ length text
  pub past : (j : ℕ) → j < k → stops_at (records text) j ≡ false
  pub passed : k ≤ length (lines text)
  pub held : scratch ≡ tabulate 8192 (byte_in 256 (take k (records text)))
  pub counted : count ≡ count_of (take k (records text))
  pub bounded : count ≤ at

pub passed_none : (text : List ℕ) → Passed text 0 0 unfilled
unfolding unfilled byte_in sum_all
passed_none text =
    record {
      k = 0;
      rest = refl;
      place = refl;
      within = omega arith;
      past = λ j h. absurd (not-suc-le-zero h);
      passed = omega arith;
      held = is_tabulate 0 8192 (λ a. 256) unfilled unfilled_length (λ a h. get_or-replicate {A = ℕ} 8192 a 256 0 h);
      counted = refl;
      bounded = omega arith;
    }

module _ (text : List ℕ) (at count : ℕ) (scratch : List ℕ) (before : Passed text at count scratch) where
  rs_length : length (records text) ≡ length (lines text)
  rs_length = length-map (lines text) record_of

  -- the text is over
  pub verdict_over : length text ≤ at → verdict text ≡ refused 12 at
  unfolding judged
  verdict_over h =
      let none : drop before.k (lines text) ≡ [] = sym before.rest ∙ ap lines (drop_of_length-le text {i = at} h) ∙ lines_nil in
      let all : length (records text) ≡ before.k = omega (arith, before.passed, ap length none, length-drop before.k (lines text), rs_length) in
      let stop : stop_of (records text) ≡ before.k =
      first_none (length (records text)) (stops_at (records text)) (λ j g. before.past j (omega arith)) ∙ all in
      rw (stop, le-ltb before.k (length (records text)) (omega arith), ← before.place)

  -- the next line
  module _ (more : at < length text) where
    pub k_below : before.k < length (records text)
    k_below =
        omega (arith, rs_length, lines_some (drop at text) (omega (arith, length-drop at text)), ap length before.rest, length-drop before.k (lines text))

    line_here : get_or (lines text) before.k [] ≡ get_or (lines (drop at text)) 0 []
    line_here =
        sym (ap (λ (l : List (List ℕ)). get_or l 0 []) before.rest ∙ get_or-drop before.k (lines text) 0 [] ∙ ap (λ n. get_or (lines text) n []) (add-zero before.k))

    pub record_here : nth (records text) before.k ≡ record_at text at
    unfolding record_at
    record_here =
        ap (λ (d : List ℕ). get_or (records text) before.k d) (sym record_nil) ∙ get_or-map record_of (lines text) before.k []
        ∙ ap record_of line_here ∙ ap spelled_by (first_body (drop at text))

    next_place : place_of (lines text) (before.k + 1) ≡ next_at text at
    unfolding next_at
    next_place =
        sum_take length [] (lines text) before.k (omega (arith, rs_length, k_below))
        ∙ ap (λ n. n + length (get_or (lines text) before.k [])) (sym before.place) ∙ ap (λ (l : List ℕ). at + length l) line_here

    fault_here : fault_at (records text) before.k ≡ fault_of (take before.k (records text)) (record_at text at)
    fault_here = ap (fault_of (take before.k (records text))) record_here

    body_here : body_of (nth (lines text) before.k) ≡ body_of (drop at text)
    body_here = ap body_of line_here ∙ first_body (drop at text)

    -- it is faulty
    pub verdict_fault : (f : ℕ) → 0 < f → fault_of (take before.k (records text)) (record_at text at) ≡ f → verdict text ≡ fault_said (body_of (drop at text)) at f
    unfolding judged
    verdict_fault f h e =
        let fault = fault_here ∙ e in
        let stop : stop_of (records text) ≡ before.k =
        first_is (length (records text)) (stops_at (records text)) before.k k_below before.past (rw (fault, lt-ltb 0 f h)) in
        rw (stop, lt-ltb _ _ k_below, fault, lt-ltb 0 f h, body_here, ← before.place)

    module _ (good : fault_of (take before.k (records text)) (record_at text at) ≡ 0) where
      -- it is the end record: the last line, or not
      module _ (ended : is_end (record_at text at) ≡ true) where
        stop_end : stop_of (records text) ≡ before.k
        stop_end = first_is (length (records text)) (stops_at (records text)) before.k k_below before.past (rw (fault_here ∙ good) (rw record_here ended))

        pub verdict_more : before.k + 1 < length (records text) → verdict text ≡ refused 12 (next_at text at)
        unfolding judged
        verdict_more h = rw (stop_end, lt-ltb _ _ k_below, fault_here ∙ good, lt-ltb _ _ h, next_place)

        pub verdict_done : length (records text) ≤ before.k + 1 → length_of (record_at text at) ≡ 0 → verdict text ≡ accepted count
        unfolding judged
        verdict_done h l =
            let whole : count_of (records text) ≡ count =
            ap count_of (sym (take_all (before.k + 1) (records text) h)) ∙ sum_take length_of [] (records text) before.k k_below
            ∙ ap (λ n. n + length_of (nth (records text) before.k)) (sym before.counted) ∙ ap (λ (r : List ℕ). count + length_of r) record_here
            ∙ ap (λ n. count + n) l ∙ add-zero count in
            rw (stop_end, lt-ltb _ _ k_below, fault_here ∙ good, le-ltb _ _ h, whole)

    -- it is of the record's shape
    module _ (shaped : is_shaped (body_of (drop at text)) ≡ true) where
      pub whole_here : length (record_at text at) ≡ 5 + length_of (record_at text at)
      unfolding record_at
      whole_here = spelled_length (body_of (drop at text)) shaped

      shape_here : Shape text at
      shape_here = shape_has text at shaped

      -- where the next line starts, and the lines from there on
      pub next_fits : (next_at text at ≤ length text) × (at + 11 + 2 * length_of (record_at text at) ≤ next_at text at)
      next_fits = (
        next_within text at more shape_here,
        omega (arith, next_here text at more shape_here, whole_here, ap length (Rattle.ihex.proofs.Place.record_here text at more shape_here), length_tabulate (size_at text at) (λ i. byte_at text (at + 1 + 2 * i))),
      )

      next_rest : lines (drop (next_at text at) text) ≡ drop (before.k + 1) (lines text)
      next_rest =
          sym (ap (λ (l : List (List ℕ)). drop 1 l) (sym before.rest ∙ lines_here text at more shape_here)) ∙ drop-drop 1 before.k (lines text)

      pub is_last : length text ≤ next_at text at → length (records text) ≤ before.k + 1
      is_last h =
          let none : drop (before.k + 1) (lines text) ≡ [] = sym next_rest ∙ ap lines (drop_of_length-le text {i = next_at text at} h) ∙ lines_nil in
          omega (arith, ap length none, length-drop (before.k + 1) (lines text), rs_length)

      pub not_last : next_at text at < length text → before.k + 1 < length (records text)
      not_last h =
          omega (arith, rs_length, lines_some (drop (next_at text at) text) (omega (arith, length-drop (next_at text at) text)), ap length next_rest, length-drop (before.k + 1) (lines text))

      -- its bytes, in the room for one record; n of them are data, from an address on
      module _ (bytes : List ℕ) (front : take (length (record_at text at)) bytes ≡ record_at text at) (n address : ℕ)
          (sized : n ≡ length_of (record_at text at)) (placed : address ≡ address_of (record_at text at)) (fits : address + n ≤ 8192) where
        -- the scratch tells which bytes are given already
        pub fresh_here : first_of n (λ i. ltb (get_or scratch (address + i) 0) 256) ≡ fresh_in (take before.k (records text)) (record_at text at)
        fresh_here =
            first_same n _ (λ i. is_given (take before.k (records text)) (address + i)) (λ i h.
            let e : take before.k (records text) ≡ map record_of (take before.k (lines text)) = take_map record_of before.k (lines text) in
            ap (λ l. ltb (get_or l (address + i) 0) 256) before.held
            ∙ ap (λ x. ltb x 256) (get_or_tabulate 8192 (byte_in 256 (take before.k (records text))) (address + i) 0 (omega arith))
            ∙ ap (λ (rs : List (List ℕ)). ltb (byte_in 256 rs (address + i)) 256) e ∙ scratch_given (take before.k (lines text)) (address + i)
            ∙ ap (λ (rs : List (List ℕ)). is_given rs (address + i)) (sym e))
            ∙ ap (λ m. first_of m (λ i. is_given (take before.k (records text)) (address + i))) sized
            ∙ ap (λ a. first_of (length_of (record_at text at)) (λ i. is_given (take before.k (records text)) (a + i))) placed

        -- one line more is passed
        pub passed_more : is_end (record_at text at) ≡ false → fault_of (take before.k (records text)) (record_at text at) ≡ 0
            → length_of (record_at text at) ≤ fresh_in (take before.k (records text)) (record_at text at)
            → Passed text (next_at text at) (count + n) (tabulate 8192 (stored_at bytes address n scratch))
        passed_more no_end good fresh =
            record {
              k = before.k + 1;
              rest = next_rest;
              place = sym next_place;
              within = next_fits.0;
              past = below_more (λ j. stops_at (records text) j ≡ false) before.k before.past (rw (fault_here ∙ good) (rw record_here no_end));
              passed = omega (arith, rs_length, k_below);
              held =
                  ap (λ m. tabulate 8192 (stored_at bytes address m scratch)) sized
                  ∙ ap (λ a. tabulate 8192 (stored_at bytes a (length_of (record_at text at)) scratch)) placed
                  ∙ stored_all (take before.k (records text)) (record_at text at) bytes scratch front whole_here before.held
                  (λ i h. first_before (length_of (record_at text at)) (λ i. is_given (take before.k (records text)) (address_of (record_at text at) + i)) i (omega arith))
                  ∙ sym (ap (λ (rs : List (List ℕ)). tabulate 8192 (byte_in 256 rs)) (ap (λ m. take m (records text)) (add-one before.k) ∙ take-suc (records text) before.k [] k_below
                  ∙ ap (λ (r : List ℕ). take before.k (records text) ++ (r ∷ [])) record_here));
              counted =
                  sym (sum_take length_of [] (records text) before.k k_below ∙ ap (λ m. m + length_of (nth (records text) before.k)) (sym before.counted)
                  ∙ ap (λ (r : List ℕ). count + length_of r) record_here ∙ ap (λ m. count + m) (sym sized));
              bounded = omega (arith, before.bounded, next_fits.1);
            }
