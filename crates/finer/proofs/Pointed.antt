-- Where the places of 19 and 20 point: the text from where a line starts has that line's body at its front, so what is said of the body is said
-- of the text's own bytes.
-- Assumes nothing.
use Prim.Native.Nat.{ℕ, zero, suc, ◌+◌, ◌-◌, ◌<◌, ◌≤◌}
use mathlib.Core.Path.{◌≡◌, refl, sym, ◌∙◌, ap}
use mathlib.Core.Bool.{Bool, true, false, not, false≢true}
use mathlib.Core.List.{List, [], ◌∷◌}
use native.Mathlib.Nat.{add-zero}
use native.Mathlib.Numerals.{add-one}
use native.Mathlib.Decide.{dec_lt}
use native.Mathlib.Omega.{arith}
use borrow.Author.Tests.{ltb-true, not-true, not-false, eqb-true}
use lib.Dec.{eqb, ltb}
use lib.ListN.{length, get_or, take, drop, length-map}
use lib.Seq.{get_or-take, get_or-drop, drop-drop}
use Rattle.laws.specs.Pick.{pick}
use Rattle.laws.specs.Said.{Said, accepted, refused}
use Rattle.laws.specs.Sums.{sum_all}
use Rattle.laws.proofs.Both.{fails_unless}
use Rattle.laws.proofs.Lists.{first_at, first_before}
use Rattle.laws.proofs.Sums.{sum_take}
use Rattle.ihex.specs.Lines.{lines, onto, at_end, body_of, place_of}
use Rattle.ihex.specs.Records.{belongs, first_bad, has_bad, is_shaped, record_of, records, count_of}
use Rattle.ihex.specs.Reading.{most_text, nth, fault_at, stop_of, fault_said, judged, verdict, answer_of}
use Rattle.ihex.proofs.Lines.{ends_over, body_cuts, body_stops, first_body}
use Rattle.ihex.proofs.Given.{spelled_length}
use Rattle.image.specs.Image.{image_bytes}
use Rattle.finer.specs.Claims.{IsFirstBad, CharacterPoints, IsNoRecord, ShapePoints}
use Rattle.finer.proofs.Texts.{record_at_law, fault_none, fault_other}

-- the lines after the first are those of the text after it
lines_after : (s : List ℕ) → lines (drop (length (get_or (lines s) 0 [])) s) ≡ drop 1 (lines s)
unfolding lines
lines_after [] = refl
lines_after (c ∷ s) = go (eqb c 10) (lines s) refl (lines_after s)
  where
    go : (b : Bool) (ls : List (List ℕ)) → lines s ≡ ls → lines (drop (length (get_or ls 0 [])) s) ≡ drop 1 ls
        → lines (drop (length (get_or (pick b ((c ∷ []) ∷ ls) (onto c ls)) 0 [])) (c ∷ s)) ≡ drop 1 (pick b ((c ∷ []) ∷ ls) (onto c ls))
    go true ls is after = is
    go false [] is after = is
    go false (l ∷ ls) is after = after

module _ (text : List ℕ) where
  -- and those from line k on are the lines of the text from its start on
  lines_from : (k : ℕ) → k ≤ length (lines text) → lines (drop (place_of (lines text) k) text) ≡ drop k (lines text)
  unfolding sum_all
  lines_from zero h = refl
  lines_from (suc k) h =
      let place = place_of (lines text) k in
      let rest = lines_from k (omega arith) in
      let here : get_or (lines (drop place text)) 0 [] ≡ nth (lines text) k =
      ap (λ (l : List (List ℕ)). get_or l 0 []) rest ∙ get_or-drop k (lines text) 0 [] ∙ ap (λ n. get_or (lines text) n []) (add-zero k) in
      let next : place_of (lines text) (suc k) ≡ place + length (get_or (lines (drop place text)) 0 []) =
      ap (place_of (lines text)) (sym (add-one k)) ∙ sum_take length [] (lines text) k h ∙ ap (λ (l : List ℕ). place + length l) (sym here) in
      ap (λ n. lines (drop n text)) next ∙ ap lines (sym (drop-drop (length (get_or (lines (drop place text)) 0 [])) place text))
      ∙ lines_after (drop place text) ∙ ap (λ (l : List (List ℕ)). drop 1 l) rest ∙ drop-drop 1 k (lines text) ∙ ap (λ n. drop n (lines text)) (add-one k)

  module _ (k : ℕ) (within : k < length (lines text)) where
    place : ℕ
    place = place_of (lines text) k

    body : List ℕ
    body = body_of (nth (lines text) k)

    -- its body is at the front of the text from there on
    body_is : body ≡ body_of (drop place text)
    unfolding body place
    body_is =
        ap body_of (sym (ap (λ (l : List (List ℕ)). get_or l 0 []) (lines_from k (omega arith)) ∙ get_or-drop k (lines text) 0 [] ∙ ap (λ n. get_or (lines text) n []) (add-zero k)))
        ∙ first_body (drop (place_of (lines text) k) text)

    body_at : (j : ℕ) → j < length body → get_or body j 0 ≡ get_or text (place + j) 0
    body_at j h =
        let cut = body_cuts (drop place text) in
        ap (λ (l : List ℕ). get_or l j 0) (body_is ∙ cut.front) ∙ get_or-take (length (body_of (drop place text))) (drop place text) j 0 (omega (arith, ap length body_is))
        ∙ get_or-drop place text j 0

    body_goes : (j : ℕ) → j < length body → at_end (drop (place + j) text) ≡ false
    body_goes j h =
        fails_unless (at_end (drop (place + j) text)) (λ e.
        let short = body_stops j (drop place text) (ap at_end (drop-drop j place text) ∙ e) in
        omega (arith, ap length body_is))

    open_within : (j : ℕ) → at_end (drop j text) ≡ false → j < length text
    open_within j goes = go (dec_lt j (length text))
      where
        go : Dec (j < length text) → j < length text
        go (yes h) = h
        go (no h) = absurd (false≢true (sym goes ∙ ends_over text j (omega arith)))

    -- its first bad character
    points : has_bad body ≡ true → IsFirstBad text place (place + first_bad body)
    points e =
        let h : first_bad body < length body = ltb-true (first_bad body) (length body) e in
        let back : place + first_bad body - place ≡ first_bad body = omega arith in
        record {
          from = omega arith;
          inside = open_within (place + first_bad body) (body_goes (first_bad body) h);
          bad =
              ap (λ n. belongs n (get_or text (place + first_bad body) 0)) back
              ∙ ap (belongs (first_bad body)) (sym (body_at (first_bad body) h))
              ∙ not-true _ (first_at (length body) (λ j. not (belongs j (get_or body j 0))) h);
          no_end = λ j l. body_goes j (omega arith);
          before = λ j l.
              ap (belongs j) (sym (body_at j (omega arith)))
              ∙ not-false _ (first_before (length body) (λ j. not (belongs j (get_or body j 0))) j (omega arith));
        }

-- the faulty line at which a reader stops, by what is said of it
module _ (text : List ℕ) (k : ℕ) (below : k < length (records text)) where
  within_lines : k < length (lines text)
  within_lines = omega (arith, length-map (lines text) record_of)

  said_here : Said
  said_here = fault_said (body_of (nth (lines text) k)) (place_of (lines text) k) (fault_at (records text) k)

  fault_points : said_here.number ≡ 19 → IsFirstBad text (place_of (lines text) k) said_here.place
  unfolding said_here fault_said place body
  fault_points e = go (has_bad (body_of (nth (lines text) k))) refl (eqb (length (nth (records text) k)) 0) refl e
    where
      go : (b : Bool) → has_bad (body_of (nth (lines text) k)) ≡ b → (d : Bool) → eqb (length (nth (records text) k)) 0 ≡ d
          → (pick b (refused 19 (place_of (lines text) k + first_bad (body_of (nth (lines text) k)))) (refused (fault_at (records text) k) (place_of (lines text) k))).number ≡ 19
          → IsFirstBad text (place_of (lines text) k)
          (pick b (refused 19 (place_of (lines text) k + first_bad (body_of (nth (lines text) k)))) (refused (fault_at (records text) k) (place_of (lines text) k))).place
      go true bad d _ e = points text k within_lines bad
      go false bad true none e = absurd (omega (arith, fault_none (take k (records text)) (nth (records text) k) none))
      go false bad false some e = absurd (omega (arith, fault_other (take k (records text)) (nth (records text) k) some))

  fault_otherwise : said_here.number ≡ 20 → IsNoRecord text k said_here.place
  unfolding said_here fault_said
  fault_otherwise e = go (has_bad (body_of (nth (lines text) k))) refl (eqb (length (nth (records text) k)) 0) refl e
    where
      go : (b : Bool) → has_bad (body_of (nth (lines text) k)) ≡ b → (d : Bool) → eqb (length (nth (records text) k)) 0 ≡ d
          → (pick b (refused 19 (place_of (lines text) k + first_bad (body_of (nth (lines text) k)))) (refused (fault_at (records text) k) (place_of (lines text) k))).number ≡ 20
          → IsNoRecord text k
          (pick b (refused 19 (place_of (lines text) k + first_bad (body_of (nth (lines text) k)))) (refused (fault_at (records text) k) (place_of (lines text) k))).place
      go true bad d _ e = absurd (omega arith)
      go false bad false some e = absurd (omega (arith, fault_other (take k (records text)) (nth (records text) k) some))
      go false bad true none e =
          let empty = eqb-true (length (nth (records text) k)) 0 none in
          record {
            inside = within_lines;
            starts = refl;
            clean = bad;
            unshaped = fails_unless (is_shaped (body_of (nth (lines text) k))) (λ shaped.
                omega (arith, spelled_length (body_of (nth (lines text) k)) shaped, ap length (record_at_law (lines text) k below)));
          }

-- a number above 12 is said by neither length nor end: it is that line's
module _ (text : List ℕ) (P : ℕ → Type 0) (n : ℕ) (high : 12 < n) where
  at_the_line : (k : ℕ) → ((below : k < length (records text)) → (said_here text k below).number ≡ n → P (said_here text k below).place)
      → (judged (lines text) (records text) k).number ≡ n → P (judged (lines text) (records text) k).place
  unfolding judged said_here
  at_the_line k so e = go (ltb k (length (records text))) refl (ltb 0 (fault_at (records text) k)) (ltb (k + 1) (length (records text))) e
    where
      told : Bool → Bool → Bool → Said
      told a f l =
          pick a (pick f (fault_said (body_of (nth (lines text) k)) (place_of (lines text) k) (fault_at (records text) k))
          (pick l (refused 12 (place_of (lines text) (k + 1))) (accepted (count_of (records text))))) (refused 12 (place_of (lines text) k))

      go : (a : Bool) → ltb k (length (records text)) ≡ a → (f l : Bool) → (told a f l).number ≡ n → P (told a f l).place
      go true h true l e = so (ltb-true k (length (records text)) h) e
      go true h false true e = absurd (omega arith)
      go true h false false e = absurd (omega arith)
      go false h f l e = absurd (omega arith)

  told_there : (room : ℕ) → ((verdict text).number ≡ n → P (verdict text).place) → (answer_of text room).number ≡ n → P (answer_of text room).place
  unfolding answer_of
  told_there room so e = go (ltb room image_bytes) (ltb most_text (length text)) e
    where
      go : (a b : Bool) → (pick a (refused 6 0) (pick b (refused 7 0) (verdict text))).number ≡ n → P (pick a (refused 6 0) (pick b (refused 7 0) (verdict text))).place
      go true b e = absurd (omega arith)
      go false true e = absurd (omega arith)
      go false false e = so e

pub character_points : CharacterPoints
character_points text room e =
    let start = place_of (lines text) (stop_of (records text)) in
    told_there text (IsFirstBad text start) 19 (omega arith) room
    (at_the_line text (IsFirstBad text start) 19 (omega arith) (stop_of (records text)) (fault_points text (stop_of (records text)))) e

pub shape_points : ShapePoints
shape_points text room e =
    let line = stop_of (records text) in
    told_there text (IsNoRecord text line) 20 (omega arith) room
    (at_the_line text (IsNoRecord text line) 20 (omega arith) line (fault_otherwise text line)) e
