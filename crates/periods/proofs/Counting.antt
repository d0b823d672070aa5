-- The count of high clocks over every sequence of events. After a history, the levels from the last first clock of a period on are the first levels of the wave
-- of the pair in force, and the record's count is their sum: a first clock starts both anew, every other clock adds its level to both, and writes add to
-- neither. No pair asks for as many high clocks as there are counts, so no count is cut.
-- Assumes nothing.
use Prim.Native.Nat.{ℕ, suc, ◌+◌, ◌-◌, ◌%◌, ◌<◌, ◌≤◌}
use mathlib.Core.Path.{◌≡◌, refl, sym, ap, ap₂, ◌∙◌}
use mathlib.Core.Bool.{Bool, true, false, false≢true}
use mathlib.Core.List.{List, [], ◌∷◌, ◌++◌, append-nil, reverse, reverse_aux, reverse-cons, reverse-reverse, reverse_aux-append}
use native.Mathlib.Nat.{add-zero}
use native.Mathlib.Omega.{arith}
use lib.Dec.{eqb}
use lib.ListN.{length, drop, replicate, length-append, length-drop, replicate-append-replicate}
use lib.Seq.{drop-length, drop-append-le, drop_at, take_all}
use borrow.Author.Tests.{eq-eqb, ne_eqb, eqb-true, eqb-false}
use Rattle.laws.specs.Pick.{pick}
use Rattle.laws.specs.Said.{accepted}
use Rattle.laws.specs.Sums.{sum_all}
use Rattle.wave.specs.declared.Pair.{Pair}
use Rattle.dac.specs.declared.Dac.{Dac}
use Rattle.wave.specs.Wave.{period, level, wave}
use Rattle.dac.specs.Running.{halves, kept_pair, counts, kept_count, kept, after_reset, low_written, high_written, playing, next_level, so_far, clocked, after_clocks, levels_of}
use Rattle.dac.specs.Play.{too_many_levels, answer_of, after_play}
use Rattle.periods.specs.Demand.{Event, play, step, run, output, Moment, wrote_low, wrote_high, clock, cleared, moments_of, moments, history, last_pair, since, clocks, unreset, Period, heard, high_clocks}
use Rattle.periods.specs.Counts.{since_first, latest, Counted, Answered, Divided, Divisible, AtEnd, EndAnswered, Carried}
use Rattle.wave.proofs.Within.{wave_add, sum_wave_add}
use Rattle.dac.proofs.Clocks.{playing_kept, later_plays, first_so_far, later_so_far, counted as clocks_counted, moved, levels_within, after_within, length_levels, levels_split, after_split}
use Rattle.dac.proofs.Answers.{may}
use Rattle.periods.proofs.Count.{sum_period, sum_first}
use Rattle.periods.proofs.Stream.{act, through, sound, sound_append, through_history, output_sound, run_through, past, clocks_history, length_sound, pair_small, known, waves, run_past}
use Rattle.periods.proofs.Exist.{moments_append}

-- where a history stands in its period
record Within (h : List Moment) (n : ℕ) : Type 0 where
  most : n ≤ period
  place : n % period ≡ since h % period
  among : n ≤ clocks h

within_clock : (h : List Moment) (n : ℕ) → Within h n → (b : Bool) → eqb (since h % period) 0 ≡ b → Within (clock ∷ h) (pick b 1 (suc n))
unfolding since clocks
within_clock h n w true t = let z = eqb-true (since h % period) 0 t in record { most = omega arith; place = omega arith; among = omega arith }
within_clock h n w false t =
    let z = eqb-false (since h % period) 0 t in
    let some : 0 < since h % period = omega arith in
    record { most = omega (arith, w.most, w.place); place = omega (arith, w.place); among = omega (arith, w.among) }

within : (h : List Moment) → Within h (since_first h)
unfolding since_first since clocks
within [] = record { most = omega arith; place = refl; among = omega arith }
within (wrote_low byte ∷ h) = let w = within h in record { most = w.most; place = w.place; among = w.among }
within (wrote_high byte ∷ h) = let w = within h in record { most = w.most; place = w.place; among = w.among }
within (clock ∷ h) = within_clock h (since_first h) (within h) (eqb (since h % period) 0) refl
within (cleared ∷ h) = record { most = omega arith; place = refl; among = omega arith }

-- a clock is a first one, or one more of its period
first_clock : (h : List Moment) → since h % period ≡ 0 → since_first (clock ∷ h) ≡ 1
unfolding since_first
first_clock h e = rw (eq-eqb (since h % period) 0 e)

later_clock : (h : List Moment) → 0 < since h % period → since_first (clock ∷ h) ≡ suc (since_first h)
unfolding since_first
later_clock h some = rw (ne_eqb (since h % period) 0 (λ e. omega arith))

-- all levels of a history, and one moment more
spoken : List Moment → List ℕ
spoken h = sound (reverse h) after_reset

spoken_more : (m : Moment) (h : List Moment) → spoken (m ∷ h) ≡ spoken h ++ sound (m ∷ []) (past h)
unfolding spoken
spoken_more m h =
    ap (λ (ms : List Moment). sound ms after_reset) (reverse-cons m h)
    ∙ sound_append (reverse h) (m ∷ []) after_reset ∙ ap (λ (d : Dac). spoken h ++ sound (m ∷ []) d) (through_history h)

spoken_length : (h : List Moment) → length (spoken h) ≡ clocks h
unfolding spoken
spoken_length h = length_sound (reverse h) after_reset ∙ clocks_history h

-- one level more at the end
latest_more : (n : ℕ) (l : List ℕ) (x : ℕ) → n ≤ length l → latest (suc n) (l ++ (x ∷ [])) ≡ latest n l ++ (x ∷ [])
latest_more n l x h =
    let e : length (l ++ (x ∷ [])) - suc n ≡ length l - n = omega (arith, length-append l (x ∷ [])) in
    ap (λ (k : ℕ). drop k (l ++ (x ∷ []))) e ∙ drop-append-le (length l - n) l (x ∷ []) (omega arith)

latest_none : (l : List ℕ) → latest 0 l ≡ []
latest_none l = let e : length l - 0 ≡ length l = omega arith in ap (λ (k : ℕ). drop k l) e ∙ drop-length l

-- What a record d knows of a history of which n clocks are of the period under way, and l all levels.
record Counts (n : ℕ) (l : List ℕ) (d : Dac) : Type 0 where
  force : kept_pair d.in_force ≡ d.in_force
  levels : latest n l ≡ wave d.in_force 0 n
  count : d.high ≡ sum_all (wave d.in_force 0 n)

no_counts : (n : ℕ) (l : List ℕ) → n ≡ 0 → Counts n l after_reset
unfolding wave sum_all
no_counts n l e = rw e (record { force = refl; levels = latest_none l; count = refl })

-- no count of a reached record is cut
small : (n : ℕ) (l : List ℕ) (d : Dac) → n ≤ period → Counts n l d → d.high < counts
small n l d most c =
    let coarse : d.in_force.coarse % halves ≡ d.in_force.coarse = ap (λ (q : Pair). q.coarse) c.force in
    let fine : d.in_force.fine % halves ≡ d.in_force.fine = ap (λ (q : Pair). q.fine) c.force in
    omega (arith, c.count, sum_first d.in_force (omega arith) (omega arith) n most)

-- A record with the same pair in force and the same count, both in their kept form, knows the same.
same_counts : (n : ℕ) (l l' : List ℕ) (d d' : Dac) → n ≤ period → Counts n l d → l' ≡ l → d'.in_force ≡ kept_pair d.in_force → d'.high ≡ kept_count d.high → Counts n l' d'
same_counts n l l' d d' most c same force high =
    let f : d'.in_force ≡ d.in_force = force ∙ c.force in
    let h : d'.high ≡ d.high = omega (arith, small n l d most c) in
    record {
      force = rw f c.force;
      levels = rw (same, f) c.levels;
      count = h ∙ c.count ∙ ap (λ (q : Pair). sum_all (wave q 0 n)) (sym f);
    }

-- one clock more
one_level : (q : Pair) (n : ℕ) → wave q 0 n ++ (level q n ∷ []) ≡ wave q 0 (suc n)
unfolding wave
one_level q n =
    let e : n + 1 ≡ suc n = omega arith in
    let z : 0 + n ≡ n = omega arith in
    ap (λ (a : ℕ). wave q 0 n ++ (level q a ∷ [])) (sym z) ∙ sym (wave_add q 0 n 1) ∙ ap (wave q 0) e

sum_level : (q : Pair) (n : ℕ) → sum_all (wave q 0 (suc n)) ≡ sum_all (wave q 0 n) + level q n
unfolding wave sum_all
sum_level q n =
    let e : n + 1 ≡ suc n = omega arith in
    let z : 0 + n ≡ n = omega arith in
    ap (λ (m : ℕ). sum_all (wave q 0 m)) (sym e) ∙ sum_wave_add q 0 n 1 ∙ ap (λ (a : ℕ). sum_all (wave q 0 n) + (level q a + 0)) z ∙ omega arith

-- n clocks were played before it of the period that it belongs to, with the pair q in force
clock_counts : (n : ℕ) (l : List ℕ) (d : Dac) (q : Pair) → suc n ≤ period → n ≤ length l → kept_pair q ≡ q → playing (kept d) ≡ q → (kept d).position ≡ n
    → latest n l ≡ wave q 0 n → so_far (kept d) ≡ sum_all (wave q 0 n) → Counts (suc n) (l ++ (next_level (kept d) ∷ [])) (clocked (kept d))
unfolding clocked next_level
clock_counts n l d q most room is plays at levels before =
    let x : next_level (kept d) ≡ level q n = ap₂ level plays at in
    let coarse : q.coarse % halves ≡ q.coarse = ap (λ (p : Pair). p.coarse) is in
    let fine : q.fine % halves ≡ q.fine = ap (λ (p : Pair). p.fine) is in
    let bound = sum_first q (omega arith) (omega arith) (suc n) most in
    record {
      force = rw plays is;
      levels = latest_more n l (next_level (kept d)) room ∙ ap₂ (λ (w : List ℕ) (v : ℕ). w ++ (v ∷ [])) levels x ∙ one_level q n ∙ ap (λ (p : Pair). wave p 0 (suc n)) (sym plays);
      count = omega (arith, x, before, bound, sum_level q n) ∙ ap (λ (p : Pair). sum_all (wave p 0 (suc n))) (sym plays);
    }

module _ (h : List Moment) (c : Counts (since_first h) (spoken h) (past h)) where
  room : since_first h ≤ length (spoken h)
  room = omega (arith, (within h).among, spoken_length h)

  first_counts : since h % period ≡ 0 → Counts 1 (spoken h ++ (next_level (kept (past h)) ∷ [])) (clocked (kept (past h)))
  unfolding wave sum_all
  first_counts z =
      let at : (kept (past h)).position ≡ 0 = (known h).place ∙ z in
      clock_counts 0 (spoken h) (past h) (playing (kept (past h))) (omega arith) (omega arith) (playing_kept (past h)) refl at (latest_none (spoken h)) (first_so_far (kept (past h)) at)

  later_counts : 0 < since h % period → Counts (suc (since_first h)) (spoken h ++ (next_level (kept (past h)) ∷ [])) (clocked (kept (past h)))
  later_counts some =
      let w = within h in
      let at : (kept (past h)).position ≡ since_first h = omega (arith, (known h).place, w.place, w.most) in
      let plays : playing (kept (past h)) ≡ (past h).in_force = later_plays (kept (past h)) (omega arith) ∙ c.force in
      let before : so_far (kept (past h)) ≡ sum_all (wave (past h).in_force 0 (since_first h)) =
      later_so_far (kept (past h)) (omega arith) ∙ omega (arith, c.count, small (since_first h) (spoken h) (past h) w.most c) in
      clock_counts (since_first h) (spoken h) (past h) (past h).in_force (omega (arith, w.place, w.most)) room c.force plays at c.levels before

  more_counts : Counts (since_first (clock ∷ h)) (spoken h ++ (next_level (kept (past h)) ∷ [])) (clocked (kept (past h)))
  more_counts = go (eqb (since h % period) 0) refl
    where
      go : (b : Bool) → eqb (since h % period) 0 ≡ b → Counts (since_first (clock ∷ h)) (spoken h ++ (next_level (kept (past h)) ∷ [])) (clocked (kept (past h)))
      go true t = let z = eqb-true (since h % period) 0 t in rw (first_clock h z) (first_counts z)
      go false t = let z = eqb-false (since h % period) 0 t in let some : 0 < since h % period = omega arith in rw (later_clock h some) (later_counts some)

spoken_write : (m : Moment) (h : List Moment) → sound (m ∷ []) (past h) ≡ [] → spoken (m ∷ h) ≡ spoken h
spoken_write m h e = spoken_more m h ∙ ap (λ (l : List ℕ). spoken h ++ l) e ∙ append-nil (spoken h)

counts_of : (h : List Moment) → Counts (since_first h) (spoken h) (past h)
unfolding since_first past act sound
counts_of [] = no_counts 0 (spoken []) refl
counts_of (wrote_low byte ∷ h) =
    same_counts (since_first h) (spoken h) _ (past h) (low_written (past h) byte) (within h).most (counts_of h) (spoken_write (wrote_low byte) h refl) refl refl
counts_of (wrote_high byte ∷ h) =
    same_counts (since_first h) (spoken h) _ (past h) (high_written (past h) byte) (within h).most (counts_of h) (spoken_write (wrote_high byte) h refl) refl refl
counts_of (clock ∷ h) = rw (spoken_more clock h) (more_counts h (counts_of h))
counts_of (cleared ∷ h) = no_counts 0 (spoken (cleared ∷ h)) refl

-- The record after a sequence of events, and all that it put out, by its history.
output_spoken : (es : List Event) → output es after_reset ≡ spoken (history es)
unfolding spoken
output_spoken es = output_sound es after_reset ∙ ap (λ (ms : List Moment). sound ms after_reset) (sym (reverse-reverse (moments es)))

pub counted : Counted
counted es =
    let c = counts_of (history es) in
    ap (λ (d : Dac). d.high) (run_past es) ∙ c.count ∙ ap sum_all (sym c.levels) ∙ ap (λ (l : List ℕ). sum_all (latest (since_first (history es)) l)) (sym (output_spoken es))

count_small : (es : List Event) → (run es after_reset).high < counts
count_small es =
    let h = history es in
    let e : (run es after_reset).high ≡ (past h).high = ap (λ (d : Dac). d.high) (run_past es) in
    omega (arith, small (since_first h) (spoken h) (past h) (within h).most (counts_of h))

-- one event more
run_append : (es fs : List Event) (d : Dac) → run (es ++ fs) d ≡ run fs (run es d)
unfolding run
run_append [] fs d = refl
run_append (e ∷ es) fs d = run_append es fs (step e d)

answer_after : (es : List Event) (c room : ℕ) → too_many_levels c room ≡ false → answer_of (run es after_reset) c room ≡ accepted (run (es ++ (play c room ∷ [])) after_reset).high
unfolding run step answer_of after_play
answer_after es c room e =
    let after : run (es ++ (play c room ∷ [])) after_reset ≡ after_clocks c (run es after_reset) = run_append es (play c room ∷ []) after_reset ∙ rw e refl in
    let same : kept_count (run (es ++ (play c room ∷ [])) after_reset).high ≡ (run (es ++ (play c room ∷ [])) after_reset).high =
    omega (arith, count_small (es ++ (play c room ∷ []))) in
    rw e (ap (λ (d : Dac). accepted (kept_count d.high)) (sym after) ∙ ap accepted same)

pub answered : Answered
answered es c room e = answer_after es c room e ∙ ap accepted (counted (es ++ (play c room ∷ [])))

pub divided : Divided
divided es fs e d = (
  run_through es d ∙ ap (λ (ms : List Moment). through ms d) e ∙ sym (run_through fs d),
  output_sound es d ∙ ap (λ (ms : List Moment). sound ms d) e ∙ sym (output_sound fs d),
)

-- events that have the same moments, anywhere in a sequence
amid : (es xs ys fs : List Event) → moments xs ≡ moments ys → moments (es ++ (xs ++ fs)) ≡ moments (es ++ (ys ++ fs))
amid es xs ys fs e =
    let inner : moments (xs ++ fs) ≡ moments (ys ++ fs) =
    moments_append xs fs ∙ ap (λ (ms : List Moment). ms ++ moments fs) e ∙ sym (moments_append ys fs) in
    moments_append es (xs ++ fs) ∙ ap (λ (ms : List Moment). moments es ++ ms) inner ∙ sym (moments_append es (ys ++ fs))

pub divisible : Divisible
unfolding moments moments_of
divisible es fs = (
  λ a b room room' whole most fits fits' fits_whole. amid es (play a room ∷ play b room' ∷ []) (play (a + b) whole ∷ []) fs
      (rw (may a room (omega arith) fits, may b room' (omega arith) fits', may (a + b) whole most fits_whole, append-nil (replicate b clock), append-nil (replicate (a + b) clock))
      (replicate-append-replicate a b clock)),
  λ c room e. amid es (play c room ∷ []) [] fs (rw e refl),
  λ room. amid es (play 0 room ∷ []) [] fs (rw (may 0 room (omega arith) (omega arith)) refl),
)

-- moments without a reset that end no later than the period under way
clocks_on : (ms h : List Moment) → unreset ms ≡ true → 0 < since_first h → since_first h + clocks ms ≤ period → since_first (reverse_aux ms h) ≡ since_first h + clocks ms
unfolding clocks unreset since_first
clocks_on [] h u some most = sym (add-zero (since_first h))
clocks_on (wrote_low byte ∷ ms) h u some most = clocks_on ms (wrote_low byte ∷ h) u some most
clocks_on (wrote_high byte ∷ ms) h u some most = clocks_on ms (wrote_high byte ∷ h) u some most
clocks_on (clock ∷ ms) h u some most =
    let w = within h in
    let later = later_clock h (omega (arith, w.place)) in
    clocks_on ms (clock ∷ h) u (omega (arith, later)) (omega (arith, later)) ∙ omega (arith, later)
clocks_on (cleared ∷ ms) h u some most = absurd (false≢true u)

clocks_append : (ms ns : List Moment) → clocks (ms ++ ns) ≡ clocks ms + clocks ns
unfolding clocks
clocks_append [] ns = omega arith
clocks_append (wrote_low byte ∷ ms) ns = clocks_append ms ns
clocks_append (wrote_high byte ∷ ms) ns = clocks_append ms ns
clocks_append (clock ∷ ms) ns = omega (arith, clocks_append ms ns)
clocks_append (cleared ∷ ms) ns = clocks_append ms ns

-- after a period's last clock
module _ (es : List Event) (h p : List Moment) (P : Period es h p []) where
  -- the history of which its first clock is the oldest that counts
  from_first : history es ≡ reverse_aux p (clock ∷ h)
  from_first =
      ap (λ (ms : List Moment). reverse ms) P.whole ∙ reverse_aux-append (reverse h) (clock ∷ (p ++ [])) []
      ∙ ap₂ (λ (ms l : List Moment). reverse_aux ms (clock ∷ l)) (append-nil p) (reverse-reverse h)

  its_clocks : suc (clocks p) ≡ period
  unfolding clocks
  its_clocks = P.ended

  all_of_it : since_first (history es) ≡ period
  all_of_it =
      let first = first_clock h P.starts in
      ap since_first from_first ∙ clocks_on p (clock ∷ h) P.unbroken (omega (arith, first)) (omega (arith, first, its_clocks)) ∙ omega (arith, first, its_clocks)

  long : length (output es after_reset) ≡ clocks h + period
  unfolding clocks
  long =
      ap length (output_sound es after_reset ∙ ap (λ (ms : List Moment). sound ms after_reset) P.whole) ∙ length_sound (reverse h ++ (clock ∷ (p ++ []))) after_reset
      ∙ clocks_append (reverse h) (clock ∷ (p ++ [])) ∙ omega (arith, clocks_history h, its_clocks, ap clocks (append-nil p))

  -- the levels since its first clock are those that are heard of it
  all_heard : latest (since_first (history es)) (output es after_reset) ≡ heard es h
  all_heard =
      let e : length (output es after_reset) - since_first (history es) ≡ clocks h = omega (arith, long, all_of_it) in
      ap (λ (k : ℕ). drop k (output es after_reset)) e
      ∙ sym (take_all period (drop (clocks h) (output es after_reset)) (omega (arith, length-drop (clocks h) (output es after_reset), long)))

  ends_with : (run es after_reset).high ≡ high_clocks (last_pair h)
  ends_with = counted es ∙ ap sum_all (all_heard ∙ waves es h p [] P) ∙ sum_period (last_pair h) (pair_small h).0 (pair_small h).1

pub at_end_law : AtEnd
at_end_law = ends_with

pub end_answered : EndAnswered
end_answered es c room h p e P = answer_after es c room e ∙ ap accepted (at_end_law (es ++ (play c room ∷ [])) h p P)

-- Of any record: within a period, and from a first clock on.
module _ (d : Dac) (c : ℕ) (some : 0 < c) where
  field_is : d.position % period + c ≤ period → (after_clocks c d).high ≡ kept_count (so_far (kept d) + sum_all (levels_of c d))
  unfolding moved clocks_counted
  field_is fits = ap (λ (x : Dac). x.high) (after_within c d some fits) ∙ ap (λ (l : List ℕ). kept_count (so_far (kept d) + sum_all l)) (sym (levels_within c d fits))

  goes_on : 0 < d.position % period → d.position % period + c ≤ period → (after_clocks c d).high ≡ kept_count (d.high + sum_all (levels_of c d))
  goes_on begun fits = field_is fits ∙ omega (arith, later_so_far (kept d) begun)

  begins : d.position % period ≡ 0 → c ≤ period → (after_clocks c d).high ≡ sum_all (levels_of c d)
  begins e most =
      let fits : d.position % period + c ≤ period = omega arith in
      let q : Pair = playing (kept d) in
      let coarse : q.coarse % halves ≡ q.coarse = ap (λ (p : Pair). p.coarse) (playing_kept d) in
      let fine : q.fine % halves ≡ q.fine = ap (λ (p : Pair). p.fine) (playing_kept d) in
      let sum : sum_all (levels_of c d) ≡ sum_all (wave q 0 c) = ap sum_all (levels_within c d fits) ∙ ap (λ (a : ℕ). sum_all (wave q a c)) e in
      field_is fits ∙ omega (arith, first_so_far (kept d) e, sum_first q (omega arith) (omega arith) c most)

pub carried : Carried
unfolding moved
carried d c some most = (goes_on d c some, λ e. begins d c some e most, crosses)
  where
    crosses : 0 < d.position % period → period < d.position % period + c → (after_clocks c d).high ≡ sum_all (drop (period - d.position % period) (levels_of c d))
    crosses begun past =
        let left : ℕ = period - d.position % period in
        let whole : left + (c - left) ≡ c = omega arith in
        let at : (after_clocks left d).position % period ≡ 0 = ap (λ (x : Dac). x.position % period) (after_within left d (omega arith) (omega arith)) ∙ omega arith in
        let levels : drop left (levels_of c d) ≡ levels_of (c - left) (after_clocks left d) =
        ap (λ (n : ℕ). drop left (levels_of n d)) (sym whole) ∙ ap (λ (l : List ℕ). drop left l) (levels_split left (c - left) d)
        ∙ drop_at (levels_of left d) (levels_of (c - left) (after_clocks left d)) left (length_levels left d) in
        ap (λ (n : ℕ). (after_clocks n d).high) (sym whole) ∙ ap (λ (x : Dac). x.high) (after_split left (c - left) d)
        ∙ begins (after_clocks left d) (c - left) (omega arith) at (omega arith) ∙ ap sum_all (sym levels)
