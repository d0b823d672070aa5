-- What each claim of this crate says at one place, computed: the numbers that it comes to there. A case takes the claim, and not its theorem, so that a
-- claim that is changed to a false one is refused here too, by its numbers. That there is a period of 16,384 clocks at the place is handed over as the claim
-- that says so, `Playable` or `Writable`. A place that a claim leaves out stands with the premise that is false there, and the falsehood that it keeps away.
-- Assumes nothing.
use Prim.Native.Nat.{ℕ, ◌+◌, ◌-◌, ◌/◌, ◌%◌, ◌<◌}
use mathlib.Core.Path.{◌≡◌, refl, ap}
use mathlib.Core.List.{List, [], ◌∷◌, ◌++◌}
use native.Mathlib.Omega.{arith}
use lib.Count.{count_trailing_zeros}
use lib.Dec.{ltb, eqb}
use lib.ListN.{take, drop, replicate}
use borrow.Author.Tests.{eqb-true}
use Rattle.laws.specs.Pick.{pick}
use Rattle.laws.specs.Said.{Said, accepted}
use Rattle.laws.specs.Sums.{sum_all}
use Rattle.laws.proofs.Tests.{upto_at}
use Rattle.dac.specs.declared.Dac.{Dac}
use Rattle.wave.specs.Wave.{pair, bit, added, level, wave}
use Rattle.dac.specs.Running.{dac_of, after_reset, playing, next_level, so_far, clocked, after_clocks, levels_of}
use Rattle.dac.specs.Play.{answer_of, after_play, levels_played, lent_after}
use Rattle.periods.specs.Demand.{Event, low, high, play, reset, step, puts, run, output, Moment, wrote_low, wrote_high, clock, moments_of, moments, history, last_low, last_pair, since, clocks, Period, heard, highs, Demand3, Unaltered, Playable, written_into, Writable, Undisturbed}
use Rattle.periods.specs.Theorems.{Serves, BothHalves, Joined, Found, Keeps, Waves, Placed, Reached}
use Rattle.periods.specs.Counts.{since_first, Counted, Answered, Divided, Divisible, AtEnd, EndAnswered, Carried}

-- two numbers, and two lists of them
infix 4 ◌is◌ ◌are◌
abbrev ◌is◌ : ℕ → ℕ → Type 0
m is n = m ≡ n

abbrev ◌are◌ : List ℕ → List ℕ → Type 0
l are m = l ≡ m

-- The same of lists that take long to compute: where two of them differ is still told, as this is a type of its own.
pub record Alike (l m : List ℕ) : Type 0 where
  pub path : l ≡ m

alike : {l m : List ℕ} → l ≡ m → Alike l m
alike e = record { path = e }

-- Fine half 33 has bits 5 and 0: sub-period 0 gets nothing of it, and sub-period 6, which ends in one zero bit, a clock.
pub serves_case : Serves → (0 is 0) × (1 is 1)
unfolding added count_trailing_zeros
serves_case claim = ((claim 33).0, (claim 33).1 5 6 (omega arith) (omega arith) (omega arith) refl)

-- Fine halves 5 and 133 agree in their low 7 bits,
same_added : (n : ℕ) → added 5 n ≡ added 133 n
unfolding added
same_added n =
    let z = count_trailing_zeros 7 n in
    ap (λ (x : ℕ). pick (eqb n 0) 0 x) (eqb-true (bit 5 (6 - z)) (bit 133 (6 - z)) (upto_at 7 (λ b. eqb (bit 5 b) (bit 133 b)) refl (6 - z) (omega arith)))

same_level : (a : ℕ) → level (pair 3 5) a ≡ level (pair 3 133) a
unfolding level
same_level a = ap (λ (x : ℕ). pick (ltb (a % 128) (3 + x)) 1 0) (same_added (a / 128))

-- and so a pair with 133 has the levels of one with 5: it is not among the pairs that are kept.
pub both_halves_case : BothHalves → (3 is 3) × (5 is 5) × (pair 3 5 ≡ pair 3 133 → 5 is 133)
both_halves_case claim =
    let c = claim (pair 3 5) (pair 3 5) refl refl (λ a small. refl) in
    (c.0, c.1, λ same. (claim (pair 3 5) (pair 3 133) refl same (λ a small. same_level a)).1)

-- a record at the start of a period, for which coarse half 2 is completed
abbrev starting : Dac
starting = dac_of 0 (pair 0 0) (pair 2 0) (pair 9 0) 5

-- two clocks and then one, or three: the record's position and count, the answer, and the bytes
pub joined_case : Joined → (3 is 3) × (2 is 2) × (2 is 2) × ((1 ∷ 1 ∷ 0 ∷ 9 ∷ []) are (1 ∷ 1 ∷ 0 ∷ 9 ∷ []))
unfolding after_play levels_played lent_after answer_of after_clocks levels_of clocked next_level so_far playing level added count_trailing_zeros
joined_case claim =
    let c = claim starting 2 1 (7 ∷ 7 ∷ []) (8 ∷ 9 ∷ []) refl refl in
    (ap (λ (d : Dac). d.position) c.0, ap (λ (d : Dac). d.high) c.0, ap (λ (s : Said). s.value) c.1, c.2)

-- three clocks into four bytes, and into two
pub found_case : Found
    → ((1 ∷ 1 ∷ 0 ∷ []) are (1 ∷ 1 ∷ 0 ∷ [])) × ((9 ∷ []) are (9 ∷ [])) × ([] are []) × ((7 ∷ 8 ∷ []) are (7 ∷ 8 ∷ []))
unfolding levels_played lent_after levels_of clocked next_level so_far playing level added count_trailing_zeros
found_case claim =
    let done = (claim starting 3 (6 ∷ 7 ∷ 8 ∷ 9 ∷ [])).0 refl in
    let refused = (claim starting 3 (7 ∷ 8 ∷ [])).1 refl in
    (done.0, done.1, refused.0, refused.1)

-- a record that a host made up: no part of it is kept
abbrev loose : Dac
loose = dac_of 16385 (pair 130 131) (pair 129 128) (pair 200 201) 16389

-- byte 200 written to either register, one clock, and the answer of a play of none
pub keeps_case : Keeps → (72 is 72) × (72 is 72) × (2 is 2) × (6 is 6) × (5 is 5)
unfolding answer_of after_clocks levels_of clocked next_level so_far playing level added count_trailing_zeros
keeps_case claim =
    let c = claim loose 200 0 0 in
    (ap (λ (d : Dac). d.held.fine) c.0, ap (λ (d : Dac). d.completed.coarse) c.2, ap (λ (d : Dac). d.position) c.5, ap (λ (d : Dac). d.high) c.5, ap (λ (s : Said). s.value) c.7)

-- A period that begins after a clock and a reset, with coarse half 2 and fine half 64 completed and 32 held, so that its T is 128 * 2 + 64. After its first
-- clock halves 72 and 5 are written.
abbrev before : List Event
before = high 7 ∷ play 1 1 ∷ reset ∷ low 64 ∷ high 2 ∷ low 32 ∷ []

abbrev begun : List Event
begun = before ++ (play 1 1 ∷ low 200 ∷ high 5 ∷ [])

abbrev all : List Event
all = before ++ written_into 1 1 200 5 16383 16383

abbrev after_first : List Moment
after_first = replicate (1 - 1) clock ++ (wrote_low 200 ∷ wrote_high 5 ∷ replicate 16383 clock)

start : since (history before) % 16384 ≡ 0
unfolding moments moments_of since
start = refl

its_period : Writable → Period all (history before) after_first []
its_period writable = writable before 1 1 200 5 16383 16383 (omega arith) (omega arith) refl (omega arith) (omega arith) start

-- four levels from the start of its sub-period 1 on
abbrev some_levels : List ℕ → List ℕ
some_levels l = take 4 (drop 128 l)

pub waves_case : Writable → Waves → Alike (1 ∷ 1 ∷ 1 ∷ 0 ∷ []) (1 ∷ 1 ∷ 1 ∷ 0 ∷ [])
unfolding output step puts after_play levels_played after_clocks levels_of clocked next_level so_far playing wave level added count_trailing_zeros moments moments_of last_low last_pair since clocks
waves_case writable claim = let c = alike (ap some_levels (claim all (history before) after_first [] (its_period writable))) in c

-- nine clocks, a reset, three more, and a play of five that is refused
pub placed_case : Placed → 3 is 3
unfolding run step after_play after_clocks clocked moments moments_of since
placed_case claim = claim (play 9 9 ∷ reset ∷ play 3 3 ∷ play 5 4 ∷ [])

-- the clocks from the reset to that period's first, less whole periods
pub reached_case : Reached → 0 is 0
unfolding run step after_play after_clocks clocked moments moments_of since
reached_case claim = (claim before 16384 (omega arith) refl).starts

-- inside a period, where its sub-period 1 begins and another pair is completed
abbrev inside : List Event
inside = high 2 ∷ play 128 128 ∷ high 5 ∷ []

-- 128 times the three high clocks of that period's sub-period 1, against T and 128 more, and the other way round; and T. And no period begins inside
-- another: the two high clocks that follow there are too few for the pair completed.
pub demand3_case : Playable → Writable → Demand3 → (384 < 448) × (320 < 512) × (highs (heard all (history before)) ≡ 320) × (128 is 0 → 640 < 384)
unfolding output step puts after_play levels_played after_clocks levels_of clocked next_level so_far playing level added count_trailing_zeros moments moments_of last_low last_pair since clocks highs
demand3_case playable writable claim =
    let s = claim all (history before) after_first [] (its_period writable) in
    (s.below 0 1 (omega arith) (omega arith), s.above 0 1 (omega arith) (omega arith), s.exact, none)
  where
    none : 128 is 0 → 640 < 384
    none starts =
        let p = playable inside 16384 (omega arith) starts in
        (claim (inside ++ (play 16384 16384 ∷ [])) (history inside) (replicate (16384 - 1) clock) [] (record { whole = p.whole; starts = starts; unbroken = p.unbroken; ended = p.ended })).above 0 0 (omega arith) (omega arith)

-- that period, and one of the same pair that is played at once from reset
pub unaltered_case : Playable → Writable → Unaltered → Alike (1 ∷ 1 ∷ 1 ∷ 0 ∷ []) (1 ∷ 1 ∷ 1 ∷ 0 ∷ [])
unfolding output step puts after_play levels_played after_clocks levels_of clocked next_level so_far playing level added count_trailing_zeros moments moments_of last_low last_pair since clocks
unaltered_case playable writable claim =
    let other = playable (low 64 ∷ high 2 ∷ []) 16384 (omega arith) refl in
    let c = alike (ap some_levels (claim all (history before) after_first [] (its_period writable) _ _ _ _ other refl)) in
    c

-- the clocks from the reset to its first, less whole periods
pub playable_case : Playable → 0 is 0
unfolding moments moments_of since
playable_case claim = (claim before 16384 (omega arith) refl).starts

pub writable_case : Writable → 0 is 0
unfolding moments moments_of since
writable_case claim = (its_period claim).starts

-- that period with the pair written into it and without, and that pair
without_it : Undisturbed → Alike (1 ∷ 1 ∷ 1 ∷ 0 ∷ []) (1 ∷ 1 ∷ 1 ∷ 0 ∷ [])
unfolding output step puts after_play levels_played after_clocks levels_of clocked next_level so_far playing level added count_trailing_zeros moments moments_of since clocks
without_it claim =
    let c = alike (ap some_levels (claim before 1 1 200 5 16383 16383 16384 (omega arith) (omega arith) refl (omega arith) (omega arith) (omega arith) refl).0) in
    c

pub undisturbed_case : Undisturbed → (last_pair (history all) ≡ pair 5 72) × Alike (1 ∷ 1 ∷ 1 ∷ 0 ∷ []) (1 ∷ 1 ∷ 1 ∷ 0 ∷ [])
undisturbed_case claim =
    ((claim before 1 1 200 5 16383 16383 16384 (omega arith) (omega arith) refl (omega arith) (omega arith) (omega arith) start).2, without_it claim)

-- right after a reset, but for a play that is refused, nothing counts; of 130 clocks the two that are high
pub counted_case : Counted → (0 is 0) × (2 is 2)
unfolding run step output puts after_play levels_played after_clocks levels_of clocked next_level so_far playing level added count_trailing_zeros moments moments_of since since_first sum_all
counted_case claim = (claim (high 3 ∷ play 2 2 ∷ reset ∷ play 1 0 ∷ []), claim (high 1 ∷ play 130 130 ∷ []))

-- a play of two clocks after one of one, all three high
pub answered_case : Answered → 3 is 3
unfolding run step output puts after_play levels_played answer_of after_clocks levels_of clocked next_level so_far playing level added count_trailing_zeros moments moments_of since since_first sum_all
answered_case claim = ap (λ (s : Said). s.value) (claim (high 5 ∷ play 1 1 ∷ []) 2 2 refl)

-- three clocks, and one and then two: the record's position and count, and the levels
pub divided_case : Divided → (3 is 3) × (2 is 2) × ((1 ∷ 1 ∷ 0 ∷ []) are (1 ∷ 1 ∷ 0 ∷ []))
unfolding run step output puts after_play levels_played after_clocks levels_of clocked next_level so_far playing level added count_trailing_zeros moments moments_of
divided_case claim =
    let c = claim (play 3 3 ∷ []) (play 1 1 ∷ play 2 2 ∷ []) refl starting in
    (ap (λ (d : Dac). d.position) c.0, ap (λ (d : Dac). d.high) c.0, c.1)

-- their clocks; those of a play of five into four bytes; those of a play of none
pub divisible_case : Divisible → (3 is 3) × (0 is 0) × (0 is 0)
unfolding moments moments_of clocks
divisible_case claim =
    let c = claim (high 1 ∷ []) (low 1 ∷ []) in
    (ap clocks (c.0 1 2 1 2 3 (omega arith) (omega arith) (omega arith) (omega arith)), ap clocks (c.1 5 4 refl), ap clocks (c.2 0))

-- T of the period above, after the pair written into it
pub at_end_law_case : Writable → AtEnd → (run all after_reset).high ≡ 320
unfolding moments moments_of last_low last_pair
at_end_law_case writable claim = claim all (history before) after_first (its_period writable)

-- and the answer of its second play
pub end_answered_case : Writable → EndAnswered → answer_of (run begun after_reset) 16383 16383 ≡ accepted 320
unfolding moments moments_of last_low last_pair
end_answered_case writable claim = claim begun 16383 16383 (history before) after_first refl (its_period writable)

-- one clock within a period where the count is the greatest that is kept; three from a first clock on; four of which the second is a first one
pub carried_case : Carried → (0 is 0) × (2 is 2) × (2 is 2)
unfolding after_clocks levels_of clocked next_level so_far playing level added count_trailing_zeros sum_all
carried_case claim = (
  (claim (dac_of 16385 (pair 0 0) (pair 0 0) (pair 3 0) 16383) 1 (omega arith) (omega arith)).0 (omega arith) (omega arith),
  (claim (dac_of 32768 (pair 0 0) (pair 2 0) (pair 9 0) 7) 3 (omega arith) (omega arith)).1 refl,
  (claim (dac_of 16383 (pair 0 0) (pair 2 0) (pair 127 127) 7) 4 (omega arith) (omega arith)).2 (omega arith) (omega arith),
)
