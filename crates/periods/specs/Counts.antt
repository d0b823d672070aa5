-- The count of high clocks, M-104. What a sequence of events from reset leaves in the field is said by what the sequence put out and by its history,
-- and the record is looked into for that field alone.
-- Assumes nothing.
use Rattle.std.specs.Prelude.{ℕ, suc, ◌+◌, ◌-◌, ◌%◌, ◌<◌, ◌≤◌, ◌≡◌, true, false, List, [], ◌∷◌, ◌++◌, eqb, length, drop}
use Rattle.laws.specs.Pick.{pick}
use Rattle.laws.specs.Said.{accepted}
use Rattle.laws.specs.Sums.{sum_all}
use Rattle.dac.specs.declared.Dac.{Dac}
use Rattle.wave.specs.Wave.{period}
use Rattle.dac.specs.Running.{kept_count, after_reset, after_clocks, levels_of}
use Rattle.dac.specs.Play.{too_many_levels, answer_of}
use Rattle.periods.specs.Demand.{Event, play, run, output, Moment, wrote_low, wrote_high, clock, cleared, moments, history, last_pair, since, Period, high_clocks}

-- The clocks of a history, whose latest moment comes first, from its last first clock of a period on, that one among them; 0 where there is none
-- after its last reset. A clock is a first one where the clocks before it, back to the last reset or the start, are none or make whole periods.
unfoldable pub since_first : List Moment → ℕ
since_first [] = 0
since_first (wrote_low byte ∷ h) = since_first h
since_first (wrote_high byte ∷ h) = since_first h
since_first (clock ∷ h) = pick (eqb (since h % period) 0) 1 (suc (since_first h))
since_first (cleared ∷ h) = 0

-- the last n of some levels
abbrev pub latest : ℕ → List ℕ → List ℕ
latest n l = drop (length l - n) l

-- the sum of the bytes that a sequence put out from that first clock on
abbrev pub sounded : List Event → ℕ
sounded es = sum_all (latest (since_first (history es)) (output es after_reset))

-- After every sequence from reset the field is that sum, whatever was written, refused or played with no clocks;
abbrev pub Counted : Type 0
Counted = (es : List Event) → (run es after_reset).high ≡ sounded es

-- and every play that is not refused answers it.
abbrev pub Answered : Type 0
Answered =
    (es : List Event) (c room : ℕ) → too_many_levels c room ≡ false
    → answer_of (run es after_reset) c room ≡ accepted (sounded (es ++ (play c room ∷ [])))

-- Where plays begin and end does not matter: two sequences with the same moments leave the same record, its count with it, and have put out the same
-- levels, from any record on, also one that a host made up.
abbrev pub Divided : Type 0
Divided = (es fs : List Event) → moments es ≡ moments fs → (d : Dac) → (run es d ≡ run fs d) × (output es d ≡ output fs d)

-- Such sequences there are: anywhere in a sequence a play may be two that have its clocks together, and a refused play and one of no clocks may be left
-- out.
abbrev pub Divisible : Type 0
Divisible =
    (es fs : List Event)
    → ((a b room room' whole : ℕ) → a + b ≤ period → a ≤ room → b ≤ room' → a + b ≤ whole
    → moments (es ++ (play a room ∷ play b room' ∷ fs)) ≡ moments (es ++ (play (a + b) whole ∷ fs)))
    × ((c room : ℕ) → too_many_levels c room ≡ true → moments (es ++ (play c room ∷ fs)) ≡ moments (es ++ fs))
    × ((room : ℕ) → moments (es ++ (play 0 room ∷ fs)) ≡ moments (es ++ fs))

-- After a period's last clock the field is demand 3's T, and stays so: p may have writes behind that clock.
abbrev pub AtEnd : Type 0
AtEnd = (es : List Event) (h p : List Moment) → Period es h p [] → (run es after_reset).high ≡ high_clocks (last_pair h)

-- The play that ends the period answers T, and so does every play of no clocks behind it.
abbrev pub EndAnswered : Type 0
EndAnswered =
    (es : List Event) (c room : ℕ) (h p : List Moment) → too_many_levels c room ≡ false → Period (es ++ (play c room ∷ [])) h p []
    → answer_of (run es after_reset) c room ≡ accepted (high_clocks (last_pair h))

-- Of any record, also one that a host made up: within a period the count goes on from the one handed over, modulo 16,384; from a first clock on it is the
-- sum of the levels, wherever in the play that clock is.
abbrev pub Carried : Type 0
Carried =
    (d : Dac) (c : ℕ) → 0 < c → c ≤ period
    → let p = d.position % period in
    (0 < p → p + c ≤ period → (after_clocks c d).high ≡ kept_count (d.high + sum_all (levels_of c d)))
    × (p ≡ 0 → (after_clocks c d).high ≡ sum_all (levels_of c d))
    × (0 < p → period < p + c → (after_clocks c d).high ≡ sum_all (drop (period - p) (levels_of c d)))
