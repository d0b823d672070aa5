-- What else is proved of the DAC's account: of its definitions one by one, and then of sequences of events.
-- Assumes nothing.
use Rattle.std.specs.Prelude.{ℕ, suc, ◌+◌, ◌-◌, ◌%◌, ◌<◌, ◌≤◌, ◌≡◌, List, [], ◌∷◌, ◌++◌, true, false, length, take, drop, replicate}
use Rattle.std.specs.Int.Count.{count_trailing_zeros}
use Rattle.wave.specs.declared.Pair.{Pair}
use Rattle.dac.specs.declared.Dac.{Dac}
use Rattle.wave.specs.Wave.{period, sub_periods, bit, added, level, wave}
use Rattle.dac.specs.Running.{kept_pair, kept, after_reset, low_written, high_written, after_clocks, levels_of}
use Rattle.dac.specs.Play.{too_many_levels, answer_of, after_play, levels_played, lent_after}
use Rattle.periods.specs.Demand.{Event, play, run, Moment, clock, history, last_pair, since, Period, heard}

-- Fine bit b serves exactly the sub-periods from 1 to 127 that end in 6 - b zero bits; sub-period 0 gets nothing.
abbrev pub Serves : Type 0
Serves =
    (fine : ℕ) → (added fine 0 ≡ 0) × ((b n : ℕ) → b ≤ 6 → 0 < n → n < sub_periods → count_trailing_zeros 7 n ≡ 6 - b → added fine n ≡ bit fine b)

-- Two pairs are the same only if both halves are: pairs that give the same level at every position agree in both.
abbrev pub BothHalves : Type 0
BothHalves =
    (p q : Pair) → kept_pair p ≡ p → kept_pair q ≡ q → ((a : ℕ) → a < period → level p a ≡ level q a) → (p.coarse ≡ q.coarse) × (p.fine ≡ q.fine)

-- Playing a clocks and then b gives what one play of a + b gives, where that many may be played: the record, the answer, and the bytes lent, first s and
-- then t.
abbrev pub Joined : Type 0
Joined =
    (d : Dac) (a b : ℕ) (s t : List ℕ) → length s ≡ a → too_many_levels (a + b) (length (s ++ t)) ≡ false
    → (after_play (after_play d a (length s)) b (length t) ≡ after_play d (a + b) (length (s ++ t)))
    × (answer_of (after_play d a (length s)) b (length t) ≡ answer_of d (a + b) (length (s ++ t)))
    × (lent_after d a s ++ lent_after (after_play d a (length s)) b t ≡ lent_after d (a + b) (s ++ t))

-- The levels that a play puts out are what the host finds: an accepted one has left them in the first bytes lent, and the others as they came; a
-- refused one puts out none, and leaves all.
abbrev pub Found : Type 0
Found =
    (d : Dac) (c : ℕ) (lent : List ℕ)
    → (too_many_levels c (length lent) ≡ false → (take c (lent_after d c lent) ≡ levels_played d c (length lent)) × (drop c (lent_after d c lent) ≡ drop c lent))
    × (too_many_levels c (length lent) ≡ true → (levels_played d c (length lent) ≡ []) × (lent_after d c lent ≡ lent))

-- A record that the host made up is used by its kept form, also for what a play answers, and a write or a clock leaves kept values only.
abbrev pub Keeps : Type 0
Keeps =
    (d : Dac) (byte c room : ℕ)
    → (low_written (kept d) byte ≡ low_written d byte) × (kept (low_written d byte) ≡ low_written d byte)
    × (high_written (kept d) byte ≡ high_written d byte) × (kept (high_written d byte) ≡ high_written d byte)
    × (levels_of c (kept d) ≡ levels_of c d) × (after_clocks (suc c) (kept d) ≡ after_clocks (suc c) d) × (kept (after_clocks (suc c) d) ≡ after_clocks (suc c) d)
    × (answer_of (kept d) c room ≡ answer_of d c room)

-- A period's levels are those that the last pair completed before it gives, position by position.
abbrev pub Waves : Type 0
Waves = (es : List Event) (h p rest : List Moment) → Period es h p rest → heard es h ≡ wave (last_pair h) 0 period

-- The position that the record has after a sequence from reset is the clocks since the last reset, less whole periods.
abbrev pub Placed : Type 0
Placed = (es : List Event) → (run es after_reset).position ≡ since (history es) % period

-- So after every sequence from reset that ends at position 0 there is a period of demand 3: a play of the whole of it.
abbrev pub Reached : Type 0
Reached =
    (es : List Event) (room : ℕ) → period ≤ room → (run es after_reset).position ≡ 0
    → Period (es ++ (play period room ∷ [])) (history es) (replicate (period - 1) clock) []
