-- Demand 3, in words that never look into the running record: what a host does, what then happens clock by clock, and what is asked of every
-- period that is played to its end. The record goes through `step` alone, whose cases are what the promises of dac's functions cite.
-- Assumes nothing.
use Rattle.std.specs.Prelude.{ℕ, suc, ◌+◌, ◌-◌, ◌*◌, ◌%◌, ◌^◌, ◌<◌, ◌≤◌, ◌≡◌, Bool, true, false, List, [], ◌∷◌, ◌++◌, reverse, eqb, length, take, drop, replicate}
use Rattle.laws.specs.Pick.{pick}
use Rattle.wave.specs.declared.Pair.{Pair}
use Rattle.dac.specs.declared.Dac.{Dac}
use Rattle.wave.specs.Wave.{period, sub_period, sub_periods, pair, wave}
use Rattle.dac.specs.Running.{kept_half, after_reset, low_written, high_written}
use Rattle.dac.specs.Play.{too_many_levels, after_play, levels_played}

-- What a host does with its one running record: writes of a byte to either register, plays of so many clocks into so many bytes lent, resets.
pub data Event : Type 0 where
  low high : ℕ → Event
  play : ℕ → ℕ → Event
  reset : Event

unfoldable pub step : Event → Dac → Dac
step (low byte) d = low_written d byte
step (high byte) d = high_written d byte
step (play clocks room) d = after_play d clocks room
step reset d = after_reset

-- the levels that one event puts out
unfoldable pub puts : Event → Dac → List ℕ
puts (low byte) d = []
puts (high byte) d = []
puts (play clocks room) d = levels_played d clocks room
puts reset d = []

-- the record after a sequence of events, and all the levels that it puts out, in time's order
unfoldable pub run : List Event → Dac → Dac
run [] d = d
run (e ∷ es) d = run es (step e d)

unfoldable pub output : List Event → Dac → List ℕ
output [] d = []
output (e ∷ es) d = puts e d ++ output es (step e d)

-- The same sequence, a moment for each write, each reset and each clock. A refused play is no moment.
pub data Moment : Type 0 where
  wrote_low wrote_high : ℕ → Moment
  clock cleared : Moment

unfoldable pub moments_of : Event → List Moment
moments_of (low byte) = wrote_low byte ∷ []
moments_of (high byte) = wrote_high byte ∷ []
moments_of (play clocks room) = pick (too_many_levels clocks room) [] (replicate clocks clock)
moments_of reset = cleared ∷ []

unfoldable pub moments : List Event → List Moment
moments [] = []
moments (e ∷ es) = moments_of e ++ moments es

-- A history is a list of moments, the latest first.
abbrev pub history : List Event → List Moment
history es = reverse (moments es)

-- the low half last written in it since its last reset, or 0
unfoldable pub last_low : List Moment → ℕ
last_low [] = 0
last_low (wrote_low byte ∷ h) = kept_half byte
last_low (wrote_high byte ∷ h) = last_low h
last_low (clock ∷ h) = last_low h
last_low (cleared ∷ h) = 0

-- the last pair completed since the last reset, or two halves of 0
unfoldable pub last_pair : List Moment → Pair
last_pair [] = pair 0 0
last_pair (wrote_low byte ∷ h) = last_pair h
last_pair (wrote_high byte ∷ h) = pair (kept_half byte) (last_low h)
last_pair (clock ∷ h) = last_pair h
last_pair (cleared ∷ h) = pair 0 0

-- the clocks since the last reset
unfoldable pub since : List Moment → ℕ
since [] = 0
since (wrote_low byte ∷ h) = since h
since (wrote_high byte ∷ h) = since h
since (clock ∷ h) = suc (since h)
since (cleared ∷ h) = 0

-- all clocks, of a history or of a stretch of moments; and whether the stretch has no reset
unfoldable pub clocks : List Moment → ℕ
clocks [] = 0
clocks (wrote_low byte ∷ ms) = clocks ms
clocks (wrote_high byte ∷ ms) = clocks ms
clocks (clock ∷ ms) = suc (clocks ms)
clocks (cleared ∷ ms) = clocks ms

unfoldable pub unreset : List Moment → Bool
unreset [] = true
unreset (wrote_low byte ∷ ms) = unreset ms
unreset (wrote_high byte ∷ ms) = unreset ms
unreset (clock ∷ ms) = unreset ms
unreset (cleared ∷ ms) = false

-- A period of the sequence es, played to its end: h is the history before its first clock, p what followed that clock, in time's order, with the
-- period's last clock in it, and rest what came later. Writes between the last clock and the next period's first may stand in p or in rest. Where
-- plays begin and end is not said: they may cross the period's ends as they like.
pub record Period (es : List Event) (h p rest : List Moment) : Type 0 where
  pub whole : moments es ≡ reverse h ++ (clock ∷ (p ++ rest))
  pub starts : since h % period ≡ 0
  pub unbroken : unreset p ≡ true
  pub ended : clocks (clock ∷ p) ≡ period

-- the levels of a period, found in all that the sequence put out from reset
abbrev pub heard : List Event → List Moment → List ℕ
heard es h = take period (drop (clocks h) (output es after_reset))

-- how many of some levels are high
unfoldable pub highs : List ℕ → ℕ
highs [] = 0
highs (b ∷ bs) = pick (eqb b 1) 1 0 + highs bs

-- T: how many high clocks of a period a pair asks for
abbrev pub high_clocks : Pair → ℕ
high_clocks q = sub_periods * q.coarse + q.fine

-- run j of r sub-periods, counted from the period's start
abbrev pub run_of : ℕ → ℕ → List ℕ → List ℕ
run_of r j w = take (sub_period * r) (drop (sub_period * (r * j)) w)

-- What is asked of a period's levels w, t being T: t of them are high; and in every run of r = 1, 2, 4, .. 64 of its 128 sub-periods 128 times
-- the number of high clocks is less than 128 away from r times t.
pub record Shares (t : ℕ) (w : List ℕ) : Type 0 where
  pub long : length w ≡ period
  pub exact : highs w ≡ t
  pub below : (k j : ℕ) → k < 7 → j < 2 ^ (7 - k) → sub_periods * highs (run_of (2 ^ k) j w) < 2 ^ k * t + sub_periods
  pub above : (k j : ℕ) → k < 7 → j < 2 ^ (7 - k) → 2 ^ k * t < sub_periods * highs (run_of (2 ^ k) j w) + sub_periods

abbrev pub Demand3 : Type 0
Demand3 = (es : List Event) (h p rest : List Moment) → Period es h p rest → Shares (high_clocks (last_pair h)) (heard es h)

-- No write during a period alters it: two periods, of any two sequences and with anything but a reset during either, have the same levels
-- where the last pairs completed before their first clocks are the same.
abbrev pub Unaltered : Type 0
Unaltered =
    (es : List Event) (h p rest : List Moment) → Period es h p rest
    → (es' : List Event) (h' p' rest' : List Moment) → Period es' h' p' rest'
    → last_pair h ≡ last_pair h' → heard es h ≡ heard es' h'

-- Such periods there are: where a sequence ends at a period's start, a play of the whole period is one.
abbrev pub Playable : Type 0
Playable =
    (es : List Event) (room : ℕ) → period ≤ room → since (history es) % period ≡ 0
    → Period (es ++ (play period room ∷ [])) (history es) (replicate (period - 1) clock) []

-- And such with writes in them: the period in two plays, a clocks and then b, with a low and a high half written between the two.
abbrev pub written_into : ℕ → ℕ → ℕ → ℕ → ℕ → ℕ → List Event
written_into a room x y b room' = play a room ∷ low x ∷ high y ∷ play b room' ∷ []

abbrev pub Writable : Type 0
Writable =
    (es : List Event) (a room x y b room' : ℕ) → 0 < a → 0 < b → a + b ≡ period → a ≤ room → b ≤ room' → since (history es) % period ≡ 0
    → Period (es ++ written_into a room x y b room') (history es) (replicate (a - 1) clock ++ (wrote_low x ∷ wrote_high y ∷ replicate b clock)) []

-- So the pair written into a period leaves its levels as if it had been played at once with no write, and the next period goes by it: played
-- whole, its levels are those that the pair gives.
abbrev pub Undisturbed : Type 0
Undisturbed =
    (es : List Event) (a room x y b room' whole : ℕ) → 0 < a → 0 < b → a + b ≡ period → a ≤ room → b ≤ room' → period ≤ whole → since (history es) % period ≡ 0
    → let fs = es ++ written_into a room x y b room' in
    let written = pair (kept_half y) (kept_half x) in
    (heard fs (history es) ≡ heard (es ++ (play period whole ∷ [])) (history es))
    × (since (history fs) % period ≡ 0) × (last_pair (history fs) ≡ written)
    × (heard (fs ++ (play period whole ∷ [])) (history fs) ≡ wave written 0 period)
