-- That there are periods of demand 3: a play of 16,384 clocks where a period starts is one, and so are two plays of as many with a pair written
-- between them. The latter has the same levels, by `unaltered`; the pair written is the last one completed before the next period, whose levels
-- are its wave, by `waves`.
-- Assumes nothing.
use Prim.Native.Nat.{ℕ, zero, suc, ◌+◌, ◌-◌, ◌%◌, ◌<◌, ◌≤◌}
use mathlib.Core.Path.{◌≡◌, refl, sym, ap, ap₂, ◌∙◌}
use mathlib.Core.Bool.{true}
use mathlib.Core.List.{List, [], ◌∷◌, ◌++◌, append_assoc, append-nil, reverse, reverse_aux, reverse-reverse}
use native.Mathlib.Nat.{zero-add, add-zero}
use native.Mathlib.Omega.{arith}
use lib.ListN.{replicate}
use Rattle.wave.specs.declared.Pair.{Pair}
use Rattle.wave.specs.Wave.{period, pair, wave}
use Rattle.dac.specs.Running.{kept_half}
use Rattle.periods.specs.Demand.{Event, play, Moment, wrote_low, wrote_high, clock, moments_of, moments, history, last_low, last_pair, since, clocks, unreset, Period, heard, Playable, written_into, Writable, Undisturbed}
use Rattle.periods.specs.Theorems.{Reached}
use Rattle.dac.proofs.Answers.{may}
use Rattle.periods.proofs.Stream.{waves, unaltered, placed}

pub moments_append : (es fs : List Event) → moments (es ++ fs) ≡ moments es ++ moments fs
unfolding moments
moments_append [] fs = refl
moments_append (e ∷ es) fs = ap (λ (l : List Moment). moments_of e ++ l) (moments_append es fs) ∙ sym (append_assoc (moments_of e) (moments es) (moments fs))

-- the whole of a period whose moments follow on a sequence
follows : (es fs : List Event) (ms : List Moment) → moments fs ≡ ms → moments (es ++ fs) ≡ reverse (history es) ++ ms
follows es fs ms e = moments_append es fs ∙ ap₂ (λ (a b : List Moment). a ++ b) (sym (reverse-reverse (moments es))) e

-- an accepted play
played : (c room : ℕ) → c ≤ period → c ≤ room → moments_of (play c room) ≡ replicate c clock
unfolding moments_of
played c room most fits = rw (may c room most fits)

first_clock : (n : ℕ) → 0 < n → replicate n clock ≡ clock ∷ replicate (n - 1) clock
first_clock zero some = absurd (omega arith)
first_clock (suc n) some = let e : suc n - 1 ≡ n = omega arith in rw e

one_more : (ms : List Moment) → clocks (clock ∷ ms) ≡ suc (clocks ms)
unfolding clocks
one_more ms = refl

-- n clocks, and then other moments
module _ (ms : List Moment) where
  clocks_then : (n : ℕ) → clocks (replicate n clock ++ ms) ≡ n + clocks ms
  unfolding clocks
  clocks_then zero = sym (zero-add (clocks ms))
  clocks_then (suc n) = omega (arith, clocks_then n)

  unreset_then : (n : ℕ) → unreset (replicate n clock ++ ms) ≡ unreset ms
  unfolding unreset
  unreset_then zero = refl
  unreset_then (suc n) = unreset_then n

-- and nothing else
clocks_only : (n : ℕ) → clocks (replicate n clock) ≡ n
unfolding clocks
clocks_only n = ap clocks (sym (append-nil (replicate n clock))) ∙ clocks_then [] n ∙ add-zero n

unreset_only : (n : ℕ) → unreset (replicate n clock) ≡ true
unfolding unreset
unreset_only n = ap unreset (sym (append-nil (replicate n clock))) ∙ unreset_then [] n

whole_play : (room : ℕ) → period ≤ room → moments (play period room ∷ []) ≡ clock ∷ (replicate (period - 1) clock ++ [])
unfolding moments
whole_play room fits = ap (λ (l : List Moment). l ++ []) (played period room (omega arith) fits)

pub playable : Playable
playable es room fits s = record {
  whole = follows es (play period room ∷ []) _ (whole_play room fits);
  starts = s;
  unbroken = unreset_only (period - 1);
  ended = one_more (replicate (period - 1) clock) ∙ ap suc (clocks_only (period - 1));
}

pub reached : Reached
reached es room fits e = playable es room fits (sym (placed es) ∙ e)

-- a history with n clocks more
more : ℕ → List Moment → List Moment
more zero h = h
more (suc n) h = more n (clock ∷ h)

since_more : (n : ℕ) (h : List Moment) → since (more n h) ≡ n + since h
unfolding more since
since_more zero h = sym (zero-add (since h))
since_more (suc n) h = omega (arith, since_more n (clock ∷ h))

pair_more : (n : ℕ) (h : List Moment) → last_pair (more n h) ≡ last_pair h
unfolding more last_pair
pair_more zero h = refl
pair_more (suc n) h = pair_more n (clock ∷ h)

back_append : (ms ns h : List Moment) → reverse_aux (ms ++ ns) h ≡ reverse_aux ns (reverse_aux ms h)
back_append [] ns h = refl
back_append (m ∷ ms) ns h = back_append ms ns (m ∷ h)

back_clocks : (n : ℕ) (h : List Moment) → reverse_aux (replicate n clock) h ≡ more n h
unfolding more
back_clocks zero h = refl
back_clocks (suc n) h = back_clocks n (clock ∷ h)

-- a period in two plays with a pair written between them
module _ (a room x y b room' : ℕ) (some : 0 < a) (all : a + b ≡ period) (fits : a ≤ room) (fits' : b ≤ room') where
  events : List Event
  events = written_into a room x y b room'

  later : List Moment
  later = wrote_low x ∷ wrote_high y ∷ replicate b clock

  their_moments : moments events ≡ replicate a clock ++ later
  unfolding events later moments moments_of
  their_moments = rw (may a room (omega arith) fits, may b room' (omega arith) fits', append-nil (replicate b clock))

  from_first : moments events ≡ clock ∷ ((replicate (a - 1) clock ++ later) ++ [])
  from_first =
      their_moments ∙ ap (λ (l : List Moment). l ++ later) (first_clock a some) ∙ ap (λ (l : List Moment). clock ∷ l) (sym (append-nil (replicate (a - 1) clock ++ later)))

  later_clocks : clocks later ≡ b
  unfolding later clocks
  later_clocks = clocks_only b

  later_unreset : unreset later ≡ true
  unfolding later unreset
  later_unreset = unreset_only b

  module _ (es : List Event) (s : since (history es) % period ≡ 0) where
    as_period : Period (es ++ events) (history es) (replicate (a - 1) clock ++ later) []
    as_period = record {
      whole = follows es events _ from_first;
      starts = s;
      unbroken = unreset_then later (a - 1) ∙ later_unreset;
      ended = omega (arith, one_more (replicate (a - 1) clock ++ later), clocks_then later (a - 1), later_clocks);
    }

    -- the history when it is over
    over : history (es ++ events) ≡ more b (wrote_high y ∷ wrote_low x ∷ more a (history es))
    unfolding later
    over =
        ap (λ (ms : List Moment). reverse ms) (moments_append es events ∙ ap (λ (ms : List Moment). moments es ++ ms) their_moments)
        ∙ back_append (moments es) (replicate a clock ++ later) []
        ∙ back_append (replicate a clock) later (history es)
        ∙ ap (λ (h : List Moment). reverse_aux later h) (back_clocks a (history es))
        ∙ back_clocks b (wrote_high y ∷ wrote_low x ∷ more a (history es))

    next_starts : since (history (es ++ events)) % period ≡ 0
    unfolding since
    next_starts =
        let e : since (history (es ++ events)) ≡ b + (a + since (history es)) =
        ap since over ∙ since_more b (wrote_high y ∷ wrote_low x ∷ more a (history es)) ∙ ap (λ (n : ℕ). b + n) (since_more a (history es)) in
        omega arith

    next_pair : last_pair (history (es ++ events)) ≡ pair (kept_half y) (kept_half x)
    unfolding last_pair last_low
    next_pair = ap last_pair over ∙ pair_more b (wrote_high y ∷ wrote_low x ∷ more a (history es))

    next_heard : (whole : ℕ) → period ≤ whole → heard ((es ++ events) ++ (play period whole ∷ [])) (history (es ++ events)) ≡ wave (pair (kept_half y) (kept_half x)) 0 period
    next_heard whole fits_whole = waves _ _ _ _ (playable (es ++ events) whole fits_whole next_starts) ∙ ap (λ (q : Pair). wave q 0 period) next_pair

pub writable : Writable
unfolding events later
writable es a room x y b room' some then_some all fits fits' s = as_period a room x y b room' some all fits fits' es s

pub undisturbed : Undisturbed
unfolding events
undisturbed es a room x y b room' whole some then_some all fits fits' fits_whole s = (
  unaltered _ _ _ _ (writable es a room x y b room' some then_some all fits fits' s) _ _ _ _ (playable es whole fits_whole s) refl,
  next_starts a room x y b room' some all fits fits' es s,
  next_pair a room x y b room' some all fits fits' es s,
  next_heard a room x y b room' some all fits fits' es s whole fits_whole,
)
