-- Demand 3 over every sequence of events. A sequence is its moments, and a play of c clocks is c of them. After a history the record holds what
-- the history says; so at a period's first clock the last completed pair comes into force, and with no reset it stays to the period's end,
-- whatever is written. The period's levels are then the wave of that pair, which has the shares asked for.
-- Assumes nothing.
use Prim.Native.Nat.{ℕ, zero, suc, ◌+◌, ◌%◌, ◌<◌, ◌≤◌}
use mathlib.Core.Path.{◌≡◌, refl, subst, sym, ap, ap₂, ◌∙◌}
use mathlib.Core.Bool.{Bool, true, false, false≢true}
use mathlib.Core.List.{List, [], ◌∷◌, ◌++◌, reverse, reverse_aux, reverse-reverse}
use native.Mathlib.Nat.{add-zero}
use native.Mathlib.Omega.{arith}
use lib.ListN.{length, take, drop, replicate}
use lib.Seq.{drop_at}
use Rattle.laws.specs.Pick.{pick}
use Rattle.wave.specs.declared.Pair.{Pair}
use Rattle.dac.specs.declared.Dac.{Dac}
use Rattle.wave.specs.Wave.{period, pair, level, wave}
use Rattle.dac.specs.Running.{halves, kept_half, kept_pair, kept, after_reset, low_written, high_written, playing, next_level, clocked, after_clocks, levels_of}
use Rattle.dac.specs.Play.{too_many_levels, after_play, levels_played}
use Rattle.periods.specs.Demand.{Event, low, high, play, reset, step, puts, run, output, Moment, wrote_low, wrote_high, clock, cleared, moments_of, moments, last_low, last_pair, since, clocks, unreset, Period, heard, high_clocks, Shares, Demand3, Unaltered, history}
use Rattle.periods.specs.Theorems.{Waves, Placed}
use Rattle.dac.proofs.Clocks.{pair_kept, first_plays, later_plays}
use Rattle.periods.proofs.Count.{shares}

-- what one moment makes of the record, and what a stretch of them does and puts out
unfoldable pub act : Moment → Dac → Dac
act (wrote_low byte) d = low_written d byte
act (wrote_high byte) d = high_written d byte
act clock d = clocked (kept d)
act cleared d = after_reset

unfoldable pub through : List Moment → Dac → Dac
unfolding act
through [] d = d
through (m ∷ ms) d = through ms (act m d)

unfoldable pub sound : List Moment → Dac → List ℕ
sound [] d = []
sound (wrote_low byte ∷ ms) d = sound ms (low_written d byte)
sound (wrote_high byte ∷ ms) d = sound ms (high_written d byte)
sound (clock ∷ ms) d = next_level (kept d) ∷ sound ms (clocked (kept d))
sound (cleared ∷ ms) d = sound ms after_reset

pub sound_append : (ms ns : List Moment) (d : Dac) → sound (ms ++ ns) d ≡ sound ms d ++ sound ns (through ms d)
unfolding sound through act
sound_append [] ns d = refl
sound_append (wrote_low byte ∷ ms) ns d = sound_append ms ns (low_written d byte)
sound_append (wrote_high byte ∷ ms) ns d = sound_append ms ns (high_written d byte)
sound_append (clock ∷ ms) ns d = ap (λ (l : List ℕ). next_level (kept d) ∷ l) (sound_append ms ns (clocked (kept d)))
sound_append (cleared ∷ ms) ns d = sound_append ms ns after_reset

-- a play of c clocks is c clocks
sound_clocks : (c : ℕ) (d : Dac) → levels_of c d ≡ sound (replicate c clock) d
unfolding sound levels_of
sound_clocks zero d = refl
sound_clocks (suc c) d = ap (λ (l : List ℕ). next_level (kept d) ∷ l) (sound_clocks c (clocked (kept d)))

through_clocks : (c : ℕ) (d : Dac) → after_clocks c d ≡ through (replicate c clock) d
unfolding through act after_clocks
through_clocks zero d = refl
through_clocks (suc c) d = through_clocks c (clocked (kept d))

puts_sound : (e : Event) (d : Dac) → puts e d ≡ sound (moments_of e) d
unfolding puts levels_played sound moments_of
puts_sound (low byte) d = refl
puts_sound (high byte) d = refl
puts_sound (play c room) d = go (too_many_levels c room)
  where
    go : (b : Bool) → pick b [] (levels_of c d) ≡ sound (pick b [] (replicate c clock)) d
    go true = refl
    go false = sound_clocks c d
puts_sound reset d = refl

step_through : (e : Event) (d : Dac) → step e d ≡ through (moments_of e) d
unfolding step after_play through act moments_of
step_through (low byte) d = refl
step_through (high byte) d = refl
step_through (play c room) d = go (too_many_levels c room)
  where
    go : (b : Bool) → pick b d (after_clocks c d) ≡ through (pick b [] (replicate c clock)) d
    go true = refl
    go false = through_clocks c d
step_through reset d = refl

pub output_sound : (es : List Event) (d : Dac) → output es d ≡ sound (moments es) d
unfolding output sound moments
output_sound [] d = refl
output_sound (e ∷ es) d =
    ap₂ (λ (a b : List ℕ). a ++ b) (puts_sound e d) (output_sound es (step e d) ∙ ap (λ (x : Dac). sound (moments es) x) (step_through e d))
    ∙ sym (sound_append (moments_of e) (moments es) d)

through_append : (ms ns : List Moment) (d : Dac) → through (ms ++ ns) d ≡ through ns (through ms d)
unfolding through
through_append [] ns d = refl
through_append (m ∷ ms) ns d = through_append ms ns (act m d)

pub run_through : (es : List Event) (d : Dac) → run es d ≡ through (moments es) d
unfolding run through moments
run_through [] d = refl
run_through (e ∷ es) d = run_through es (step e d) ∙ ap (λ (x : Dac). through (moments es) x) (step_through e d) ∙ sym (through_append (moments_of e) (moments es) d)

-- the record after a history, whose latest moment comes first
unfoldable pub past : List Moment → Dac
unfolding act
past [] = after_reset
past (m ∷ h) = act m (past h)

through_past : (h ms : List Moment) → through (reverse_aux h ms) after_reset ≡ through ms (past h)
unfolding through past
through_past [] ms = refl
through_past (m ∷ h) ms = through_past h (m ∷ ms)

pub through_history : (h : List Moment) → through (reverse h) after_reset ≡ past h
unfolding through
through_history h = through_past h []

clocks_past : (h ms : List Moment) → clocks (reverse_aux h ms) ≡ clocks h + clocks ms
unfolding clocks
clocks_past [] ms = omega arith
clocks_past (wrote_low byte ∷ h) ms = clocks_past h (wrote_low byte ∷ ms)
clocks_past (wrote_high byte ∷ h) ms = clocks_past h (wrote_high byte ∷ ms)
clocks_past (clock ∷ h) ms = omega (arith, clocks_past h (clock ∷ ms))
clocks_past (cleared ∷ h) ms = clocks_past h (cleared ∷ ms)

pub clocks_history : (h : List Moment) → clocks (reverse h) ≡ clocks h
unfolding clocks
clocks_history h = clocks_past h [] ∙ add-zero (clocks h)

pub length_sound : (ms : List Moment) (d : Dac) → length (sound ms d) ≡ clocks ms
unfolding sound clocks
length_sound [] d = refl
length_sound (wrote_low byte ∷ ms) d = length_sound ms (low_written d byte)
length_sound (wrote_high byte ∷ ms) d = length_sound ms (high_written d byte)
length_sound (clock ∷ ms) d = ap suc (length_sound ms (clocked (kept d)))
length_sound (cleared ∷ ms) d = length_sound ms after_reset

-- halves of a history are kept ones
low_small : (h : List Moment) → last_low h < halves
unfolding last_low
low_small [] = omega arith
low_small (wrote_low byte ∷ h) = omega arith
low_small (wrote_high byte ∷ h) = low_small h
low_small (clock ∷ h) = low_small h
low_small (cleared ∷ h) = omega arith

pub pair_small : (h : List Moment) → ((last_pair h).coarse < halves) × ((last_pair h).fine < halves)
unfolding last_pair
pair_small [] = (omega arith, omega arith)
pair_small (wrote_low byte ∷ h) = (omega (arith, (pair_small h).0), omega (arith, (pair_small h).1))
pair_small (wrote_high byte ∷ h) = (omega arith, low_small h)
pair_small (clock ∷ h) = pair_small h
pair_small (cleared ∷ h) = (omega arith, omega arith)

last_kept : (h : List Moment) → kept_pair (last_pair h) ≡ last_pair h
last_kept h = pair_kept (last_pair h) (pair_small h).0 (pair_small h).1

-- what the record holds after a history
pub record Known (h : List Moment) (d : Dac) : Type 0 where
  pub place : (kept d).position ≡ since h % period
  held : kept_half d.held.fine ≡ last_low h
  coarse : kept_half d.completed.coarse ≡ (last_pair h).coarse
  fine : kept_half d.completed.fine ≡ (last_pair h).fine

-- one moment more
known_wrote_low : (h : List Moment) (d : Dac) (byte : ℕ) → Known h d → Known (wrote_low byte ∷ h) (low_written d byte)
unfolding since last_low last_pair
known_wrote_low h d byte k = record { place = omega (arith, k.place); held = omega arith; coarse = omega (arith, k.coarse); fine = omega (arith, k.fine) }

known_wrote_high : (h : List Moment) (d : Dac) (byte : ℕ) → Known h d → Known (wrote_high byte ∷ h) (high_written d byte)
unfolding since last_low last_pair
known_wrote_high h d byte k = record { place = omega (arith, k.place); held = omega (arith, k.held); coarse = omega arith; fine = omega (arith, k.held) }

known_clock : (h : List Moment) (d : Dac) → Known h d → Known (clock ∷ h) (clocked (kept d))
unfolding since last_low last_pair clocked
known_clock h d k = record { place = omega (arith, k.place); held = omega (arith, k.held); coarse = omega (arith, k.coarse); fine = omega (arith, k.fine) }

pub known : (h : List Moment) → Known h (past h)
unfolding past act since last_low last_pair
known [] = record { place = refl; held = refl; coarse = refl; fine = refl }
known (wrote_low byte ∷ h) = known_wrote_low h (past h) byte (known h)
known (wrote_high byte ∷ h) = known_wrote_high h (past h) byte (known h)
known (clock ∷ h) = known_clock h (past h) (known h)
known (cleared ∷ h) = record { place = refl; held = refl; coarse = refl; fine = refl }

-- a clock at position a with the pair q in force
level_by : (k : Dac) (q : Pair) (a : ℕ) → playing k ≡ q → k.position ≡ a → next_level k ≡ level q a
unfolding next_level
level_by k q a e p = ap₂ level e p

clocked_force : (k : Dac) → (clocked k).in_force ≡ playing k
unfolding clocked
clocked_force k = refl

clocked_position : (k : Dac) (a : ℕ) → k.position ≡ a % period → (clocked k).position ≡ suc a % period
unfolding clocked
clocked_position k a p = omega arith

-- After its first clock a period goes on with the pair in force, whatever is written.
goes_on : (p rest : List Moment) (d : Dac) (q : Pair) (a : ℕ) → kept_pair q ≡ q → unreset p ≡ true → d.in_force ≡ q → d.position ≡ a % period → 0 < a → a + clocks p ≤ period
    → take (clocks p) (sound (p ++ rest) d) ≡ wave q a (clocks p)
unfolding sound clocks unreset wave
goes_on [] rest d q a s n e w z l = refl
goes_on (wrote_low byte ∷ p) rest d q a s n e w z l = goes_on p rest (low_written d byte) q a s n (ap kept_pair e ∙ s) (omega arith) z l
goes_on (wrote_high byte ∷ p) rest d q a s n e w z l = goes_on p rest (high_written d byte) q a s n (ap kept_pair e ∙ s) (omega arith) z l
goes_on (clock ∷ p) rest d q a s n e w z l =
    let f : playing (kept d) ≡ q = later_plays (kept d) (omega arith) ∙ ap kept_pair e ∙ s in
    ap₂ (λ (x : ℕ) (y : List ℕ). x ∷ y) (level_by (kept d) q a f (omega arith))
    (goes_on p rest (clocked (kept d)) q (suc a) s n (clocked_force (kept d) ∙ f) (clocked_position (kept d) a (omega arith)) (omega arith) (omega arith))
goes_on (cleared ∷ p) rest d q a s n e w z l = absurd (false≢true n)

-- A period's levels are the wave of the last pair completed before it.
module _ (es : List Event) (h p rest : List Moment) (P : Period es h p rest) where
  tail : List Moment
  tail = clock ∷ (p ++ rest)

  split : moments es ≡ reverse h ++ tail
  unfolding tail
  split = P.whole

  at_start : (kept (past h)).position ≡ 0
  at_start = omega (arith, (known h).place, P.starts)

  comes_in : playing (kept (past h)) ≡ last_pair h
  comes_in = first_plays (kept (past h)) at_start ∙ ap₂ pair (known h).coarse (known h).fine

  from_first : take (clocks (clock ∷ p)) (sound tail (past h)) ≡ wave (last_pair h) 0 (clocks (clock ∷ p))
  unfolding tail sound clocks wave
  from_first =
      ap₂ (λ (x : ℕ) (y : List ℕ). x ∷ y) (level_by (kept (past h)) (last_pair h) 0 comes_in at_start)
      (goes_on p rest (clocked (kept (past h))) (last_pair h) 1 (last_kept h) P.unbroken (clocked_force (kept (past h)) ∙ comes_in) (clocked_position (kept (past h)) 0 at_start) (omega arith) (omega (arith, P.ended)))

  is_wave : heard es h ≡ wave (last_pair h) 0 period
  is_wave =
      ap (λ (l : List ℕ). take period (drop (clocks h) l)) (output_sound es after_reset ∙ ap (λ (ms : List Moment). sound ms after_reset) split ∙ sound_append (reverse h) tail after_reset)
      ∙ ap (λ (l : List ℕ). take period l) (drop_at (sound (reverse h) after_reset) (sound tail (through (reverse h) after_reset)) (clocks h) (length_sound (reverse h) after_reset ∙ clocks_history h))
      ∙ ap (λ (d : Dac). take period (sound tail d)) (through_history h)
      ∙ subst (λ (n : ℕ). take n (sound tail (past h)) ≡ wave (last_pair h) 0 n) P.ended from_first

pub waves : Waves
waves = is_wave

pub demand3 : Demand3
demand3 es h p rest P =
    subst (λ (w : List ℕ). Shares (high_clocks (last_pair h)) w) (sym (waves es h p rest P)) (shares (last_pair h) (pair_small h).0 (pair_small h).1)

pub unaltered : Unaltered
unaltered es h p rest P es' h' p' rest' P' e = waves es h p rest P ∙ ap (λ (q : Pair). wave q 0 period) e ∙ sym (waves es' h' p' rest' P')

-- where a sequence from reset ends
pub run_past : (es : List Event) → run es after_reset ≡ past (history es)
run_past es = run_through es after_reset ∙ ap (λ (ms : List Moment). through ms after_reset) (sym (reverse-reverse (moments es))) ∙ through_history (history es)

past_place : (h : List Moment) → (past h).position ≡ since h % period
unfolding past act since clocked
past_place [] = refl
past_place (wrote_low byte ∷ h) = omega (arith, past_place h)
past_place (wrote_high byte ∷ h) = omega (arith, past_place h)
past_place (clock ∷ h) = omega (arith, past_place h)
past_place (cleared ∷ h) = refl

pub placed : Placed
placed es = ap (λ (d : Dac). d.position) (run_past es) ∙ past_place (history es)
