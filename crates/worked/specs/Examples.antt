-- The eleven examples that document 01 marks with a star, as one table under one statement. What is asked is asked of the definitions
-- that the promises and demand 3 cite; an answer is a list of numbers, so that one equation holds for examples of every kind.
-- Assumes nothing.
use Rattle.std.specs.Prelude.{ℕ, zero, suc, ◌+◌, ◌*◌, ◌≡◌, Bool, List, [], ◌∷◌, map, eqb}
use Rattle.std.specs.Int.Count.{count_trailing_zeros}
use Rattle.laws.specs.Pick.{pick}
use Rattle.wave.specs.Wave.{sub_period, sub_periods, pair, added, level, wave}
use Rattle.periods.specs.Demand.{highs, high_clocks}
use Rattle.display.specs.declared.Kind.{Kind}
use Rattle.display.specs.declared.Kind.TheVariants.{Character, Space, Return, End}
use Rattle.display.specs.Words.{kind_of}
use Rattle.modes.specs.Modes.{lit_in}

pub data Question : Type 0 where
  -- what a word is
  word : ℕ → Question
  -- the sub-periods to which a fine half adds a clock
  adds_to : ℕ → Question
  -- of a pair, coarse then fine: its T, the high clocks of so many sub-periods from one on, and 128 times their share of T
  high_in : ℕ → ℕ → ℕ → ℕ → Question
  -- by ratio and frequency: whether each of these frames is lit
  lit : ℕ → ℕ → List ℕ → Question

abbrev pub number : Bool → ℕ
number b = pick b 1 0

-- a kind as numbers: 0 for a character, with colour, code and blink; 1 for a space, with its background; 2 for a return, with size and
-- spacing; 3 for an end
abbrev pub values : Kind → List ℕ
values (Character colour code blink) = 0 ∷ colour ∷ code ∷ number blink ∷ []
values (Space background) = 1 ∷ background ∷ []
values (Return size spacing) = 2 ∷ size ∷ spacing.0 ∷ []
values End = 3 ∷ []

-- those of n sub-periods from m on to which a fine half adds a clock
unfoldable pub served : ℕ → ℕ → ℕ → List ℕ
unfolding added count_trailing_zeros
served fine m zero = []
served fine m (suc n) = let later = served fine (suc m) n in pick (eqb (added fine m) 1) (m ∷ later) later

unfoldable pub answer : Question → List ℕ
unfolding kind_of served highs wave level added count_trailing_zeros
answer (word w) = values (kind_of w)
answer (adds_to fine) = served fine 0 sub_periods
answer (high_in coarse fine first count) =
    let q = pair coarse fine in
    high_clocks q ∷ highs (wave q (sub_period * first) (sub_period * count)) ∷ count * high_clocks q ∷ []
answer (lit ratio frequency frames) = map (λ (frame : ℕ). number (lit_in ratio frequency frame)) frames

pub record Example : Type 0 where
  pub ask : Question
  pub expect : List ℕ

abbrev pub example : Question → List ℕ → Example
example q a = record { ask = q; expect = a }

-- n numbers from m on, every second one
abbrev pub by_seconds : ℕ → ℕ → List ℕ
by_seconds m zero = []
by_seconds m (suc n) = m ∷ by_seconds (m + 2) n

abbrev pub table : List Example
table =
    example (word 14) (0 ∷ 7 ∷ 0 ∷ 0 ∷ [])
    ∷ example (word 997) (2 ∷ 2 ∷ 4 ∷ [])
    ∷ example (word 1009) (3 ∷ [])
    ∷ example (word 1016) (1 ∷ 4 ∷ [])
    ∷ example (adds_to 1) (64 ∷ [])
    ∷ example (adds_to 3) (32 ∷ 64 ∷ 96 ∷ [])
    ∷ example (adds_to 64) (by_seconds 1 64)
    -- the share is 32.75: 4192 is 128 times that
    ∷ example (high_in 1 3 32 32) (131 ∷ 33 ∷ 4192 ∷ [])
    ∷ example (high_in 127 127 0 128) (16383 ∷ 16383 ∷ 128 * 16383 ∷ [])
    ∷ example (high_in 0 0 0 128) (0 ∷ 0 ∷ 0 ∷ [])
    ∷ example (lit 0 0 (11 ∷ 12 ∷ [])) (1 ∷ 0 ∷ [])
    ∷ []

-- every example of the table has the answer that stands beside it
abbrev pub Examples : Type 0
Examples = map (λ (e : Example). answer e.ask) table ≡ map (λ (e : Example). e.expect) table
