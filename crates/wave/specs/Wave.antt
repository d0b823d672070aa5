-- What a pair of halves asks for, and the level that it gives at each position of a period: document 01, 'Pulses', second paragraph.
-- A period is 16,384 positions, 128 sub-periods of 128 clocks each. A sub-period starts high for as many clocks as the coarse half says,
-- or for one more if the fine half adds one to it, and is low from there on.
-- Assumes nothing.
use Rattle.std.specs.Prelude.{ℕ, zero, suc, ◌+◌, ◌-◌, ◌/◌, ◌%◌, ◌^◌, min, List, [], ◌∷◌, ◌++◌, ltb, eqb, length, drop}
use Rattle.std.specs.Int.Count.{count_trailing_zeros}
use Rattle.laws.specs.Pick.{pick}
use Rattle.wave.specs.declared.Pair.{Pair}

-- in clocks
abbrev pub period : ℕ
period = 16384

abbrev pub sub_period : ℕ
sub_period = 128

-- how many of them a period has
abbrev pub sub_periods : ℕ
sub_periods = 128

abbrev pub pair : ℕ → ℕ → Pair
pair c f = record { coarse = c; fine = f }

-- bit b of the number x
abbrev pub bit : ℕ → ℕ → ℕ
bit x b = x / 2 ^ b % 2

-- The clocks, one or none, that a fine half adds to sub-period n. A sub-period's number has 7 bits. One that ends in exactly z zero
-- bits is served by fine bit 6 - z; sub-period 0 is served by none.
unfoldable pub added : ℕ → ℕ → ℕ
added fine n = pick (eqb n 0) 0 (bit fine (6 - count_trailing_zeros 7 n))

-- The level at a position, 1 for high: position p is clock p % 128 of sub-period p / 128.
unfoldable pub level : Pair → ℕ → ℕ
level q p = pick (ltb (p % sub_period) (q.coarse + added q.fine (p / sub_period))) 1 0

-- The n levels from position a on, while the pair q is in force. It is `tabulate` of those levels (`wave_is` of proofs/Within), written so that a
-- whole period computes quickly.
unfoldable pub wave : Pair → ℕ → ℕ → List ℕ
wave q a zero = []
wave q a (suc n) = level q a ∷ wave q (suc a) n

-- Levels stand in the first bytes lent; later bytes stay.
abbrev pub over : List ℕ → List ℕ → List ℕ
over levels lent = levels ++ drop (length levels) lent

-- The levels from position a on that so many bytes take: one each, and none past the period's end.
abbrev pub wave_in : Pair → ℕ → ℕ → List ℕ
wave_in q a room = wave q a (min room (period - a))

-- those levels, laid over bytes lent
unfoldable pub laid : Pair → ℕ → List ℕ → List ℕ
laid q a lent = over (wave_in q a (length lent)) lent
