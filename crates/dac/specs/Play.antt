-- A play: the clocks asked for, the bytes lent, number 14 of document 01's table, and the count that M-104 has a play answer.
-- Assumes nothing.
use Rattle.std.specs.Prelude.{ℕ, Bool, ◌||◌, List, [], ltb, length, Result}
use Rattle.laws.specs.Pick.{pick}
use Rattle.laws.specs.Said.{Said, accepted, refused}
use Rattle.answer.specs.Told.{said_of}
use Rattle.dac.specs.declared.Dac.{Dac}
use Rattle.dac.specs.declared.TooManyClocks.{TooManyClocks}
use Rattle.wave.specs.Wave.{period, over}
use Rattle.dac.specs.Running.{kept_count, after_clocks, levels_of}

-- more clocks than a period has, or than bytes are lent
abbrev pub too_many_levels : ℕ → ℕ → Bool
too_many_levels clocks room = ltb period clocks || ltb room clocks

-- What a play answers: the kept form of the count that the record has after it. A play of no clocks leaves any record as it came, and so may leave a
-- count that is not kept; it answers the kept form all the same.
unfoldable pub answer_of : Dac → ℕ → ℕ → Said
answer_of d clocks room = pick (too_many_levels clocks room) (refused 14 0) (accepted (kept_count (after_clocks clocks d).high))

-- the record after a play, and the levels that it puts out: a refused one leaves the record as handed over and puts out none
unfoldable pub after_play : Dac → ℕ → ℕ → Dac
after_play d clocks room = pick (too_many_levels clocks room) d (after_clocks clocks d)

unfoldable pub levels_played : Dac → ℕ → ℕ → List ℕ
levels_played d clocks room = pick (too_many_levels clocks room) [] (levels_of clocks d)

-- what then stands in the bytes lent
unfoldable pub lent_after : Dac → ℕ → List ℕ → List ℕ
lent_after d clocks lent = over (levels_played d clocks (length lent)) lent

-- number, place and value for each answer
abbrev pub number_of : TooManyClocks → ℕ
number_of _ = 14

abbrev pub place_of : TooManyClocks → ℕ
place_of _ = 0

abbrev pub said : Result ℕ TooManyClocks → Said
said = said_of (λ n. n) number_of place_of
