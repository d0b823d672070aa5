-- The eight small outputs: document 01, 'Pulses', first paragraph, and number 15 of its table.
-- A channel keeps so many bits of the byte written to it; the number kept is how many clocks, from the start of the channel's
-- period, its output is high. A clock is named by its place t in the period.
-- Assumes nothing.
use Rattle.std.specs.Prelude.{ℕ, ◌%◌, ◌^◌, Bool, leb, ltb, Result}
use Rattle.laws.specs.Pick.{pick}
use Rattle.laws.specs.Said.{Said, accepted, refused}
use Rattle.answer.specs.Told.{said_of}
use Rattle.pulse.specs.declared.Level.{Level}
use Rattle.pulse.specs.declared.Level.TheVariants.{Low, High}
use Rattle.pulse.specs.declared.NoSuchClock.{NoSuchClock}

-- There are channels 0 to 7, of which 0 to 3 are the wider ones.
abbrev pub last_channel : ℕ
last_channel = 7

abbrev pub is_wider : ℕ → Bool
is_wider channel = leb channel 3

-- how many bits a channel keeps
abbrev pub bits_of : ℕ → ℕ
bits_of channel = pick (is_wider channel) 7 6

-- its period in clocks
unfoldable pub period_of : ℕ → ℕ
period_of channel = pick (is_wider channel) 128 64

-- the number that a channel keeps of a byte
unfoldable pub kept_of : ℕ → ℕ → ℕ
kept_of channel byte = byte % 2 ^ bits_of channel

-- the level at clock t of the period: high is 1
abbrev pub level_of : ℕ → ℕ → ℕ → ℕ
level_of channel byte t = pick (ltb t (kept_of channel byte)) 1 0

-- what the call answers: number 15 for a channel above 7 and for a clock outside the channel's period, else the level
unfoldable pub answer_of : ℕ → ℕ → ℕ → Said
answer_of channel byte t =
    pick (ltb last_channel channel) (refused 15 0) (pick (leb (period_of channel) t) (refused 15 0) (accepted (level_of channel byte t)))

-- document 01's number, place and level for each case
abbrev pub value_of : Level → ℕ
value_of = elim [ Low ↦ 0 | High ↦ 1 ]

abbrev pub number_of : NoSuchClock → ℕ
number_of _ = 15

abbrev pub place_of : NoSuchClock → ℕ
place_of _ = 0

abbrev pub said : Result Level NoSuchClock → Said
said = said_of value_of number_of place_of
