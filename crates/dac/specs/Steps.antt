-- Not part of the account: what `play` has made sure of before it plays so many clocks into so many bytes.
-- Assumes nothing.
use Rattle.std.specs.Prelude.{ℕ, ◌≤◌}
use Rattle.wave.specs.Wave.{period}

pub record Fits (count room : ℕ) : Type 0 where
  pub in_period : count ≤ period
  pub in_room : count ≤ room
