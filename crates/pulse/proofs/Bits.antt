-- The number that a channel keeps of a byte is the byte modulo its period.
-- Assumes nothing.
use Rattle.std.proofs.Common.{◌≡◌, ℕ, ◌%◌, ◌^◌, Bool, true, false, refl}
use Rattle.laws.specs.Pick.{pick}
use Rattle.pulse.specs.Pulse.{is_wider, period_of, kept_of}

pub kept_by_period : (channel byte : ℕ) → kept_of channel byte ≡ byte % period_of channel
unfolding kept_of period_of
kept_by_period channel byte = by_bits (is_wider channel)
  where
    by_bits : (wider : Bool) → byte % 2 ^ pick wider 7 6 ≡ byte % pick wider 128 64
    by_bits true = refl
    by_bits false = refl
