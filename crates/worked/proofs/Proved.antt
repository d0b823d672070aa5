-- The table of worked examples holds: both sides compute to the same lists.
-- Assumes nothing.
use mathlib.Core.Path.{refl}
use Rattle.worked.specs.Examples.{Examples, answer}

pub examples : Examples
unfolding answer
examples = refl
