-- The table of worked texts holds: both sides compute to the same list.
-- Assumes nothing.
use mathlib.Core.Path.{refl}
use Rattle.laws.specs.Lists.{tabulate, first_of}
use Rattle.laws.specs.Sums.{sum_all}
use Rattle.ihex.specs.Digits.{digit}
use Rattle.ihex.specs.Lines.{lines, at_end, body_of}
use Rattle.ihex.specs.Records.{belongs, is_shaped, spelled_by, is_end, fault_of}
use Rattle.ihex.specs.Reading.{fault_said, judged, answer_of}
use Rattle.finer.specs.Examples.{Examples}

pub examples : Examples
unfolding tabulate first_of sum_all digit lines at_end body_of belongs is_shaped spelled_by is_end fault_of fault_said judged answer_of
examples = refl
