-- `stretch::any_cell`: the first columns are painted.
-- Assumes nothing.
use Rattle.std.proofs.Common.{◌≡◌, ◌*◌}
use Rattle.laws.specs.Lines.{overlay}
use Rattle.stretch.specs.Stretch.{stretched}
use Rattle.stretch.proofs.any_cell.Given as goal

abbrev pub invariant-loop-column : goal.invariant-loop-column
invariant-loop-column l = l.out ≡ overlay (stretched l.from (l.column * l.size) l.size l.row l.ink) l.initial.out
