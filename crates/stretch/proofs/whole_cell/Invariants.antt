-- `stretch::whole_cell`: the first j columns are painted.
-- Assumes nothing.
use Rattle.std.proofs.Common.{◌≡◌, ◌*◌}
use Rattle.laws.specs.Lines.{overlay}
use Rattle.stretch.specs.Stretch.{stretched}
use Rattle.stretch.proofs.whole_cell.Given as goal

abbrev pub invariant-loop-j : goal.invariant-loop-j
invariant-loop-j g l = l.out ≡ overlay (stretched l.from (l.j * g.row.SIZE) g.row.SIZE l.fn.row l.fn.ink) l.initial.out
