-- `display::Pen::place`: the pen's place and size, and the kind that its word is.
-- Assumes nothing.
use mathlib.Core.Path.{ap}
use Rattle.display.specs.declared.Kind.{Kind}
use Rattle.display.proofs.Sound.{sound}
use Rattle.display.proofs.Pen.place.Goals as goal

pub returns : goal.returns
returns c =
    let told = c.decode.ensures in
    let a = c.args in
    (ap (λ (k : Kind). record { x = a.self.x; y = a.self.y; size = a.self.size; kind = k }) told, sound a.word _ told)
