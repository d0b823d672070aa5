-- The painted lines, computed from the definitions.
-- Assumes nothing.
use mathlib.Core.Path.{refl}
use Rattle.laws.specs.Lines.{first_shown, any_of}
use Rattle.laws.specs.Lists.{tabulate}
use Rattle.laws.specs.Placing.{cell_has}
use Rattle.laws.specs.Within.{within}
use Rattle.display.specs.Words.{kind_of, kinds_of}
use Rattle.judging.specs.Judging.{answer_of}
use Rattle.display.specs.Cells.{kind_cell, after_word, cells_from}
use Rattle.display.specs.Picture.{shadow_of, shown_dot, dot_at}
use Rattle.display.specs.Painting.{dot_of, left_by}
use Rattle.pictures.specs.Example.{Example, ShadowExample, BlinkExample}

pub example : Example
unfolding kind_of kinds_of left_by dot_of dot_at first_shown cell_has cells_from kind_cell after_word shadow_of any_of shown_dot tabulate answer_of within
example = (refl, (refl, (refl, refl)))

pub shadow_example : ShadowExample
unfolding kind_of kinds_of left_by dot_of dot_at first_shown cell_has cells_from kind_cell after_word shadow_of any_of shown_dot tabulate answer_of within
shadow_example = (refl, (refl, (refl, (refl, refl))))

pub blink_example : BlinkExample
unfolding kind_of kinds_of left_by dot_of dot_at first_shown cell_has cells_from kind_cell after_word shadow_of any_of shown_dot tabulate answer_of within
blink_example = (refl, (refl, refl))
