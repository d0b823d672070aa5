-- `display::end_row`: by whether something is thrown.
-- Assumes nothing.
use mathlib.Core.Path.{◌≡◌, ap, ◌∙◌}
use mathlib.Core.Bool.{true, false}
use Prim.Native.Nat.{ℕ}
use Rattle.laws.specs.Lines.{overlay}
use Rattle.laws.specs.Placing.{patched}
use Rattle.laws.proofs.Overlay.{overlay_leaves, overlay_same}
use Rattle.display.specs.Steps.{end_of}
use Rattle.display.proofs.end_row.Goals as goal

pub returns-then-thrown : goal.returns-then-thrown
unfolding patched
returns-then-thrown c =
    let a = c.args in
    let thrown : a.thrown ≡ true = search in
    let byte = c.ground.ensures in
    let laid = c.strip.ensures in
    laid
    ∙ ap (λ (n : ℕ). overlay (patched a.x.0 a.size (λ d. n)) a.out.now) byte
    ∙ overlay_same (patched a.x.0 a.size (λ d. 8)) (end_of a.x a.size a.thrown) a.out.now (λ k old. simp thrown)

pub returns-else-thrown : goal.returns-else-thrown
returns-else-thrown c =
    let a = c.args in
    let none : a.thrown ≡ false = search in
    overlay_leaves (end_of a.x a.size a.thrown) a.out.now (λ k old lt. simp none)
