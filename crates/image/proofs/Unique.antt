-- No second answer meets the promise: the numbers said of two answers agree, each case has numbers of its own, and what is left in the
-- room is stated outright.
-- Assumes nothing.
use mathlib.Core.Path.{◌≡◌, refl, sym, ◌∙◌, ap}
use lib.Dec.{eqb}
use Rattle.laws.specs.Pick.{pick}
use Rattle.laws.specs.Said.{Said}
use Rattle.laws.proofs.Determined.{Determines, both_say, told_apart}
use Rattle.std.specs.Prelude.{Result, Ok, Err}
use Rattle.image.specs.Image.{said}
use Rattle.image.specs.declared.NotAFont.{NotAFont}
use Rattle.image.specs.contracts.image_to_font as image_to_font

-- the outcome of which this is said
abbrev meant : Said → Result (Unit {0}) NotAFont
meant s = pick (eqb s.number 0) (Ok tt) (Err (record { 0 = s.place }))

meant_said : (x : Result (Unit {0}) NotAFont) → meant (said x) ≡ x
meant_said (Ok turned) = refl
meant_said (Err refusal) = refl

pub image_to_font_unique : Determines image_to_font.ended (λ w. image_to_font.clauses w.𝓛 w.𝓜.mem w.𝓡.run)
image_to_font_unique w κs a g g' r r' ws ws' =
    both_say w (λ p q. (told_apart said meant meant_said r r' (p.0 ∙ sym q.0), ap (λ l. (tt, (l, tt))) (p.1 ∙ sym q.1)))
