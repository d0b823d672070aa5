-- No second answer meets the promise of `judged`: it is told by the number and the place that `said` gives it.
-- Assumes nothing.
use Rattle.std.proofs.Common.{◌≡◌, eqb, Result, Ok, Err, refl, sym, ◌∙◌}
use Rattle.laws.specs.Pick.{pick}
use Rattle.laws.specs.Said.{Said}
use Rattle.laws.proofs.Determined.{Determines, both_say, told_apart}
use Rattle.font.specs.declared.FontError.TheVariants.{Length, Row}
use Rattle.judging.specs.declared.PaintError.{PaintError}
use Rattle.judging.specs.declared.PaintError.TheVariants.{Setting, ReservedRatio, Words, Font, OffScreen, NoRoom}
use Rattle.judging.specs.Judging.{said}
use Rattle.judging.specs.contracts.PaintErrorFromFontError.from as from_law
use Rattle.judging.specs.contracts.judged as judged

-- the refusal of which this is said
abbrev meant : Said → PaintError
meant s =
    pick (eqb s.number 1) Setting
    (pick (eqb s.number 2) ReservedRatio
    (pick (eqb s.number 3) Words
    (pick (eqb s.number 4) (Font Length) (pick (eqb s.number 18) (Font (Row s.place)) (pick (eqb s.number 5) OffScreen NoRoom)))))

abbrev outcome : Said → Result (Unit {0}) PaintError
outcome s = pick (eqb s.number 0) (Ok tt) (Err (meant s))

outcome_said : (r : Result (Unit {0}) PaintError) → outcome (said r) ≡ r
outcome_said (Ok tt) = refl
outcome_said (Err Setting) = refl
outcome_said (Err ReservedRatio) = refl
outcome_said (Err Words) = refl
outcome_said (Err (Font Length)) = refl
outcome_said (Err (Font (Row row))) = refl
outcome_said (Err OffScreen) = refl
outcome_said (Err NoRoom) = refl

pub said_one : (r r' : Result (Unit {0}) PaintError) → said r ≡ said r' → r ≡ r'
said_one = told_apart said outcome outcome_said

pub judged_unique : Determines judged.ended (λ w. judged.clauses w.𝓛 w.𝓜.mem w.𝓡.run)
judged_unique w κs a g g' r r' ws ws' = both_say w (λ p q. (said_one r r' (p ∙ sym q), refl))

pub from_unique : Determines from_law.ended (λ w. from_law.clauses w.𝓛 w.𝓜.mem w.𝓡.run)
from_unique w κs a g g' r r' ws ws' = both_say w (λ p q. (p ∙ sym q, refl))
