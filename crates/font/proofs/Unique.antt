-- No second answer meets a promise of this crate.
-- Assumes nothing.
use Rattle.std.proofs.Common.{◌≡◌, eqb, Ok, Err, refl, sym, ◌∙◌}
use Rattle.laws.specs.Pick.{pick}
use Rattle.laws.specs.Said.{Said}
use Rattle.laws.proofs.Determined.{Determines, both_say, told_apart}
use Rattle.std.proofs.Common.{Result}
use Rattle.font.specs.declared.FontError.{FontError}
use Rattle.font.specs.declared.FontError.TheVariants.{Length, Row}
use Rattle.font.specs.Whole.{said}
use Rattle.font.specs.contracts.whole as whole
use Rattle.font.specs.contracts.all_within as all_within
use Rattle.font.specs.contracts.first_above as first_above

-- the outcome of which this is said
abbrev meant : Said → Result (Unit {0}) FontError
meant s = pick (eqb s.number 0) (Ok tt) (Err (pick (eqb s.number 4) Length (Row s.place)))

meant_said : (r : Result (Unit {0}) FontError) → meant (said r) ≡ r
meant_said (Ok tt) = refl
meant_said (Err Length) = refl
meant_said (Err (Row row)) = refl

pub whole_unique : Determines whole.ended (λ w. whole.clauses w.𝓛 w.𝓜.mem w.𝓡.run)
whole_unique w κs a g g' r r' ws ws' = both_say w (λ p q. (told_apart said meant meant_said r r' (p ∙ sym q), refl))

pub all_within_unique : Determines all_within.ended (λ w. all_within.clauses w.𝓛 w.𝓜.mem w.𝓡.run)
all_within_unique w κs a g g' r r' ws ws' = both_say w (λ p q. (p ∙ sym q, refl))

pub first_above_unique : Determines first_above.ended (λ w. first_above.clauses w.𝓛 w.𝓜.mem w.𝓡.run)
first_above_unique w κs a g g' r r' ws ws' = both_say w (λ p q. (p ∙ sym q, refl))
