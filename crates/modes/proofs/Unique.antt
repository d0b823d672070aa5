-- No second answer meets a promise of this crate.
-- Assumes nothing.
use Rattle.std.proofs.Common.{refl, sym, ◌∙◌}
use Rattle.laws.proofs.Determined.{Determines, both_say}
use Rattle.modes.specs.contracts.ground as ground
use Rattle.modes.specs.contracts.lit as lit

pub ground_unique : Determines ground.ended (λ w. ground.clauses w.𝓛 w.𝓜.mem w.𝓡.run)
ground_unique w κs a g g' r r' ws ws' = both_say w (λ p q. (p ∙ sym q, refl))

pub lit_unique : Determines lit.ended (λ w. lit.clauses w.𝓛 w.𝓜.mem w.𝓡.run)
lit_unique w κs a g g' r r' ws ws' = both_say w (λ p q. (p ∙ sym q, refl))
