-- No second answer meets a promise of this crate.
-- Assumes nothing.
use Rattle.std.proofs.Common.{refl, sym, ap, ◌∙◌}
use Rattle.laws.proofs.Determined.{Determines, both_say}
use Rattle.port.specs.declared.Port.{Port}
use Rattle.port.specs.contracts.Port.fresh as fresh
use Rattle.port.specs.contracts.Port.write_address as write_address
use Rattle.port.specs.contracts.Port.write_attribute as write_attribute
use Rattle.port.specs.contracts.Port.write_character as write_character

pub fresh_unique : Determines fresh.ended (λ w. fresh.clauses w.𝓛 w.𝓜.mem w.𝓡.run)
fresh_unique w κs a g g' r r' ws ws' = both_say w (λ p q. (p ∙ sym q, refl))

-- the port that the host lent
pub write_address_unique : Determines write_address.ended (λ w. write_address.clauses w.𝓛 w.𝓜.mem w.𝓡.run)
write_address_unique w κs a g g' r r' ws ws' = both_say w (λ p q. (refl, ap (λ (port : Port). (port, (tt, tt))) (p ∙ sym q)))

pub write_attribute_unique : Determines write_attribute.ended (λ w. write_attribute.clauses w.𝓛 w.𝓜.mem w.𝓡.run)
write_attribute_unique w κs a g g' r r' ws ws' = both_say w (λ p q. (refl, ap (λ (port : Port). (port, (tt, tt))) (p ∙ sym q)))

pub write_character_unique : Determines write_character.ended (λ w. write_character.clauses w.𝓛 w.𝓜.mem w.𝓡.run)
write_character_unique w κs a g g' r r' ws ws' = both_say w (λ p q. (refl, ap (λ (port : Port). (port, (tt, tt))) (p ∙ sym q)))
