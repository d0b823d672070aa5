-- No second answer meets the promise: the numbers said of two answers agree, and each case has numbers of its own.
-- Assumes nothing.
use Rattle.std.proofs.Common.{◌≡◌, refl, sym, ◌∙◌, eqb}
use Rattle.std.specs.Prelude.{Result, Ok, Err}
use Rattle.laws.specs.Pick.{pick}
use Rattle.laws.specs.Said.{Said}
use Rattle.laws.proofs.Determined.{Determines, both_say, told_apart}
use Rattle.pulse.specs.Pulse.{said}
use Rattle.pulse.specs.declared.Level.{Level}
use Rattle.pulse.specs.declared.Level.TheVariants.{Low, High}
use Rattle.pulse.specs.declared.NoSuchClock.{NoSuchClock}
use Rattle.pulse.specs.contracts.level_at as level_at_law

-- the case of which this is said
abbrev meant : Said → Result Level NoSuchClock
meant s = pick (eqb s.number 15) (Err (record {})) (Ok (pick (eqb s.value 1) High Low))

meant_said : (x : Result Level NoSuchClock) → meant (said x) ≡ x
meant_said (Ok Low) = refl
meant_said (Ok High) = refl
meant_said (Err _) = refl

pub level_at_unique : Determines level_at_law.ended (λ w. level_at_law.clauses w.𝓛 w.𝓜.mem w.𝓡.run)
level_at_unique w κs a g g' r r' ws ws' = both_say w (λ p q. (told_apart said meant meant_said r r' (p ∙ sym q), refl))
