-- No second outcome meets a promise: each promise is an equation for the record, for what is said of the answer, and for the bytes lent.
-- Assumes nothing.
use Rattle.std.proofs.Common.{◌≡◌, ℕ, eqb, Result, Ok, Err, refl, sym, ap, ◌∙◌}
use Rattle.laws.specs.Pick.{pick}
use Rattle.laws.specs.Said.{Said}
use Rattle.laws.proofs.Determined.{Determines, both_say, told_apart}
use Rattle.dac.specs.Play.{said}
use Rattle.dac.specs.declared.Dac.{Dac}
use Rattle.dac.specs.declared.TooManyClocks.{TooManyClocks}
use Rattle.dac.specs.contracts.Dac.fresh as fresh
use Rattle.dac.specs.contracts.Dac.write_low as write_low
use Rattle.dac.specs.contracts.Dac.write_high as write_high
use Rattle.dac.specs.contracts.Dac.play as play

-- the case of which this is said
abbrev meant : Said → Result ℕ TooManyClocks
meant s = pick (eqb s.number 14) (Err (record {})) (Ok s.value)

meant_said : (x : Result ℕ TooManyClocks) → meant (said x) ≡ x
meant_said (Ok high) = refl
meant_said (Err e) = refl

pub fresh_unique : Determines fresh.ended (λ w. fresh.clauses w.𝓛 w.𝓜.mem w.𝓡.run)
fresh_unique w κs a g g' r r' ws ws' = both_say w (λ p q. (p ∙ sym q, refl))

pub write_low_unique : Determines write_low.ended (λ w. write_low.clauses w.𝓛 w.𝓜.mem w.𝓡.run)
write_low_unique w κs a g g' r r' ws ws' = both_say w (λ p q. (refl, ap (λ (d : Dac). (d, (tt, tt))) (p ∙ sym q)))

pub write_high_unique : Determines write_high.ended (λ w. write_high.clauses w.𝓛 w.𝓜.mem w.𝓡.run)
write_high_unique w κs a g g' r r' ws ws' = both_say w (λ p q. (refl, ap (λ (d : Dac). (d, (tt, tt))) (p ∙ sym q)))

pub play_unique : Determines play.ended (λ w. play.clauses w.𝓛 w.𝓜.mem w.𝓡.run)
play_unique w κs a g g' r r' ws ws' =
    both_say w (λ p q. (told_apart said meant meant_said r r' (p.0 ∙ sym q.0), λ i. ((p.1 ∙ sym q.1) i, (tt, ((p.2 ∙ sym q.2) i, tt)))))
