-- No other answer, and no other contents of the bytes lent, meet a promise of this crate.
-- Assumes nothing.
use Rattle.std.proofs.Common.{sym, ap, ◌∙◌, List, ℕ}
use Rattle.laws.proofs.Determined.{Determines, both_say}
use Rattle.wave.specs.contracts.lay as lay
use Rattle.wave.specs.contracts.lay_from_start as lay_from_start

pub lay_unique : Determines lay.ended (λ w. lay.clauses w.𝓛 w.𝓜.mem w.𝓡.run)
lay_unique w κs a g g' r r' ws ws' = both_say w (λ p q. (p.0 ∙ sym q.0, ap (λ (l : List ℕ). (l, (tt, (tt, tt)))) (p.1 ∙ sym q.1)))

pub lay_from_start_unique : Determines lay_from_start.ended (λ w. lay_from_start.clauses w.𝓛 w.𝓜.mem w.𝓡.run)
lay_from_start_unique w κs a g g' r r' ws ws' = both_say w (λ p q. (p.0 ∙ sym q.0, ap (λ (l : List ℕ). (l, (tt, tt))) (p.1 ∙ sym q.1)))
