-- No other contents of the line meet a promise of this crate.
-- Assumes nothing.
use mathlib.Core.Path.{refl, sym, ap, ◌∙◌}
use mathlib.Core.List.{List}
use Prim.Native.Nat.{ℕ}
use Rattle.laws.proofs.Determined.{Determines, both_say}
use Rattle.stretch.specs.contracts.stretch as stretch
use Rattle.stretch.specs.contracts.strip as strip

pub stretch_unique : Determines stretch.ended (λ w. stretch.clauses w.𝓛 w.𝓜.mem w.𝓡.run)
stretch_unique w κs a g g' r r' ws ws' = both_say w (λ p q. (refl, ap (λ (l : List ℕ). (l, (tt, (tt, (tt, (tt, tt)))))) (p ∙ sym q)))

pub strip_unique : Determines strip.ended (λ w. strip.clauses w.𝓛 w.𝓜.mem w.𝓡.run)
strip_unique w κs a g g' r r' ws ws' = both_say w (λ p q. (refl, ap (λ (l : List ℕ). (l, (tt, (tt, (tt, tt))))) (p ∙ sym q)))
