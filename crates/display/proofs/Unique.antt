-- No second answer, and no second line, meets the promise of `paint`.
-- Assumes nothing.
use mathlib.Core.Path.{sym, ap, ◌∙◌}
use mathlib.Core.List.{List}
use Prim.Native.Nat.{ℕ}
use Rattle.laws.proofs.Determined.{Determines, both_say}
use Rattle.judging.proofs.Unique.{said_one}
use Rattle.display.specs.contracts.paint as paint

pub paint_unique : Determines paint.ended (λ w. paint.clauses w.𝓛 w.𝓜.mem w.𝓡.run)
paint_unique w κs a g g' r r' ws ws' =
    both_say w (λ p q. (said_one r r' (p.0 ∙ sym q.0), ap (λ (l : List ℕ). (tt, (tt, (tt, (tt, (tt, (tt, (l, tt)))))))) (p.1 ∙ sym q.1)))
