-- No other contents of the part lent meet the promise of this crate.
-- Assumes nothing.
use Rattle.std.proofs.Common.{List, refl, sym, ap, ◌∙◌}
use denote.RattleType.{RattleType}
use mir.Syntax.{Dict}
use Rattle.std.specs.declared.clone.Clone.{Ghosts}
use Rattle.laws.proofs.Determined.{Determines, both_say}
use Rattle.fill.specs.contracts.fill as fill

pub fill_unique : (T : RattleType) (clone : Ghosts T.Denot) (calls : Dict) → Determines (fill.ended T clone calls) (λ w. fill.clauses T clone calls w.𝓛 w.𝓜.mem w.𝓡.run)
fill_unique T clone calls w κs a g g' r r' ws ws' = both_say w (λ p q. (refl, ap (λ (l : List T.Denot). (l, (tt, tt))) (p ∙ sym q)))
