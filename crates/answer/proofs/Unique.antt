-- No second answer meets a promise: the struct can be had back from what it tells.
-- Assumes nothing.
use Rattle.std.proofs.Common.{◌≡◌, refl, sym, ◌∙◌}
use Rattle.laws.specs.Said.{Said}
use Rattle.laws.proofs.Determined.{Determines, both_say, told_apart}
use Rattle.answer.specs.Told.{told}
use Rattle.answer.specs.declared.Answer.{Answer}
use Rattle.answer.specs.declared.Value.{Ghosts as ValueGhosts}
use Rattle.answer.specs.declared.Refusal.{Ghosts as RefusalGhosts}
use Rattle.std.specs.declared.clone.Clone.{Ghosts as CloneGhosts}
use Rattle.answer.specs.contracts.AnswerFromResult.from as from_law
use Rattle.answer.specs.contracts.Value.value as value_law
use Rattle.answer.specs.contracts.Refusal.number as number_law
use Rattle.answer.specs.contracts.Refusal.place as place_law
use denote.RattleType.{RattleType}
use mir.Syntax.{Dict}

-- the struct that tells this
abbrev telling : Said → Answer
telling s = record { number = s.number; place = s.place; value = s.value }

pub one_answer : (x y : Answer) → told x ≡ told y → x ≡ y
one_answer = told_apart told telling (λ x. refl)

pub from_unique : (V R : RattleType) (v : ValueGhosts V.Denot) (vs : Dict) (cv : CloneGhosts V.Denot) (cvs : Dict) (r : RefusalGhosts R.Denot) (rs : Dict) (cr : CloneGhosts R.Denot) (crs : Dict)
    → Determines (from_law.ended V R v vs cv cvs r rs cr crs) (λ w. from_law.clauses V R v vs cv cvs r rs cr crs w.𝓛 w.𝓜.mem w.𝓡.run)
from_unique V R v vs cv cvs r rs cr crs w κs a g g' x x' ws ws' = both_say w (λ p q. (one_answer x x' (p ∙ sym q), refl))

pub value_unique : (V : RattleType) (v : ValueGhosts V.Denot) (vs : Dict) (c : CloneGhosts V.Denot) (cs : Dict)
    → Determines (value_law.ended V v vs c cs) (λ w. value_law.clauses V v vs c cs w.𝓛 w.𝓜.mem w.𝓡.run)
value_unique V v vs c cs w κs a g g' x x' ws ws' = both_say w (λ p q. (p ∙ sym q, refl))

pub number_unique : (R : RattleType) (r : RefusalGhosts R.Denot) (rs : Dict) (c : CloneGhosts R.Denot) (cs : Dict)
    → Determines (number_law.ended R r rs c cs) (λ w. number_law.clauses R r rs c cs w.𝓛 w.𝓜.mem w.𝓡.run)
number_unique R r rs c cs w κs a g g' x x' ws ws' = both_say w (λ p q. (p ∙ sym q, refl))

pub place_unique : (R : RattleType) (r : RefusalGhosts R.Denot) (rs : Dict) (c : CloneGhosts R.Denot) (cs : Dict)
    → Determines (place_law.ended R r rs c cs) (λ w. place_law.clauses R r rs c cs w.𝓛 w.𝓜.mem w.𝓡.run)
place_unique R r rs c cs w κs a g g' x x' ws ws' = both_say w (λ p q. (p ∙ sym q, refl))
