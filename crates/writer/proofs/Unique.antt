-- No second answer meets the promise: the numbers said of two answers agree, each case has a number of its own, and what is left in the
-- room is stated outright.
-- Assumes nothing.
use Rattle.std.proofs.Common.{◌≡◌, eqb, Result, Ok, Err, sym, refl, ap, ◌∙◌}
use Rattle.laws.specs.Pick.{pick}
use Rattle.laws.specs.Said.{Said}
use Rattle.laws.proofs.Determined.{Determines, both_say, told_apart}
use Rattle.font.specs.declared.FontError.TheVariants.{Length, Row}
use Rattle.writer.specs.Writing.{said}
use Rattle.writer.specs.declared.WriteError.{WriteError}
use Rattle.writer.specs.declared.WriteError.TheVariants.{Font, NoRoom}
use Rattle.writer.specs.contracts.WriteErrorFromFontError.from as from_law
use Rattle.writer.specs.contracts.write as write

-- the outcome of which this is said
abbrev meant : Said → Result (Unit {0}) WriteError
meant s = pick (eqb s.number 0) (Ok tt) (Err (pick (eqb s.number 4) (Font Length) (pick (eqb s.number 18) (Font (Row s.place)) NoRoom)))

meant_said : (x : Result (Unit {0}) WriteError) → meant (said x) ≡ x
meant_said (Ok tt) = refl
meant_said (Err (Font Length)) = refl
meant_said (Err (Font (Row row))) = refl
meant_said (Err NoRoom) = refl

pub write_unique : Determines write.ended (λ w. write.clauses w.𝓛 w.𝓜.mem w.𝓡.run)
write_unique w κs a g g' r r' ws ws' =
    both_say w (λ p q. (told_apart said meant meant_said r r' (p.0 ∙ sym q.0), ap (λ l. (tt, (l, tt))) (p.1 ∙ sym q.1)))

pub from_unique : Determines from_law.ended (λ w. from_law.clauses w.𝓛 w.𝓜.mem w.𝓡.run)
from_unique w κs a g g' r r' ws ws' = both_say w (λ p q. (p ∙ sym q, refl))
