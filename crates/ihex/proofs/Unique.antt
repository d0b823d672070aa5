-- No second answer meets the promise: the numbers said of two answers agree, each case has a number of its own, and what is left in the
-- room is stated outright, as a kind's two conversions are.
-- Assumes nothing.
use Rattle.std.proofs.Common.{◌≡◌, ℕ, Result, Ok, Err, eqb, sym, refl, ap, ◌∙◌}
use Rattle.laws.specs.Pick.{pick}
use Rattle.laws.specs.Said.{Said}
use Rattle.laws.proofs.Determined.{Determines, both_say, told_apart}
use Rattle.ihex.specs.Reading.{said}
use Rattle.ihex.specs.declared.ReadError.{ReadError}
use Rattle.ihex.specs.declared.ReadError.TheVariants.{NoRoom, TooLong, BadCharacter, BadShape, BadSum, BadType, PastEnd, GivenTwice, BadEnd}
use Rattle.ihex.specs.contracts.read as read
use Rattle.ihex.specs.contracts.KindTryFromU8.try_from as try_from
use Rattle.ihex.specs.contracts.U8FromKind.from as from

-- the answer of which this is said
abbrev pub meant : Said → Result ℕ ReadError
meant s =
    pick (eqb s.number 0) (Ok s.value)
    (pick (eqb s.number 6) (Err NoRoom)
    (pick (eqb s.number 7) (Err TooLong)
    (pick (eqb s.number 19) (Err (BadCharacter s.place))
    (pick (eqb s.number 20) (Err (BadShape s.place))
    (pick (eqb s.number 8) (Err (BadSum s.place))
    (pick (eqb s.number 9) (Err (BadType s.place))
    (pick (eqb s.number 10) (Err (PastEnd s.place)) (pick (eqb s.number 11) (Err (GivenTwice s.place)) (Err (BadEnd s.place))))))))))

meant_said : (x : Result ℕ ReadError) → meant (said x) ≡ x
meant_said (Ok count) = refl
meant_said (Err NoRoom) = refl
meant_said (Err TooLong) = refl
meant_said (Err (BadCharacter place)) = refl
meant_said (Err (BadShape place)) = refl
meant_said (Err (BadSum place)) = refl
meant_said (Err (BadType place)) = refl
meant_said (Err (PastEnd place)) = refl
meant_said (Err (GivenTwice place)) = refl
meant_said (Err (BadEnd place)) = refl

pub read_unique : Determines read.ended (λ w. read.clauses w.𝓛 w.𝓜.mem w.𝓡.run)
read_unique w κs a g g' r r' ws ws' =
    both_say w (λ p q. (told_apart said meant meant_said r r' (p.0 ∙ sym q.0), ap (λ l. (tt, (l, tt))) (p.1 ∙ sym q.1)))

pub try_from_unique : Determines try_from.ended (λ w. try_from.clauses w.𝓛 w.𝓜.mem w.𝓡.run)
try_from_unique w κs a g g' kind kind' ws ws' = both_say w (λ p q. (p ∙ sym q, refl))

pub from_unique : Determines from.ended (λ w. from.clauses w.𝓛 w.𝓜.mem w.𝓡.run)
from_unique w κs a g g' code code' ws ws' = both_say w (λ p q. (p ∙ sym q, refl))
