-- No second answer meets the promise: the numbers said of two answers agree, each case has a number of its own, and what is left in font and
-- cells is stated outright.
-- Assumes nothing.
use Rattle.std.proofs.Common.{◌≡◌, ℕ, Result, Ok, Err, eqb, sym, refl, ◌∙◌}
use Rattle.laws.specs.Pick.{pick}
use Rattle.laws.specs.Said.{Said}
use Rattle.laws.proofs.Determined.{Determines, both_say, told_apart}
use Rattle.packer.specs.Packing.{said}
use Rattle.packer.specs.declared.PackError.{PackError}
use Rattle.packer.specs.declared.PackError.TheVariants.{NotGlyphs, TooManyPatterns, NoRoom}
use Rattle.packer.specs.contracts.pack as pack

-- the outcome of which this is said
abbrev meant : Said → Result ℕ PackError
meant s = pick (eqb s.number 0) (Ok s.value) (Err (pick (eqb s.number 16) NotGlyphs (pick (eqb s.number 17) TooManyPatterns NoRoom)))

meant_said : (x : Result ℕ PackError) → meant (said x) ≡ x
meant_said (Ok cells) = refl
meant_said (Err NotGlyphs) = refl
meant_said (Err TooManyPatterns) = refl
meant_said (Err NoRoom) = refl

pub pack_unique : Determines pack.ended (λ w. pack.clauses w.𝓛 w.𝓜.mem w.𝓡.run)
pack_unique w κs a g g' r r' ws ws' =
    both_say w (λ p q. (told_apart said meant meant_said r r' (p.0 ∙ sym q.0), λ i. (tt, ((p.1 ∙ sym q.1) i, ((p.2 ∙ sym q.2) i, tt)))))
