-- `image::first_lack` meets its contract.
-- Assumes nothing.
use Rattle.std.proofs.Common.{◌≡◌, true, false, rules}
use Rattle.std.proofs.lemmas.Iterator.{first_from_Range}
use Rattle.image.proofs.First.{none_lacks, first_from}
use Rattle.image.specs.Image.{lacks_at}
use Rattle.image.proofs.first_lack.Goals as goal

pub returns-then-lacks_nothing : goal.returns-then-lacks_nothing
returns-then-lacks_nothing c = none_lacks _ (c.lacks_nothing.ensures c.if-lacks_nothing.true)

pub returns : goal.returns
returns c =
    let image = c.args.image.now in
    first_from image c.whole_strides.result c.find.result c.whole_strides.ensures
    (first_from_Range _ _ _ c.find.result (λ k. lacks_at image k ≡ true) (λ k. lacks_at image k ≡ false) c.find.ensures.ran (λ x q k. search rules) (λ x q k. search rules))
