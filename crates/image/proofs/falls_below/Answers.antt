-- `image::falls_below` meets its contract: bytes of which the fold finds none below the bound reach it.
-- Assumes nothing.
use Rattle.std.proofs.Common.{◌≡◌, ◌||◌, nat_lt, fold, false, sym, ◌∙◌, rules}
use Rattle.std.proofs.lemmas.Grind.{common_steps}
use Rattle.image.proofs.Strides.{none_below}
use Rattle.image.proofs.falls_below.Goals as goal

pub returns : goal.returns
returns c =
    let e : c.fold.result ≡ fold (λ below byte. below || nat_lt byte c.args.bound) false c.args.bytes.now = search (rules, common_steps) in
    λ none. none_below c.args.bound c.args.bytes.now (sym e ∙ none)
