-- `image::lacks_nothing` meets its contract: its four parts are the image.
-- Assumes nothing.
use Rattle.std.proofs.Common.{refl, sym, ◌∙◌, arith}
use Rattle.std.proofs.lemmas.Bool.{false≢true}
use Rattle.image.proofs.Spared.{whole_parts}
use Rattle.image.proofs.lacks_nothing.Goals as goal
use Rattle.image.proofs.lacks_nothing.Goals.{then-held, else-held, then-held-2, else-held-2}

pub returns-then-held-3 : goal.returns-then-held-3
returns-then-held-3 c e = elim c.if-held-2.branch [
  | then-held-2 w ↦ elim c.if-held.branch [
    | then-held v ↦
        whole_parts c.args.image.now (omega arith) (v.if-held.ensures refl) (v.held-then-held.ensures (sym v.value-is ∙ w.if-held-2.true))
        (w.held-then-held-2.ensures (sym w.value-is ∙ c.if-held-3.true)) (c.held-then-held-3.ensures e)
    | else-held v ↦ absurd (false≢true (sym v.if-held.false ∙ sym v.value-is ∙ w.if-held-2.true))
  ]
  | else-held-2 w ↦ absurd (false≢true (sym w.if-held-2.false ∙ sym w.value-is ∙ c.if-held-3.true))
]
