-- `ihex::store` meets its contract: it is known of the part passed whether none was given, and it holds the bytes.
-- Assumes nothing.
use Rattle.std.proofs.Common.{◌≡◌, false, ltb, get_or, sym, refl, ap, ◌∙◌, arith, le-ltb, lt-ltb}
use Rattle.ihex.proofs.Steps.{storing_none, storing_more, storing_all}
use Rattle.laws.specs.Pick.{pick}
use Rattle.ihex.proofs.store.Goals as goal
use Rattle.ihex.proofs.store.Goals.{then-held-lt-NOT_GIVEN, else-held-lt-NOT_GIVEN}

pub loop-i-init : goal.loop-i-init
loop-i-init c = storing_none _ _

pub loop-i-preserved : goal.loop-i-preserved
loop-i-preserved c =
    let turn = c.loop-i in
    let joined = c.if-held-lt-NOT_GIVEN in
    let held = get_or turn.part turn.i 0 in
    let told : joined.fresh ≡ pick (ltb held 256) false turn.fresh =
    elim joined.branch [
      | then-held-lt-NOT_GIVEN w ↦ w.fresh-is ∙ sym (ap (λ b. pick b false turn.fresh) (lt-ltb held 256 (omega (arith, w))))
      | else-held-lt-NOT_GIVEN w ↦ w.fresh-is ∙ sym (ap (λ b. pick b false turn.fresh) (le-ltb held 256 (omega (arith, w))))
    ] in
    storing_more _ _ turn.invariant _ _ (omega arith) refl told

pub returns : goal.returns
returns c = storing_all _ _ c.loop-i.invariant (omega arith) (omega arith)
