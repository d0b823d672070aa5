-- `ihex::Reader::past_end` meets its contract: what stands at the place decides the definition, one answer for each way.
-- Assumes nothing.
use Rattle.std.proofs.Common.{◌≡◌, ◌+◌, true, false, eqb, get_or, sym, ◌∙◌, arith, eq-eqb, ne_eqb}
use Rattle.ihex.specs.Lines.{LF, CR}
use Rattle.ihex.proofs.Steps.{past_over, past_here, past_else}
use lib.ListN.{get_or-eq_default}
use Rattle.ihex.proofs.Reader.past_end.Goals as goal
use Rattle.ihex.proofs.Reader.past_end.Goals.{else-self-place-eq-CR-via-then-self-place-eq-CR+then-place-self-2+else-self-place-eq-LF-2 as no_lf, else-self-place-eq-CR-via-then-self-place-eq-CR+else-place-self-2 as no_next, else-self-place-eq-CR-via-else-self-place-eq-CR as no_cr}

pub returns-then-place-self : goal.returns-then-place-self
returns-then-place-self c = sym (past_over _ _ (omega arith))

pub returns-then-self-place-eq-LF : goal.returns-then-self-place-eq-LF
returns-then-self-place-eq-LF c =
    let text = c.args.self.now.text.now in
    let lf : eqb (get_or text c.args.place 0) LF ≡ true = omega (arith, eq-eqb) in
    sym (past_here text c.args.place (omega arith) ∙ simp lf)

pub returns-then-self-place-eq-LF-2 : goal.returns-then-self-place-eq-LF-2
returns-then-self-place-eq-LF-2 c =
    let text = c.args.self.now.text.now in
    let lf : eqb (get_or text c.args.place 0) LF ≡ false = omega (arith, ne_eqb) in
    let cr : eqb (get_or text c.args.place 0) CR ≡ true = omega (arith, eq-eqb) in
    let then : eqb (get_or text (c.args.place + 1) 0) LF ≡ true = omega (arith, eq-eqb) in
    sym (past_here text c.args.place (omega arith) ∙ simp (lf, cr, then))

pub returns-else-self-place-eq-CR : goal.returns-else-self-place-eq-CR
returns-else-self-place-eq-CR c =
    let text = c.args.self.now.text.now in
    let beyond = get_or-eq_default text 0 {n = c.args.place + 1} in
    sym (past_else text c.args.place (omega arith) (λ e. omega arith) (λ e f.
    elim c.else-self-place-eq-CR.branch [
      | no_lf w ↦ omega (arith, w)
      | no_next w ↦ omega (arith, beyond (omega (arith, w)))
      | no_cr w ↦ omega (arith, w)
    ]))
