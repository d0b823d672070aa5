-- `ihex::Reader::belongs` meets its contract: the place decides which of the two tests it is, and the table tells a digit.
-- Assumes nothing.
use Rattle.std.proofs.Common.{◌≡◌, true, false, eqb, arith, eq-eqb, ne_eqb}
use Rattle.ihex.specs.Records.{belongs}
use Rattle.ihex.proofs.Steps.{table_tells}
use Rattle.ihex.proofs.Reader.belongs.Goals as goal

pub returns-then-place-eq0 : goal.returns-then-place-eq0
unfolding belongs
returns-then-place-eq0 c =
    let first : eqb c.args.place 0 ≡ true = omega (arith, eq-eqb) in
    simp first

pub returns : goal.returns
unfolding belongs
returns c =
    let a = c.args in
    let later : eqb a.place 0 ≡ false = omega (arith, ne_eqb) in
    simp (later, table_tells _ a.self.now.table a.c (omega arith))
