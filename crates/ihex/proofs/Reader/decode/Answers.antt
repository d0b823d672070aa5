-- `ihex::Reader::decode` meets its contract: as long as the bits of all values are those of digits, the bytes passed are decoded and summed, and else there is no sum.
-- Assumes nothing.
use Rattle.std.proofs.Common.{refl, arith}
use Rattle.ihex.proofs.Steps.{table_tells, spelling_none, spelling_more, spelling_all}
use Rattle.ihex.proofs.Reader.decode.Goals as goal

pub loop-i-init : goal.loop-i-init
loop-i-init c = spelling_none _ _ _ c.requires

pub loop-i-preserved : goal.loop-i-preserved
loop-i-preserved c =
    let a = c.args in
    let turn = c.loop-i in
    let tells = table_tells _ a.self.now.table in
    spelling_more _ _ _ c.requires turn.invariant _ _ _ _ _ (omega arith) (tells _ (omega arith)) (tells _ (omega arith)) refl (omega arith) refl

pub returns-else-all-gt15 : goal.returns-else-all-gt15
returns-else-all-gt15 c = spelling_all _ _ _ c.requires c.loop-i.invariant (omega arith) (omega arith)
