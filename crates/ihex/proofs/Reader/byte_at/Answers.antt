-- `ihex::Reader::byte_at` meets its contract: the table tells the value of each digit, and the two tests decide the definition.
-- Assumes nothing.
use Rattle.std.proofs.Common.{◌+◌, Some, get_or, sym, ap, ◌∙◌, arith}
use Rattle.ihex.proofs.Steps.{table_tells, spelled_byte, spelled_none}
use Rattle.ihex.proofs.Reader.byte_at.Goals as goal

pub returns-then-low-gt15 : goal.returns-then-low-gt15
returns-then-low-gt15 c =
    let a = c.args in
    let high = table_tells _ a.self.now.table (get_or a.self.now.text.now a.place 0) (omega arith) in
    let low = table_tells _ a.self.now.table (get_or a.self.now.text.now (a.place + 1) 0) (omega arith) in
    sym (spelled_none _ _ (λ h l. omega arith))

pub returns-else-low-gt15 : goal.returns-else-low-gt15
returns-else-low-gt15 c =
    let a = c.args in
    let high = table_tells _ a.self.now.table (get_or a.self.now.text.now a.place 0) (omega arith) in
    let low = table_tells _ a.self.now.table (get_or a.self.now.text.now (a.place + 1) 0) (omega arith) in
    ap Some (omega arith) ∙ sym (spelled_byte _ _ (omega arith) (omega arith))
