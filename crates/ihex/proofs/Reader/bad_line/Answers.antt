-- `ihex::Reader::bad_line` meets its contract: the invariant is that each character passed is in its place, and so no end (`Searched`), and the first that is not decides.
-- Assumes nothing.
use Rattle.std.proofs.Common.{◌≡◌, ◌+◌, true, false, get_or, drop, arith}
use Rattle.laws.proofs.Said.{said_by}
use Rattle.ihex.specs.Lines.{at_end}
use Rattle.ihex.specs.Records.{belongs}
use Rattle.ihex.proofs.Steps.{past_test}
use Rattle.ihex.proofs.Lines.{ends_over}
use Rattle.ihex.proofs.Bad.{belongs_goes, searched_none, searched_more, search_ends, search_finds}
use Rattle.ihex.proofs.Reader.bad_line.Goals as goal

pub loop-k-init : goal.loop-k-init
loop-k-init c = searched_none _ _ (omega arith)

pub returns-then-is_some : goal.returns-then-is_some
returns-then-is_some c =
    let text = c.args.self.now.text.now in
    let place = c.args.at + c.loop-k.k in
    let end : at_end (drop place text) ≡ true = cc (past_test text place) in
    said_by (search_ends c.loop-k.invariant end) (omega arith) (omega arith) (omega arith)

pub returns-then-not-belongs : goal.returns-then-not-belongs
returns-then-not-belongs c =
    let text = c.args.self.now.text.now in
    let place = c.args.at + c.loop-k.k in
    let none : c.is_some.result ≡ false = search in
    let no_end : at_end (drop place text) ≡ false = cc (past_test text place) in
    let bad : belongs c.loop-k.k (get_or text place 0) ≡ false = cc in
    said_by (search_finds c.loop-k.invariant no_end bad) (omega arith) (omega arith) (omega arith)

pub loop-k-preserved : goal.loop-k-preserved
loop-k-preserved c =
    let text = c.args.self.now.text.now in
    let place = c.args.at + c.loop-k.k in
    let fits : belongs c.loop-k.k (get_or text place 0) ≡ true = cc in
    searched_more c.loop-k.invariant (omega arith) (belongs_goes text c.loop-k.k place (omega arith) fits) fits

pub returns : goal.returns
returns c =
    let text = c.args.self.now.text.now in
    said_by (search_ends c.loop-k.invariant (ends_over text (c.args.at + c.loop-k.k) (omega arith))) (omega arith) (omega arith) (omega arith)
