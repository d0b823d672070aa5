-- `packer::pack` meets its contract: each return by the test or the case that led to it.
-- Assumes nothing.
use Rattle.std.proofs.Common.{◌≡◌, false, arith}
use Rattle.std.proofs.lemmas.Result.{err_from_is_err_and}
use Rattle.laws.proofs.Said.{said_by}
use Rattle.laws.proofs.Tests.{test_holds, test_fails}
use Rattle.packer.specs.Packing.{all_whole}
use Rattle.packer.proofs.Outcomes.{not_whole, not_glyphs, leaves, refuses}
use Rattle.packer.proofs.Chains.{kept_none}
use Rattle.packer.proofs.pack.Goals as goal

pub returns-then-not-are_whole : goal.returns-then-not-are_whole
returns-then-not-are_whole c =
    let a = c.args in
    let none : all_whole a.glyphs.now ≡ false = search test_fails in
    let told = not_glyphs a.glyphs.now a.font.now a.cells.now (not_whole a.glyphs.now none) in
    let whole = leaves a.glyphs.now a.font.now a.cells.now 16 (omega arith) told in
    (said_by told (omega arith) (omega arith) (omega arith), whole.0, whole.1)

pub invariant_of-patterns : goal.invariant_of-patterns
invariant_of-patterns c = record { kept = kept_none _ _ (omega arith) }

pub number-requires : goal.number-requires
number-requires c =
    record { whole = search test_holds; chunks = c.as_chunks.ensures.front; none = omega arith }

pub returns-in_err-number : goal.returns-in_err-number
returns-in_err-number c =
    let a = c.args in
    let p = err_from_is_err_and c.from_residual.result c.from_residual.ensures.1 in
    let t = c.number.new.patterns in
    rw (p.1, p.2) (refuses a.glyphs.now a.font.now a.cells.now t.glyphs.now t.firsts t.used c.number.new.numbers _ c.in_err-number.ensures)
