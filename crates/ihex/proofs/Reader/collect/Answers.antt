-- `ihex::Reader::collect` meets its contract: how far the reading has come (`Passed`) is the invariant, and each answer is the verdict at the line met; the measure is what is left of the text.
-- Assumes nothing.
use Rattle.std.proofs.Common.{◌≡◌, get_or, arith}
use Rattle.ihex.proofs.Codes.{kind_data, kind_end, kind_other}
use Rattle.ihex.proofs.Passed.{passed_none}
use Rattle.ihex.proofs.Given.{laid}
use Rattle.ihex.proofs.Answers.{refused_by, over, meets, meets_none, met_next, met_sum, said_type, said_long, said_more, said_done, said_past, said_twice, said_passed}
use Rattle.ihex.proofs.Reader.collect.Goals as goal

pub loop-at-init : goal.loop-at-init
loop-at-init c = rw c.requires (passed_none _)

pub returns-in_default : goal.returns-in_default
returns-in_default c = meets_none c.loop-at.invariant c.loop-at-test.true c.in_default.ensures c.bad_line.ensures

pub overflow_cast-after : goal.overflow_cast-after
overflow_cast-after c =
    let met = meets c.loop-at.invariant c.loop-at-test.true c.in-Some.ensures in
    omega (arith, (met_next met).0)

pub returns-then-line-ne0 : goal.returns-then-line-ne0
returns-then-line-ne0 c =
    let met = meets c.loop-at.invariant c.loop-at-test.true c.in-Some.ensures in
    refused_by (met_sum met (omega arith)) (omega arith)

pub returns-then-n-ne0 : goal.returns-then-n-ne0
returns-then-n-ne0 c =
    let met = meets c.loop-at.invariant c.loop-at-test.true c.in-Some.ensures in
    let code = get_or c.parse.new.bytes 3 0 in
    let kind : code ≡ 1 = kind_end code cc in
    refused_by (said_long met c.address_of-address.ensures.value (omega arith) (omega arith)) (omega arith)

pub returns-then-line-self : goal.returns-then-line-self
returns-then-line-self c =
    let met = meets c.loop-at.invariant c.loop-at-test.true c.in-Some.ensures in
    let code = get_or c.parse.new.bytes 3 0 in
    let kind : code ≡ 1 = kind_end code cc in
    refused_by (said_more met c.address_of-address.ensures.value (omega arith)) (omega arith)

pub returns-in-Ok-End : goal.returns-in-Ok-End
returns-in-Ok-End c =
    let met = meets c.loop-at.invariant c.loop-at-test.true c.in-Some.ensures in
    let code = get_or c.parse.new.bytes 3 0 in
    let kind : code ≡ 1 = kind_end code cc in
    said_done met c.address_of-address.ensures.value (omega arith)

pub returns-in-Err : goal.returns-in-Err
returns-in-Err c =
    let met = meets c.loop-at.invariant c.loop-at-test.true c.in-Some.ensures in
    let kind = kind_other (get_or c.parse.new.bytes 3 0) c.in-Err.ensures in
    refused_by (said_type met (omega arith)) (omega arith)

pub returns-then-address-n-gt-IMAGE_BYTES : goal.returns-then-address-n-gt-IMAGE_BYTES
returns-then-address-n-gt-IMAGE_BYTES c =
    let met = meets c.loop-at.invariant c.loop-at-test.true c.in-Some.ensures in
    let code = get_or c.parse.new.bytes 3 0 in
    let kind : code ≡ 0 = kind_data code cc in
    refused_by (said_past met c.address_of-address.ensures.value (omega arith)) (omega arith)

pub returns-then-not-store : goal.returns-then-not-store
returns-then-not-store c =
    let met = meets c.loop-at.invariant c.loop-at-test.true c.in-Some.ensures in
    let code = get_or c.parse.new.bytes 3 0 in
    let kind : code ≡ 0 = kind_data code cc in
    let stored = laid c.parse.new.bytes c.loop-at.scratch (get_or c.parse.new.bytes 0 0) c.address_of-address.result (omega arith) (omega arith) (omega arith) (omega arith) (omega arith) c.store.ensures in
    refused_by (said_twice met c.address_of-address.ensures.value stored (omega arith) (search)) (omega arith)

pub loop-at-smaller : goal.loop-at-smaller
loop-at-smaller c =
    let met = meets c.loop-at.invariant c.loop-at-test.true c.in-Some.ensures in
    omega (arith, (met_next met).1)

pub loop-at-preserved : goal.loop-at-preserved
loop-at-preserved c =
    let met = meets c.loop-at.invariant c.loop-at-test.true c.in-Some.ensures in
    let code = get_or c.parse.new.bytes 3 0 in
    let kind : code ≡ 0 = kind_data code cc in
    let stored = laid c.parse.new.bytes c.loop-at.scratch (get_or c.parse.new.bytes 0 0) c.address_of-address.result (omega arith) (omega arith) (omega arith) (omega arith) (omega arith) c.store.ensures in
    said_passed met c.address_of-address.ensures.value stored (omega arith) (search)

pub returns : goal.returns
returns c = refused_by (over c.loop-at.invariant (omega arith)) (omega arith)
