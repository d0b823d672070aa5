-- `ihex::Reader::parse` meets its contract: each test that fails denies the record's shape, and all of them passed give it.
-- Assumes nothing.
use Rattle.std.proofs.Common.{ℕ, ◌+◌, arith, length-take-le, take_at}
use Rattle.ihex.proofs.Place.{not_shaped, no_size, size_is, no_sum, no_end, is_shaped_law}
use Rattle.ihex.proofs.Reader.parse.Goals as goal
use Rattle.ihex.proofs.Reader.parse.Goals.{then-self-at-lt-LINE_LEAST-via-then-self-at-lt-LINE_LEAST as few, then-self-at-lt-LINE_LEAST-via-else-self-at-lt-LINE_LEAST+then-self-at-ne-COLON as no_colon}

pub returns-then-self-at-lt-LINE_LEAST : goal.returns-then-self-at-lt-LINE_LEAST
returns-then-self-at-lt-LINE_LEAST c =
    not_shaped c.args.self.now.text.now c.args.at _ (λ shape.
    elim c.then-self-at-lt-LINE_LEAST.branch [ few w ↦ omega (arith, w, shape) | no_colon w ↦ omega (arith, w, shape) ])

pub returns-in_err-given : goal.returns-in_err-given
returns-in_err-given c = rw c.from_residual.ensures (not_shaped _ _ _ (no_size _ _ c.in_err-given.ensures))

pub returns-then-self-end : goal.returns-then-self-end
returns-then-self-end c =
    let size = size_is _ _ c.in_ok-given.ensures in
    not_shaped c.args.self.now.text.now c.args.at _ (λ shape. omega (arith, shape.reaches))

pub returns-in_err-sum : goal.returns-in_err-sum
returns-in_err-sum c =
    let size = size_is _ _ c.in_ok-given.ensures in
    rw c.from_residual-in_err-sum.ensures
    (not_shaped _ _ _ (no_sum c.in_err-sum.ensures (record { size = omega (arith, length-take-le {A = ℕ}); reaches = omega (arith, length-take-le {A = ℕ}) })))

pub returns-in_err-next : goal.returns-in_err-next
returns-in_err-next c =
    let size = size_is _ _ c.in_ok-given.ensures in
    rw c.from_residual-in_err-next.ensures
    (not_shaped _ _ _ (no_end {n = 5 + c.in_ok-given.given} c.in_err-next.ensures (record { size = omega arith; reaches = omega arith }, omega arith)))

pub returns : goal.returns
returns c =
    let size = size_is _ _ c.in_ok-given.ensures in
    is_shaped_law c.in_ok-sum.ensures c.in_ok-next.ensures
    (record {
      asked = record { size = omega (arith, length-take-le {A = ℕ}); reaches = omega (arith, length-take-le {A = ℕ}) };
      whole = omega (arith, length-take-le {A = ℕ});
      here = omega arith;
      begins = omega arith;
    })
    _ (take_at _ _ _ (omega arith))
