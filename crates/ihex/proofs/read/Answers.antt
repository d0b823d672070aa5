-- `ihex::read` meets its contract: the tests of the two lengths, then the verdict that `collect` gives; the room is written only where that is acceptance.
-- Assumes nothing.
use Rattle.ihex.proofs.Outcomes.{answers, leaves, keeps, refused_some}
use Rattle.ihex.specs.Steps.{unfilled}
use Rattle.ihex.specs.Reading.{most_text, answer_of, left_of}
use Rattle.image.specs.Image.{image_bytes}
use Rattle.std.proofs.Common.{◌≡◌, ℕ, ◌≤◌, true, false, ltb, List, ◌++◌, length, drop, refl, ap, ◌∙◌, arith, le-ltb, lt-ltb}
use Rattle.std.proofs.lemmas.Result.{err_from_is_err_and}
use Rattle.ihex.proofs.read.Goals as goal

pub returns-then-image-lt-IMAGE_BYTES : goal.returns-then-image-lt-IMAGE_BYTES
unfolding answer_of left_of
returns-then-image-lt-IMAGE_BYTES c =
    let a = c.args in
    let room : ltb (length a.image.now) image_bytes ≡ true = omega (arith, lt-ltb) in
    (simp room, simp room)

pub returns-then-text-gt-MOST_TEXT : goal.returns-then-text-gt-MOST_TEXT
unfolding answer_of left_of
returns-then-text-gt-MOST_TEXT c =
    let a = c.args in
    let room : ltb (length a.image.now) image_bytes ≡ false = omega (arith, le-ltb) in
    let over : ltb most_text (length a.text.now) ≡ true = omega (arith, lt-ltb) in
    (simp (room, over), simp (room, over))

pub invariant_of-reader : goal.invariant_of-reader
unfolding Rattle.laws.specs.Lists.tabulate Rattle.ihex.specs.Digits.digit
invariant_of-reader c = record { table = refl; short = omega arith }

pub collect-requires : goal.collect-requires
unfolding unfilled
collect-requires c = refl

pub returns-in_err-count : goal.returns-in_err-count
returns-in_err-count c =
    let a = c.args in
    let long : image_bytes ≤ length a.image.now = omega arith in
    let short : length a.text.now ≤ most_text = omega arith in
    let told = c.in_err-count.ensures in
    let p = err_from_is_err_and c.from_residual.result c.from_residual.ensures.1 in
    rw (p.1, p.2) (told.says ∙ answers a.text.now a.image.now long short, keeps a.text.now a.image.now long short told (refused_some _))

pub returns : goal.returns
returns c =
    let a = c.args in
    let long : image_bytes ≤ length a.image.now = omega arith in
    let short : length a.text.now ≤ most_text = omega arith in
    let told = c.in_ok-count.ensures in
    let copied = ap (λ (l : List ℕ). l ++ drop 8192 a.image.now) c.copy_out.ensures in
    (told.says ∙ answers a.text.now a.image.now long short, copied ∙ leaves a.text.now a.image.now long short told refl)
