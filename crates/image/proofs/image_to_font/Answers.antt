-- `image::image_to_font` meets its contract: each way out fixes the tests of the answer, and with them what is left in the room.
-- Assumes nothing.
use Rattle.std.proofs.Common.{◌≡◌, true, false, length, eqb, ltb, Option, Some, None, Err, refl, sym, ap, ◌∙◌, arith}
use Rattle.std.proofs.lemmas.Bool.{eq-eqb, ne_eqb, lt-ltb, le-ltb}
use Rattle.std.proofs.lemmas.Result.{err_from_is_err_and}
use Rattle.std.specs.Option.{ok_or}
use Rattle.image.specs.declared.NotAFont.{NotAFont}
use Rattle.image.specs.Image.{first_lacking, font_of, answer_of, left_of}
use Rattle.image.proofs.image_to_font.Goals as goal

-- a refusal for a length
of_length : {X : Type 0} (o : Option X) (e d : NotAFont) → Err e ≡ ok_or o d → (o ≡ None) × (e ≡ d)
of_length None e d h = (refl, cc)
of_length (Some x) e d h = (cc, cc)

pub returns-in_err-image : goal.returns-in_err-image
unfolding answer_of left_of
returns-in_err-image c =
    let p = err_from_is_err_and c.from_residual.result c.from_residual.ensures.1 in
    let why = of_length c.as_array.result c.in_err-image.field-0.0 _ c.in_err-image.ensures.value in
    let size : eqb (length c.args.image.now) 8192 ≡ false = ne_eqb _ _ (rw why.0 at c.as_array.ensures.cases) in
    (simp (p.1, p.2, why.1, size), simp size)

pub returns-in_err-font : goal.returns-in_err-font
unfolding answer_of left_of
returns-in_err-font c =
    let a = c.args in
    let p = err_from_is_err_and c.from_residual-in_err-font.result c.from_residual-in_err-font.ensures.1 in
    let why = of_length c.as_mut_array.result c.in_err-font.field-0.0 _ c.in_err-font.ensures.value in
    let whole = rw c.in_ok-image.ensures.ok_part at c.as_array.ensures.cases in
    let size : eqb (length a.image.now) 8192 ≡ true = eq-eqb _ _ whole.long in
    let room : eqb (length a.font.now) 1116 ≡ false = ne_eqb _ _ (rw why.0 at c.as_mut_array.ensures.cases) in
    (simp (p.1, p.2, why.1, size, room), simp (size, room))

pub returns-in-Some : goal.returns-in-Some
unfolding answer_of left_of
returns-in-Some c =
    let a = c.args in
    let whole = rw c.in_ok-image.ensures.ok_part at c.as_array.ensures.cases in
    let font = rw c.in_ok-font.ensures.ok_part at c.as_mut_array.ensures.cases in
    let found = c.in-Some.ensures in
    let lack : c.in-Some.address ≡ first_lacking a.image.now = found.0 ∙ ap first_lacking whole.same in
    let size : eqb (length a.image.now) 8192 ≡ true = eq-eqb _ _ whole.long in
    let room : eqb (length a.font.now) 1116 ≡ true = eq-eqb _ _ font.long in
    let some : ltb (first_lacking a.image.now) 8192 ≡ true = lt-ltb _ _ (omega (arith, lack, found.1)) in
    (simp (size, room, some, ← lack), font.same ∙ simp (size, room, some))

pub returns : goal.returns
unfolding answer_of left_of
returns c =
    let a = c.args in
    let whole = rw c.in_ok-image.ensures.ok_part at c.as_array.ensures.cases in
    let font = rw c.in_ok-font.ensures.ok_part at c.as_mut_array.ensures.cases in
    let lack : first_lacking a.image.now ≡ 8192 = ap first_lacking (sym whole.same) ∙ c.in_default.ensures in
    let size : eqb (length a.image.now) 8192 ≡ true = eq-eqb _ _ whole.long in
    let room : eqb (length a.font.now) 1116 ≡ true = eq-eqb _ _ font.long in
    let none : ltb (first_lacking a.image.now) 8192 ≡ false = le-ltb _ _ (omega (arith, lack)) in
    (simp (size, room, none), c.turn.ensures ∙ ap font_of whole.same ∙ simp (size, room, none))
