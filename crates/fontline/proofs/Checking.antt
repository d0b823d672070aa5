-- What the two calls say is what `checked` says: the first that refuses decides, else the count that reading gives.
-- Assumes nothing.
use Rattle.std.proofs.Common.{◌≡◌, ◌∙◌, ℕ, ◌<◌, List, ◌++◌, Result, Ok, Err, IsErrAnd, ap, sym, replicate, drop_of_length-le, append-nil, ne_eqb, arith}
use Rattle.laws.specs.Said.{accepted, refused}
use Rattle.font.specs.Font.{font_rows}
use Rattle.image.specs.Image.{image_bytes}
use Rattle.image.specs.Image.{answer_of as turning}
use Rattle.ihex.specs.Reading.{image_in, left_of}
use Rattle.ihex.specs.Reading.{answer_of as reading}
use Rattle.fontline.specs.Lines.{checked, number_of, place_of, said}
use Rattle.fontline.specs.declared.NoFont.{NoFont}

-- no refusal has number 0
pub some_number : (refusal : NoFont) → 0 < number_of refusal
some_number refusal = grind arith

-- what a `?` hands on says the number and place of the refusal that it makes
pub said_refusal : (outcome : Result ℕ NoFont) (refusal : NoFont) → IsErrAnd outcome (λ e. e ≡ refusal) → said outcome ≡ refused (number_of refusal) (place_of refusal)
said_refusal (Ok count) refusal is = absurd is
said_refusal (Err e) refusal is = ap (λ e. refused (number_of e) (place_of e)) is

-- what an accepted text leaves in a room of 8,192 bytes is its image
image_read : (text : List ℕ) {count : ℕ} → accepted count ≡ reading text image_bytes → left_of text (replicate image_bytes 0) ≡ image_in text
unfolding left_of
image_read text is =
    rw (sym is) (ap (λ (l : List ℕ). image_in text ++ l) (drop_of_length-le (replicate image_bytes 0) {i = image_bytes} (omega arith)) ∙ append-nil (image_in text))

pub read_refuses : (text : List ℕ) {number place : ℕ} → 0 < number → refused number place ≡ reading text image_bytes → refused number place ≡ checked text
unfolding checked
read_refuses text {number} some is = rw (sym is) (simp (ne_eqb number 0 (omega arith)))

module _ (text : List ℕ) {count : ℕ} (is : accepted count ≡ reading text image_bytes) {image : List ℕ} (left : image ≡ left_of text (replicate image_bytes 0)) where
  turns : turning image font_rows ≡ turning (image_in text) font_rows
  turns = ap (λ (l : List ℕ). turning l font_rows) (left ∙ image_read text is)

  pub turning_refuses : {number place : ℕ} → 0 < number → refused number place ≡ turning image font_rows → refused number place ≡ checked text
  unfolding checked
  turning_refuses {number} some says = rw (sym is, sym (says ∙ turns)) (simp (ne_eqb number 0 (omega arith)))

  pub both_accept : {none : ℕ} → accepted none ≡ turning image font_rows → accepted count ≡ checked text
  unfolding checked
  both_accept says = rw (sym is, sym (says ∙ turns)) (λ i. accepted count)
