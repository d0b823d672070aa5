-- What is printed is the account's line: std prints the digits of the account.
-- Assumes nothing.
use Rattle.std.proofs.Common.{◌≡◌, ◌∙◌, ℕ, ◌^◌, ◌<◌, List, [], ◌∷◌, ◌++◌, ap, sym, lt-ltb, le-ltb, ne_eqb, arith}
use Rattle.std.proofs.lemmas.Fmt.{PrependsLastDigit, decimal_from_prepends, length-decimal-le}
use Rattle.std.specs.Fmt.{decimal as printed}
use Rattle.laws.specs.Said.{Said, accepted, refused}
use Rattle.ihex.specs.Lines.{LF}
use Rattle.fontline.specs.Lines.{digits_before, decimal, cells_bytes, refused_word, at_word, line_for}

puts_last_digit : PrependsLastDigit digits_before
unfolding digits_before
puts_last_digit = record { one = λ k n tail few. simp (lt-ltb n 10 few); more = λ k n tail many. simp (le-ltb n 10 many) }

digits_printed : (n : ℕ) (tail : List ℕ) → n < 2 ^ 32 → printed n ++ tail ≡ decimal n tail
digits_printed n tail small =
    sym (decimal_from_prepends digits_before puts_last_digit 10 n tail (omega arith) (length-decimal-le 10 n (omega arith) (omega arith) (omega arith)))

pub count_printed : (count : ℕ) {s : Said} → count < 2 ^ 32 → accepted count ≡ s → cells_bytes ++ (printed count ++ (LF ∷ [])) ≡ line_for s
unfolding line_for
count_printed count small says = ap (λ (l : List ℕ). cells_bytes ++ l) (digits_printed count (LF ∷ []) small) ∙ ap line_for says

pub refusal_printed : (number place : ℕ) {s : Said} → 0 < number → number < 2 ^ 32 → place < 2 ^ 32 → refused number place ≡ s
    → refused_word ++ (printed number ++ (at_word ++ (printed place ++ (LF ∷ [])))) ≡ line_for s
unfolding line_for
refusal_printed number place some small near says =
    ap (λ (l : List ℕ). refused_word ++ (printed number ++ (at_word ++ l))) (digits_printed place (LF ∷ []) near)
    ∙ ap (λ (l : List ℕ). refused_word ++ l) (digits_printed number (at_word ++ decimal place (LF ∷ [])) small)
    ∙ line ∙ ap line_for says
  where
    line : refused_word ++ decimal number (at_word ++ decimal place (LF ∷ [])) ≡ line_for (refused number place)
    line = simp (ne_eqb number 0 (omega arith))
