-- From the verdict on a text to the reader's answer and to what it leaves in the room lent, once the two lengths are tested.
-- Assumes nothing.
use Rattle.std.proofs.Common.{◌≡◌, ℕ, zero, suc, ◌≤◌, Bool, true, false, Result, Err, List, [], ◌∷◌, ◌++◌, map, length, drop, sym, refl, ap, ◌∙◌, arith, le-ltb, lt-ltb, eq-eqb, ne_eqb}
use Rattle.laws.specs.Pick.{pick}
use Rattle.laws.specs.Lists.{tabulate}
use Rattle.laws.proofs.Lists.{tabulate_same}
use Rattle.laws.proofs.Said.{number_of}
use Rattle.ihex.specs.Lines.{lines}
use Rattle.ihex.specs.Records.{records, record_of, byte_in, gives, data_at}
use Rattle.ihex.specs.Reading.{answer_of, left_of, said, verdict}
use Rattle.ihex.specs.Steps.{Collected, byte_for}
use Rattle.ihex.specs.declared.ReadError.{ReadError}
use Rattle.ihex.specs.declared.ReadError.TheVariants.{NoRoom, TooLong, BadCharacter, BadShape, BadSum, BadType, PastEnd, GivenTwice, BadEnd}
use Rattle.ihex.proofs.Given.{record_small}

-- the scratch as bytes are the image: FF where no record gives one
scratch_byte : (ls : List (List ℕ)) (a : ℕ) → byte_for (byte_in 256 (map record_of ls) a) ≡ byte_in 255 (map record_of ls) a
unfolding byte_in
scratch_byte [] a = refl
scratch_byte (l ∷ ls) a = go (gives (record_of l) a) (scratch_byte ls a)
  where
    go : (b : Bool) → byte_for (byte_in 256 (map record_of ls) a) ≡ byte_in 255 (map record_of ls) a
        → byte_for (pick b (data_at (record_of l) a) (byte_in 256 (map record_of ls) a)) ≡ pick b (data_at (record_of l) a) (byte_in 255 (map record_of ls) a)
    go true ih = simp (lt-ltb (data_at (record_of l) a) 256 (record_small _ _))
    go false ih = ih

map_tabulate : (f : ℕ → ℕ) (n : ℕ) (g : ℕ → ℕ) → map f (tabulate n g) ≡ tabulate n (λ k. f (g k))
unfolding tabulate
map_tabulate f zero g = refl
map_tabulate f (suc n) g = ap (λ (l : List ℕ). f (g 0) ∷ l) (map_tabulate f n (λ k. g (suc k)))

module _ (text room : List ℕ) (long : 8192 ≤ length room) (short : length text ≤ 65535) where
  pub answers : verdict text ≡ answer_of text (length room)
  unfolding answer_of
  answers = simp (le-ltb _ _ long, le-ltb _ _ short)

  module _ {scratch : List ℕ} {x : Result ℕ ReadError} (collected : Collected text scratch x) where
    number : (said x).number ≡ (answer_of text (length room)).number
    number = number_of (collected.says ∙ answers)

    pub leaves : (said x).number ≡ 0 → map byte_for scratch ++ drop 8192 room ≡ left_of text room
    unfolding left_of
    leaves e =
        rw (eq-eqb _ 0 (sym number ∙ e))
        (ap (λ (l : List ℕ). l ++ drop 8192 room)
        (ap (map byte_for) (collected.held e) ∙ map_tabulate byte_for 8192 (byte_in 256 (records text))
        ∙ tabulate_same 8192 _ (byte_in 255 (records text)) (λ a h. scratch_byte (lines text) a)))

    pub keeps : ((said x).number ≡ 0 → ⊥) → room ≡ left_of text room
    unfolding left_of
    keeps e = rw (ne_eqb _ 0 (λ z. e (number ∙ z)))

-- a case of refusal tells a number above 0
pub refused_some : (e : ReadError) → (said (Err e)).number ≡ 0 → ⊥
refused_some NoRoom e = omega arith
refused_some TooLong e = omega arith
refused_some (BadCharacter p) e = omega arith
refused_some (BadShape p) e = omega arith
refused_some (BadSum p) e = omega arith
refused_some (BadType p) e = omega arith
refused_some (PastEnd p) e = omega arith
refused_some (GivenTwice p) e = omega arith
refused_some (BadEnd p) e = omega arith
