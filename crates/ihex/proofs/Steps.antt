-- Laws of the reader's steps: the digit table, the end of a line, the running checksum, the scratch.
-- Assumes nothing.
use Rattle.std.proofs.Common.{◌≡◌, ℕ, suc, ◌+◌, ◌*◌, ◌%◌, ◌<◌, ◌≤◌, ◌⊎◌, inl, inr, Bool, true, false, Some, None, is_some, eqb, ltb, List, length, get_or, take, drop, set, sym, refl, ap, ◌∙◌, add-zero, add_assoc, arith, length-drop, drop_of_length-le, length-take-le, get_or-drop, drop-cons, get_or-take, below_more, ltb-true, lt-ltb, eq-eqb, ne_eqb, eqb-true}
use mathlib.Core.Bool.{false≢true}
use native.Mathlib.Nat.{mod-add-mod}
use native.Mathlib.Decide.{ℕ_discrete, dec_lt}
use lib.Bits.{bit_or, or_lt}
use lib.Seq.{ext_get_or}
use Rattle.laws.specs.Pick.{pick, both}
use Rattle.laws.specs.Lists.{tabulate, first_of}
use Rattle.laws.specs.Sums.{sum_all}
use Rattle.laws.proofs.Both.{both_parts}
use Rattle.laws.proofs.Lists.{get_or_tabulate, Filled, filled_none, filled_more, is_tabulate, first_none, first_before}
use Rattle.laws.proofs.Scan.{or_above}
use Rattle.laws.proofs.Sums.{sum_tabulate}
use Rattle.ihex.specs.Digits.{digit, byte_at, bytes_from}
use Rattle.ihex.specs.Lines.{at_end}
use Rattle.ihex.specs.Steps.{Decoded, Stored, digit_table, spelled_at, all_digits, sum_from, passes_end, end_length}
use Rattle.ihex.proofs.Shape.{digits_at, digits_all}

-- what the table tells of a byte
pub table_tells : (digits : List ℕ) → digits ≡ digit_table → (c : ℕ) → c < 256 → get_or digits c 0 ≡ digit c
table_tells digits e c small = ap (λ l. get_or l c 0) e ∙ get_or_tabulate 256 digit c 0 small

-- the two digits at a place of the text
module _ (text : List ℕ) (place : ℕ) where
  pub spelled_byte : digit (get_or text place 0) < 16 → digit (get_or text (place + 1) 0) < 16 → spelled_at text place ≡ Some (byte_at text place)
  unfolding spelled_at
  spelled_byte high low = simp (lt-ltb _ 16 high, lt-ltb _ 16 low)

  pub spelled_none : (digit (get_or text place 0) < 16 → digit (get_or text (place + 1) 0) < 16 → ⊥) → spelled_at text place ≡ None
  unfolding spelled_at
  spelled_none bad = go (both (ltb (digit (get_or text place 0)) 16) (ltb (digit (get_or text (place + 1) 0)) 16)) refl
    where
      go : (b : Bool) → both (ltb (digit (get_or text place 0)) 16) (ltb (digit (get_or text (place + 1) 0)) 16) ≡ b → pick b (Some (byte_at text place)) None ≡ None
      go true e = let parts = both_parts _ _ e in absurd (bad (ltb-true _ _ parts.0) (ltb-true _ _ parts.1))
      go false e = refl

  pub spelled_digits : {given : ℕ} → Some given ≡ spelled_at text place
      → (digit (get_or text place 0) < 16) × (digit (get_or text (place + 1) 0) < 16) × (given ≡ byte_at text place)
  unfolding spelled_at
  spelled_digits {given} e = go (both (ltb (digit (get_or text place 0)) 16) (ltb (digit (get_or text (place + 1) 0)) 16)) refl e
    where
      go : (b : Bool) → both (ltb (digit (get_or text place 0)) 16) (ltb (digit (get_or text (place + 1) 0)) 16) ≡ b → Some given ≡ pick b (Some (byte_at text place)) None
          → (digit (get_or text place 0) < 16) × (digit (get_or text (place + 1) 0) < 16) × (given ≡ byte_at text place)
      go true e h = let parts = both_parts _ _ e in (ltb-true _ _ parts.0, ltb-true _ _ parts.1, cc)
      go false e h = absurd cc

-- the end of a line at a place of the text
module _ (text : List ℕ) (place : ℕ) where
  pub past_over : place ≡ length text → passes_end text place ≡ Some place
  unfolding passes_end at_end
  past_over h = rw (drop_of_length-le text {i = place} (omega arith)) (ap Some (add-zero place))

  pub past_here : place < length text
      → passes_end text place
      ≡ pick (pick (eqb (get_or text place 0) 10) true (both (eqb (get_or text place 0) 13) (eqb (get_or text (place + 1) 0) 10)))
      (Some (place + pick (eqb (get_or text place 0) 10) 1 2)) None
  unfolding passes_end at_end
  past_here h =
      let next : get_or (drop (suc place) text) 0 0 ≡ get_or text (place + 1) 0 = get_or-drop (suc place) text 0 0 ∙ ap (λ n. get_or text n 0) (omega arith) in
      rw (drop-cons text place 0 h, next)

  pub past_else : place < length text → (get_or text place 0 ≡ 10 → ⊥) → (get_or text place 0 ≡ 13 → get_or text (place + 1) 0 ≡ 10 → ⊥) → passes_end text place ≡ None
  past_else h no_lf no_pair = past_here h ∙ rw (ne_eqb (get_or text place 0) 10 no_lf) (go (eqb (get_or text place 0) 13) (eqb (get_or text (place + 1) 0) 10) refl refl)
    where
      go : (b d : Bool) → eqb (get_or text place 0) 13 ≡ b → eqb (get_or text (place + 1) 0) 10 ≡ d → pick (both b d) (Some (place + 2)) None ≡ None
      go true true e f = absurd (no_pair (eqb-true _ _ e) (eqb-true _ _ f))
      go true false e f = refl
      go false d e f = refl

  -- whether an end stands there
  pub past_ends : {next : ℕ} → Some next ≡ passes_end text place → (at_end (drop place text) ≡ true) × (next ≡ place + end_length (drop place text))
  unfolding passes_end
  past_ends {next} e = go (at_end (drop place text)) e
    where
      go : (b : Bool) → Some next ≡ pick b (Some (place + end_length (drop place text))) None → (b ≡ true) × (next ≡ place + end_length (drop place text))
      go true e = (refl, cc)
      go false e = absurd cc

  pub past_none : None ≡ passes_end text place → at_end (drop place text) ≡ false
  unfolding passes_end
  past_none e = go (at_end (drop place text)) e
    where
      go : (b : Bool) → None ≡ pick b (Some (place + end_length (drop place text))) None → b ≡ false
      go true e = absurd cc
      go false e = refl

  pub past_test : is_some (passes_end text place) ≡ at_end (drop place text)
  unfolding passes_end
  past_test = go (at_end (drop place text))
    where
      go : (b : Bool) → is_some (pick b (Some (place + end_length (drop place text))) None) ≡ b
      go true = refl
      go false = refl

-- one turn of the running checksum
pub sum_more : (i : ℕ) (f : ℕ → ℕ) (sum byte r : ℕ) → sum ≡ sum_all (tabulate i f) % 256 → byte ≡ f i → r ≡ (sum + byte) % 256
    → r ≡ sum_all (tabulate (i + 1) f) % 256
sum_more i f sum byte r e g h =
    h ∙ ap (λ n. (n + byte) % 256) e ∙ ap (λ n. (sum_all (tabulate i f) % 256 + n) % 256) g ∙ mod-add-mod (sum_all (tabulate i f)) 256 (f i)
    ∙ ap (λ n. n % 256) (sym (sum_tabulate i f))

-- n bytes from a place on
module _ (text : List ℕ) (place n : ℕ) (fits : place + 2 * n ≤ length text) where
  front_length : length (take (2 * n) (drop place text)) ≡ 2 * n
  front_length = length-take-le (2 * n) (drop place text) (omega (arith, length-drop place text))

  front_at : (k : ℕ) → k < 2 * n → get_or (take (2 * n) (drop place text)) k 0 ≡ get_or text (place + k) 0
  front_at k h = get_or-take (2 * n) (drop place text) k 0 h ∙ get_or-drop place text k 0

  front_digits : ((k : ℕ) → k < 2 * n → digit (get_or text (place + k) 0) < 16) → all_digits (take (2 * n) (drop place text)) ≡ true
  front_digits h = digits_all _ (λ k g. let l : k < 2 * n = omega (arith, front_length) in rw (front_at k l) (h k l))

  pub sum_good : ((k : ℕ) → k < 2 * n → digit (get_or text (place + k) 0) < 16) → sum_from text place n ≡ Some (sum_all (bytes_from text place n) % 256)
  unfolding sum_from
  sum_good h = rw (front_digits h)

  front_digit : all_digits (take (2 * n) (drop place text)) ≡ true → (k : ℕ) → k < 2 * n → digit (get_or text (place + k) 0) < 16
  front_digit e k h = omega (arith, digits_at _ e k (omega (arith, front_length)), ap digit (front_at k h))

  pub sum_digits : {sum : ℕ} → Some sum ≡ sum_from text place n → (k : ℕ) → k < 2 * n → digit (get_or text (place + k) 0) < 16
  unfolding sum_from
  sum_digits {sum} s k h = go (all_digits (take (2 * n) (drop place text))) refl s
    where
      go : (b : Bool) → all_digits (take (2 * n) (drop place text)) ≡ b → Some sum ≡ pick b (Some (sum_all (bytes_from text place n) % 256)) None
          → digit (get_or text (place + k) 0) < 16
      go true e s = front_digit e k h
      go false e s = absurd cc

  -- two of them that are not both digits
  pub sum_none : (i : ℕ) → i < n → (16 ≤ digit (get_or text (place + 2 * i) 0)) ⊎ (16 ≤ digit (get_or text (place + 2 * i + 1) 0)) → sum_from text place n ≡ None
  unfolding sum_from
  sum_none i h bad = go (all_digits (take (2 * n) (drop place text))) refl bad
    where
      go : (b : Bool) → all_digits (take (2 * n) (drop place text)) ≡ b → (16 ≤ digit (get_or text (place + 2 * i) 0)) ⊎ (16 ≤ digit (get_or text (place + 2 * i + 1) 0))
          → pick b (Some (sum_all (bytes_from text place n) % 256)) None ≡ None
      go true e (inl g) = absurd (omega (arith, front_digit e (2 * i) (omega arith)))
      go true e (inr g) =
          let low : digit (get_or text (place + 2 * i + 1) 0) < 16 = rw (add_assoc place (2 * i) 1) (front_digit e (2 * i + 1) (omega arith)) in
          absurd (omega arith)
      go false e bad = refl

-- two digits more
digits_more : (text : List ℕ) (place i : ℕ) → ((k : ℕ) → k < 2 * i → digit (get_or text (place + k) 0) < 16)
    → digit (get_or text (place + 2 * i) 0) < 16 → digit (get_or text (place + 2 * i + 1) 0) < 16
    → (k : ℕ) → k < 2 * (i + 1) → digit (get_or text (place + k) 0) < 16
digits_more text place i before high low k h = go (dec_lt k (2 * i)) (ℕ_discrete k (2 * i))
  where
    go : Dec (k < 2 * i) → Dec (k ≡ 2 * i) → digit (get_or text (place + k) 0) < 16
    go (yes l) d = before k l
    go (no l) (yes d) = rw d high
    go (no l) (no d) = let e : place + k ≡ place + 2 * i + 1 = omega arith in rw e low

-- i bytes decoded and summed, and all their digits are digits
pub record Decoding (text : List ℕ) (from : ℕ) (bytes₀ : List ℕ) (i : ℕ) (bytes : List ℕ) (sum : ℕ) : Type 0 where
  pub filled : Filled (λ k. byte_at text (from + 2 * k)) i bytes bytes₀
  pub summed : sum ≡ sum_all (bytes_from text from i) % 256
  pub digits : (k : ℕ) → k < 2 * i → digit (get_or text (from + k) 0) < 16

module _ (text : List ℕ) (from : ℕ) (bytes₀ : List ℕ) where
  decoding_none : Decoding text from bytes₀ 0 bytes₀ 0
  unfolding sum_all tabulate
  decoding_none = record { filled = filled_none _ bytes₀; summed = refl; digits = λ k h. absurd (omega arith) }

  module _ {i : ℕ} {bytes : List ℕ} {sum : ℕ} (so_far : Decoding text from bytes₀ i bytes sum) where
    decoding_more : (byte sum' : ℕ) → i < length bytes₀ → digit (get_or text (from + 2 * i) 0) < 16 → digit (get_or text (from + 2 * i + 1) 0) < 16
        → byte ≡ byte_at text (from + 2 * i) → sum' ≡ (sum + byte) % 256 → Decoding text from bytes₀ (i + 1) (set bytes i byte) sum'
    decoding_more byte sum' h high low is added =
        record {
          filled = filled_more _ i bytes bytes₀ byte h is so_far.filled;
          summed = sum_more i (λ k. byte_at text (from + 2 * k)) sum byte sum' so_far.summed is added;
          digits = digits_more text from i so_far.digits high low;
        }

    decoding_all : i ≡ length bytes₀ → from + 2 * length bytes₀ ≤ length text → Decoded text from (length bytes₀) bytes (Some sum)
    decoding_all e reaches =
        record {
          summed =
              ap Some (so_far.summed ∙ ap (λ m. sum_all (bytes_from text from m) % 256) e)
              ∙ sym (sum_good text from (length bytes₀) reaches (λ k h. so_far.digits k (omega arith)));
          spelled = λ s g. is_tabulate 0 (length bytes₀) (λ k. byte_at text (from + 2 * k)) bytes so_far.filled.size (λ k h. so_far.filled.done k (omega arith));
        }

-- i bytes read, digits or not: the bits of all values tell, as what is no digit has a value above 15
pub record Spelling (text : List ℕ) (from : ℕ) (bytes₀ : List ℕ) (i : ℕ) (bytes : List ℕ) (sum all : ℕ) : Type 0 where
  pub good : all ≤ 15 → Decoding text from bytes₀ i bytes sum
  pub bad : 15 < all → sum_from text from (length bytes₀) ≡ None

module _ (text : List ℕ) (from : ℕ) (bytes₀ : List ℕ) (reaches : from + 2 * length bytes₀ ≤ length text) where
  pub spelling_none : Spelling text from bytes₀ 0 bytes₀ 0 0
  spelling_none = record { good = λ h. decoding_none text from bytes₀; bad = λ h. absurd (omega arith) }

  module _ {i : ℕ} {bytes : List ℕ} {sum all : ℕ} (so_far : Spelling text from bytes₀ i bytes sum all) where
    pub spelling_more : (high low byte sum' all' : ℕ) → i < length bytes₀ → high ≡ digit (get_or text (from + 2 * i) 0) → low ≡ digit (get_or text (from + 2 * i + 1) 0)
        → byte ≡ 16 * (high % 16) + low % 16 → sum' ≡ (sum + byte) % 256 → all' ≡ bit_or all (bit_or high low)
        → Spelling text from bytes₀ (i + 1) (set bytes i byte) sum' all'
    spelling_more high low byte sum' all' room is_high is_low is added joined =
        record {
          good = λ g.
              let parts = or_above all (bit_or high low) 15 (omega (arith, joined)) in
              let both = or_above high low 15 parts.1 in
              decoding_more text from bytes₀ (so_far.good parts.0) byte sum' room (omega (arith, both)) (omega (arith, both)) (omega (arith, both)) added;
          bad = λ g. go (dec_lt 15 all) (dec_lt 15 high) (dec_lt 15 low) (omega (arith, joined));
        }
      where
        go : Dec (15 < all) → Dec (15 < high) → Dec (15 < low) → 15 < bit_or all (bit_or high low) → sum_from text from (length bytes₀) ≡ None
        go (yes a) b c g = so_far.bad a
        go (no a) (yes b) c g = sum_none text from (length bytes₀) reaches i room (inl (omega arith))
        go (no a) (no b) (yes c) g = sum_none text from (length bytes₀) reaches i room (inr (omega arith))
        go (no a) (no b) (no c) g = absurd (omega (arith, or_lt 4 all (bit_or high low) (omega arith) (or_lt 4 high low (omega arith) (omega arith))))

    pub spelling_all : all ≤ 15 → i ≡ length bytes₀ → Decoded text from (length bytes₀) bytes (Some sum)
    spelling_all h e = decoding_all text from bytes₀ (so_far.good h) e reaches

-- whether none of i + 1 numbers passes a test: not where the last does, and else as for those before it
module _ (i : ℕ) (test : ℕ → Bool) where
  none_ends : test i ≡ true → false ≡ eqb (first_of (i + 1) test) (i + 1)
  none_ends e = sym (ne_eqb _ _ (λ (d : first_of (i + 1) test ≡ i + 1). false≢true (sym (first_before (i + 1) test i (omega arith)) ∙ e)))

  none_more : test i ≡ false → eqb (first_of i test) i ≡ eqb (first_of (i + 1) test) (i + 1)
  none_more e = go (ℕ_discrete (first_of i test) i)
    where
      go : Dec (first_of i test ≡ i) → eqb (first_of i test) i ≡ eqb (first_of (i + 1) test) (i + 1)
      go (yes d) =
          eq-eqb _ _ d
          ∙ sym (eq-eqb _ _ (first_none (i + 1) test (below_more (λ k. test k ≡ false) i (λ k h. first_before i test k (omega arith)) e)))
      go (no d) = ne_eqb _ _ d ∙ sym (ne_eqb _ _ (λ (f : first_of (i + 1) test ≡ i + 1). d (first_none i test (λ k h. first_before (i + 1) test k (omega arith)))))

-- i bytes stored over a part of the scratch, and whether none of them was given before
pub record Storing (given part₀ : List ℕ) (i : ℕ) (part : List ℕ) (fresh : Bool) : Type 0 where
  pub tells : fresh ≡ eqb (first_of i (λ k. ltb (get_or part₀ k 0) 256)) i
  pub filled : Filled (λ k. get_or given k 0) i part part₀

module _ (given part₀ : List ℕ) where
  pub storing_none : Storing given part₀ 0 part₀ true
  unfolding first_of
  storing_none = record { tells = refl; filled = filled_none _ part₀ }

  module _ {i : ℕ} {part : List ℕ} {fresh : Bool} (so_far : Storing given part₀ i part fresh) where
    was_given : ℕ → Bool
    was_given k = ltb (get_or part₀ k 0) 256

    pub storing_more : (v : ℕ) (fresh' : Bool) → i < length part₀ → v ≡ get_or given i 0 → fresh' ≡ pick (ltb (get_or part i 0) 256) false fresh
        → Storing given part₀ (i + 1) (set part i v) fresh'
    unfolding was_given
    storing_more v fresh' h e came =
        record {
          tells = came ∙ ap (λ x. pick (ltb x 256) false fresh) (so_far.filled.left i (omega arith)) ∙ go (was_given i) refl;
          filled = filled_more _ i part part₀ v h e so_far.filled;
        }
      where
        go : (b : Bool) → was_given i ≡ b → pick (was_given i) false fresh ≡ eqb (first_of (i + 1) was_given) (i + 1)
        go true d = rw d (none_ends i was_given d)
        go false d = rw d (so_far.tells ∙ none_more i was_given d)

    pub storing_all : i ≡ length part₀ → length given ≡ length part₀ → Stored given part₀ part fresh
    storing_all e same =
        record {
          tells = so_far.tells ∙ ap (λ n. eqb (first_of n (λ k. ltb (get_or part₀ k 0) 256)) n) e;
          holds = ext_get_or 0 part given (so_far.filled.size ∙ sym same) (λ k h. so_far.filled.done k (omega (arith, so_far.filled.size)));
        }
