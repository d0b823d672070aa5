-- What each claim says at some places, in numbers. A case takes the claim for its argument, so that a claim that says something else there is refused
-- with what it says. At one place of each case what the claim asks is so; a place that the claim leaves out stands with the premise that is false there,
-- and the falsehood that it keeps away.
-- Assumes nothing.
use Prim.Native.Nat.{ℕ, zero, suc, ◌+◌, ◌<◌}
use mathlib.Core.Path.{◌≡◌, refl, sym, ◌∙◌, ap, subst}
use mathlib.Core.Bool.{true, false}
use mathlib.Core.List.{List, [], ◌∷◌, ◌++◌, flat_map}
use mathlib.Core.Logic.{inl, inr}
use native.Mathlib.Omega.{arith}
use lib.ListN.{get_or}
use Rattle.laws.specs.Said.{Said, accepted, refused}
use Rattle.laws.specs.Lists.{tabulate, first_of}
use Rattle.laws.specs.Sums.{sum_all}
use Rattle.laws.proofs.Lists.{get_or_tabulate}
use Rattle.ihex.specs.Digits.{digit}
use Rattle.ihex.specs.Lines.{LF, CR, lines, at_end, body_of}
use Rattle.ihex.specs.Records.{belongs, is_shaped, spelled_by, records, is_end, gives, byte_in, is_given, fault_of}
use Rattle.ihex.specs.Reading.{fault_said, judged, image_in}
use Rattle.textlaws.specs.Alike.{Line}
use Rattle.textlaws.specs.Laws.{SameVerdict, SameImage, CasesAlike, AlikeSpells, AlikeRecords, AlikeSame, EndedBody, WrittenAlike, OrderSame}

-- two numbers, and two lists of them
infix 4 ◌is◌ ◌are◌
abbrev ◌is◌ : ℕ → ℕ → Type 0
m is n = m ≡ n

abbrev ◌are◌ : List ℕ → List ℕ → Type 0
l are m = l ≡ m

-- :010A000012E3, which gives the byte 18 at address 2560; the same with a small letter; the same with 6656 for its address; :010A000034C1; and
-- :010A010034C0, which gives 52 at address 2561
abbrev one : List ℕ
one = 58 ∷ 48 ∷ 49 ∷ 48 ∷ 65 ∷ 48 ∷ 48 ∷ 48 ∷ 48 ∷ 49 ∷ 50 ∷ 69 ∷ 51 ∷ []

abbrev small : List ℕ
small = 58 ∷ 48 ∷ 49 ∷ 48 ∷ 97 ∷ 48 ∷ 48 ∷ 48 ∷ 48 ∷ 49 ∷ 50 ∷ 69 ∷ 51 ∷ []

abbrev far : List ℕ
far = 58 ∷ 48 ∷ 49 ∷ 49 ∷ 65 ∷ 48 ∷ 48 ∷ 48 ∷ 48 ∷ 49 ∷ 50 ∷ 69 ∷ 51 ∷ []

abbrev other : List ℕ
other = 58 ∷ 48 ∷ 49 ∷ 48 ∷ 65 ∷ 48 ∷ 48 ∷ 48 ∷ 48 ∷ 51 ∷ 52 ∷ 67 ∷ 49 ∷ []

abbrev next : List ℕ
next = 58 ∷ 48 ∷ 49 ∷ 48 ∷ 65 ∷ 48 ∷ 49 ∷ 48 ∷ 48 ∷ 51 ∷ 52 ∷ 67 ∷ 48 ∷ []

-- :00000001FF
abbrev last : List ℕ
last = 58 ∷ 48 ∷ 48 ∷ 48 ∷ 48 ∷ 48 ∷ 48 ∷ 48 ∷ 49 ∷ 70 ∷ 70 ∷ []

-- a line with LF, and with CR LF
abbrev line : List ℕ → List ℕ
line body = body ++ (LF ∷ [])

abbrev crlf : List ℕ → List ℕ
crlf body = body ++ (CR ∷ LF ∷ [])

-- the record of the first of these lines
abbrev its : List ℕ
its = 1 ∷ 10 ∷ 0 ∷ 0 ∷ 18 ∷ 227 ∷ []

-- what is so at n is so at each number that can only be n
sole : (P Q : ℕ → Type 0) (n : ℕ) → P n → ((k : ℕ) → Q k → k ≡ n) → (k : ℕ) → Q k → P k
sole P Q n at only k h = subst P (sym (only k h)) at

-- what is so at 0 and at 1 is so below 2; and with 2, below 3
two : (P : ℕ → Type 0) → P 0 → P 1 → (k : ℕ) → k < 2 → P k
two P a b zero h = a
two P a b (suc zero) h = b
two P a b (suc (suc k)) h = absurd (omega arith)

three : (P : ℕ → Type 0) → P 0 → P 1 → P 2 → (k : ℕ) → k < 3 → P k
three P a b d zero h = a
three P a b d (suc zero) h = b
three P a b d (suc (suc zero)) h = d
three P a b d (suc (suc (suc k))) h = absurd (omega arith)

-- what is so at 0, at 1, at 2, at 3 and at each number after these is so at all
fourth : (P : ℕ → Type 0) → P 0 → P 1 → P 2 → P 3 → ((k : ℕ) → P (suc (suc (suc (suc k))))) → (k : ℕ) → P k
fourth P a b d e more zero = a
fourth P a b d e more (suc zero) = b
fourth P a b d e more (suc (suc zero)) = d
fourth P a b d e more (suc (suc (suc zero))) = e
fourth P a b d e more (suc (suc (suc (suc k)))) = more k

after_first : (k : ℕ) → 1 + k ≡ suc k
after_first k = omega arith

after_fourth : (k : ℕ) → 1 + suc (suc (suc (suc k))) ≡ suc (suc (suc (suc (suc k))))
after_fourth k = omega arith

-- a colon behind a line is no digit, as what stands behind its end is none
colon_behind : (l : List ℕ) (k : ℕ) → digit (get_or l k 0) ≡ digit (get_or (l ++ (58 ∷ [])) k 0)
unfolding digit
colon_behind [] zero = refl
colon_behind [] (suc k) = refl
colon_behind (c ∷ l) zero = refl
colon_behind (c ∷ l) (suc k) = colon_behind l k

-- of two images that are the same, the bytes at address 2560
their_bytes : (text text' : List ℕ) → image_in text ≡ image_in text' → byte_in 255 (records text) 2560 ≡ byte_in 255 (records text') 2560
their_bytes text text' same = sym (at text) ∙ ap (λ (image : List ℕ). get_or image 2560 0) same ∙ at text'
  where
    at : (text : List ℕ) → get_or (image_in text) 2560 0 ≡ byte_in 255 (records text) 2560
    at text = get_or_tabulate 8192 (byte_in 255 (records text)) 2560 0 (omega arith)

-- a text that is accepted with a count of 1, and the same with a small letter; that text, and one with other records and a count of 0; and a text that
-- is refused, as it has no end record
pub same_verdict_case : SameVerdict → (1 is 1) × ((its ∷ (0 ∷ 0 ∷ 0 ∷ 1 ∷ 255 ∷ []) ∷ []) ≡ ((0 ∷ 0 ∷ 0 ∷ 1 ∷ 255 ∷ []) ∷ []) → 0 is 1) × (refused 12 14 ≡ accepted 1 → 12 is 0)
unfolding tabulate first_of sum_all digit lines at_end body_of belongs is_shaped spelled_by is_end is_given fault_of fault_said judged
same_verdict_case claim = (
  ap (λ (a : Said). a.value) (claim (line one ++ line last) (line small ++ line last) 1 refl refl),
  λ same. ap (λ (a : Said). a.value) (claim (line one ++ line last) (line last) 1 same refl),
  λ good. ap (λ (a : Said). a.number) (claim (line one) (line one) 1 refl good),
)

-- a text and the same with a small letter; and two texts of a line each, with different records
pub same_image_case : SameImage → (18 is 18) × ((its ∷ []) ≡ ((1 ∷ 10 ∷ 0 ∷ 0 ∷ 52 ∷ 193 ∷ []) ∷ []) → 18 is 52)
unfolding tabulate first_of digit lines at_end body_of belongs is_shaped spelled_by gives byte_in
same_image_case claim =
    (their_bytes (line one) (line small) (claim (line one) (line small) refl), λ same. their_bytes (line one) (line other) (claim (line one) (line other) same))

-- F and f; and a, a digit that is no large letter. Between the two the bound says nothing: from G and g on, neither is a digit.
pub cases_alike_case : CasesAlike → (15 is 15) × (32 < 6 → 10 is 16)
unfolding digit
cases_alike_case claim = (claim 5 (omega arith), claim 32)

-- a line and the same with a small letter; with 1 for a digit that is 0; with a colon behind it; and with a semicolon for its colon
pub alike_spells_case : AlikeSpells → (its are its) × (0 is 1 → 10 is 26) × (13 is 14 → its are []) × (58 is 59 → its are [])
unfolding tabulate first_of digit belongs is_shaped spelled_by
alike_spells_case claim = (
  claim one small (record { size = refl; first = refl; digits = fourth _ refl refl refl refl (λ k. rw (after_fourth k)) }),
  λ differ. ap (λ (r : List ℕ). get_or r 1 0) (claim one far (record { size = refl; first = refl; digits = fourth _ refl refl differ refl (λ k. rw (after_fourth k)) })),
  λ longer. claim one (one ++ (58 ∷ [])) (record { size = longer; first = refl; digits = λ k. colon_behind one (1 + k) }),
  λ begins. claim one (59 ∷ 48 ∷ 49 ∷ 48 ∷ 65 ∷ 48 ∷ 48 ∷ 48 ∷ 48 ∷ 49 ∷ 50 ∷ 69 ∷ 51 ∷ []) (record { size = refl; first = begins; digits = λ k. rw (after_first k) }),
)

-- texts of such a line: with a small letter and CR LF; with 1 for 0; and with a line more
pub alike_records_case : AlikeRecords → (its are its) × (0 is 1 → 10 is 26) × (1 is 2 → 0 is 1)
unfolding tabulate first_of digit lines at_end body_of belongs is_shaped spelled_by
alike_records_case claim = (
  ap (λ (rs : List (List ℕ)). get_or rs 0 []) (claim (line one) (crlf small) (record {
    size = refl;
    each = sole _ _ 0 (record { size = refl; first = refl; digits = fourth _ refl refl refl refl (λ k. rw (after_fourth k)) }) (λ k h. omega arith);
  })),
  λ differ. ap (λ (rs : List (List ℕ)). get_or (get_or rs 0 []) 1 0) (claim (line one) (line far) (record {
    size = refl;
    each = sole _ _ 0 (record { size = refl; first = refl; digits = fourth _ refl refl differ refl (λ k. rw (after_fourth k)) }) (λ k h. omega arith);
  })),
  λ more. ap (λ (rs : List (List ℕ)). get_or (get_or rs 1 []) 3 0) (claim (line one) (line one ++ line last) (record {
    size = more;
    each = sole _ _ 0 (record { size = refl; first = refl; digits = λ k. refl }) (λ k h. omega arith);
  })),
)

-- the count and the byte at address 2560 of a text, and of the same with a small letter and CR LF; with 1 for 0, which is refused by 8; and a text that is
-- refused
pub alike_same_case : AlikeSame → ((1 is 1) × (18 is 18)) × (0 is 1 → (8 is 0) × (18 is 255)) × (refused 12 14 ≡ accepted 1 → 12 is 0)
unfolding tabulate first_of sum_all digit lines at_end body_of belongs is_shaped spelled_by is_end is_given gives byte_in fault_of fault_said judged
alike_same_case claim = (
  let same = claim (line one ++ line last) (crlf small ++ line last) (record {
    size = refl;
    each = two _ (record { size = refl; first = refl; digits = fourth _ refl refl refl refl (λ k. rw (after_fourth k)) }) (record { size = refl; first = refl; digits = λ k. refl });
  }) in
      (ap (λ (a : Said). a.value) (same.0 1 refl), their_bytes (line one ++ line last) (crlf small ++ line last) same.1),
  λ differ.
      let same = claim (line one ++ line last) (line far ++ line last) (record {
        size = refl;
        each = two _ (record { size = refl; first = refl; digits = fourth _ refl refl differ refl (λ k. rw (after_fourth k)) }) (record { size = refl; first = refl; digits = λ k. refl });
      }) in
      (ap (λ (a : Said). a.number) (same.0 1 refl), their_bytes (line one ++ line last) (line far ++ line last) same.1),
  λ good. ap (λ (a : Said). a.number) ((claim (line one) (line one) (record { size = refl; each = λ k h. record { size = refl; first = refl; digits = λ j. refl } })).0 1 good),
)

-- a colon and CR LF; a colon and a lone CR, which is no end; and an LF for a body
pub ended_body_case : EndedBody → ((58 ∷ []) are (58 ∷ [])) × (false ≡ true → (58 ∷ 13 ∷ []) are (58 ∷ [])) × ((10 is 10 → ⊥) × (10 is 13 → ⊥) → [] are (10 ∷ []))
unfolding at_end body_of
ended_body_case claim = (
  claim (58 ∷ []) (CR ∷ LF ∷ []) (sole _ _ 0 (λ e. omega arith, λ e. omega arith) (λ k h. omega arith)) refl,
  claim (58 ∷ []) (CR ∷ []) (sole _ _ 0 (λ e. omega arith, λ e. omega arith) (λ k h. omega arith)),
  λ plain. claim (LF ∷ []) [] (sole _ _ 0 plain (λ k h. omega arith)) refl,
)

abbrev empty : Line
empty = record { body = []; end = LF ∷ [] }

-- a colon and A with LF, and a colon and a with CR LF: one line each, and the digit 10; an empty line without an end, and one with an LF; one such line,
-- and two; and a line of a colon, and of two
pub written_alike_case : WrittenAlike → ((1 is 1) × (10 is 10)) × (0 < 0 → 0 is 1) × (1 is 2 → 1 is 2) × (1 is 2 → 1 is 2)
unfolding digit lines at_end body_of flat_map
written_alike_case claim = (
  let same =
      claim (record { body = 58 ∷ 65 ∷ []; end = LF ∷ [] } ∷ []) (record { body = 58 ∷ 97 ∷ []; end = CR ∷ LF ∷ [] } ∷ [])
      (record { plain = sole _ _ 0 (two _ (λ e. omega arith, λ e. omega arith) (λ e. omega arith, λ e. omega arith)) (λ k h. omega arith); ends = λ k h. absurd (omega arith); last = sole _ _ 0 (inl (inl refl)) (λ k h. omega arith) })
      (record { plain = sole _ _ 0 (two _ (λ e. omega arith, λ e. omega arith) (λ e. omega arith, λ e. omega arith)) (λ k h. omega arith); ends = λ k h. absurd (omega arith); last = sole _ _ 0 (inl (inr refl)) (λ k h. omega arith) })
      refl (sole _ _ 0 (record { size = refl; first = refl; digits = fourth _ refl refl refl refl (λ k. rw (after_fourth k)) }) (λ k h. omega arith)) in
      (same.size, (same.each 0 (omega arith)).digits 0),
  λ long.
      (claim (record { body = []; end = [] } ∷ []) (empty ∷ [])
      (record { plain = sole _ _ 0 (λ j h. absurd (omega arith)) (λ k h. omega arith); ends = λ k h. absurd (omega arith); last = sole _ _ 0 (inr (refl, long)) (λ k h. omega arith) })
      (record { plain = sole _ _ 0 (λ j h. absurd (omega arith)) (λ k h. omega arith); ends = λ k h. absurd (omega arith); last = sole _ _ 0 (inl (inl refl)) (λ k h. omega arith) })
      refl (sole _ _ 0 (record { size = refl; first = refl; digits = λ k. refl }) (λ k h. omega arith))).size,
  λ more.
      (claim (empty ∷ []) (empty ∷ empty ∷ [])
      (record { plain = sole _ _ 0 (λ j h. absurd (omega arith)) (λ k h. omega arith); ends = λ k h. absurd (omega arith); last = sole _ _ 0 (inl (inl refl)) (λ k h. omega arith) })
      (record { plain = two _ (λ j h. absurd (omega arith)) (λ j h. absurd (omega arith)); ends = sole _ _ 0 (inl refl) (λ k h. omega arith); last = sole _ _ 1 (inl (inl refl)) (λ k h. omega arith) })
      more (sole _ _ 0 (record { size = refl; first = refl; digits = λ k. refl }) (λ k h. omega arith))).size,
  λ longer.
      ((claim (record { body = 58 ∷ []; end = LF ∷ [] } ∷ []) (record { body = 58 ∷ 58 ∷ []; end = LF ∷ [] } ∷ [])
      (record { plain = sole _ _ 0 (sole _ _ 0 (λ e. omega arith, λ e. omega arith) (λ k h. omega arith)) (λ k h. omega arith); ends = λ k h. absurd (omega arith); last = sole _ _ 0 (inl (inl refl)) (λ k h. omega arith) })
      (record { plain = sole _ _ 0 (two _ (λ e. omega arith, λ e. omega arith) (λ e. omega arith, λ e. omega arith)) (λ k h. omega arith); ends = λ k h. absurd (omega arith); last = sole _ _ 0 (inl (inl refl)) (λ k h. omega arith) })
      refl (sole _ _ 0 (record { size = longer; first = refl; digits = λ k. colon_behind (58 ∷ []) (1 + k) }) (λ k h. omega arith))).each 0 (omega arith)).size,
)

-- 0 and 1 change places
swap : ℕ → ℕ
swap zero = 1
swap (suc zero) = 0
swap (suc (suc k)) = suc (suc k)

swap_swap : (k : ℕ) → swap (swap k) ≡ k
unfolding swap
swap_swap zero = refl
swap_swap (suc zero) = refl
swap_swap (suc (suc k)) = refl

swap_within : (k : ℕ) → k + 1 < 3 → swap k + 1 < 3
unfolding swap
swap_within zero h = omega arith
swap_within (suc zero) h = omega arith
swap_within (suc (suc k)) h = absurd (omega arith)

-- a text that is accepted, and the same with its end record first, which is refused by 12; the count and the byte at address 2560 of a text with two data
-- records, and with these exchanged; a text, and one with another record for its first; with a second end record; and a text that is refused
pub order_same_case : OrderSame → (2 < 2 → 0 is 1 → 12 is 0) × ((2 is 2) × (18 is 18)) × ((1 ∷ 10 ∷ 0 ∷ 0 ∷ 52 ∷ 193 ∷ []) are its → 18 is 52) × (2 is 3 → 12 is 0) × (refused 12 14 ≡ accepted 1 → 12 is 0)
unfolding tabulate first_of sum_all digit lines at_end body_of belongs is_shaped spelled_by is_end is_given gives byte_in fault_of fault_said judged swap
order_same_case claim = (
  λ within last_stays. ap (λ (a : Said). a.number) (claim (line one ++ line last) (line last ++ line one) 1 (record {
    size = refl;
    to = swap;
    from = swap;
    from_to = swap_swap;
    to_from = swap_swap;
    within = sole _ _ 0 within (λ k h. omega arith);
    back = sole _ _ 0 within (λ k h. omega arith);
    last = sole _ _ 1 last_stays (λ k h. omega arith);
    same = two _ refl refl;
  }) refl).0,
  let same = claim (line one ++ (line next ++ line last)) (line next ++ (line one ++ line last)) 2 (record {
    size = refl;
    to = swap;
    from = swap;
    from_to = swap_swap;
    to_from = swap_swap;
    within = swap_within;
    back = swap_within;
    last = sole _ _ 2 refl (λ k h. omega arith);
    same = three _ refl refl refl;
  }) refl in
      (ap (λ (a : Said). a.value) same.0, their_bytes (line one ++ (line next ++ line last)) (line next ++ (line one ++ line last)) same.1),
  λ equal. their_bytes (line one ++ line last) (line other ++ line last) (claim (line one ++ line last) (line other ++ line last) 1 (record {
    size = refl;
    to = λ j. j;
    from = λ j. j;
    from_to = λ j. refl;
    to_from = λ j. refl;
    within = λ j h. omega arith;
    back = λ j h. omega arith;
    last = λ j h. refl;
    same = two _ equal refl;
  }) refl).1,
  λ longer. ap (λ (a : Said). a.number) (claim (line one ++ line last) (line one ++ (line last ++ line last)) 1 (record {
    size = longer;
    to = λ j. j;
    from = λ j. j;
    from_to = λ j. refl;
    to_from = λ j. refl;
    within = λ j h. omega arith;
    back = λ j h. omega arith;
    last = λ j h. refl;
    same = two _ refl refl;
  }) refl).0,
  λ good. ap (λ (a : Said). a.number) (claim (line one) (line one) 1 (record {
    size = refl;
    to = λ j. j;
    from = λ j. j;
    from_to = λ j. refl;
    to_from = λ j. refl;
    within = λ j h. omega arith;
    back = λ j h. omega arith;
    last = λ j h. refl;
    same = λ j h. refl;
  }) good).0,
)
