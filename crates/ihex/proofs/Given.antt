-- What records give, and the scratch in which it is collected: a number below 256 there is a byte that a record gave. So a record that
-- overlaps no earlier one can be stored over the scratch, and the scratch is then that of the records with it.
-- Assumes nothing.
use Rattle.std.proofs.Common.{◌≡◌, ℕ, ◌+◌, ◌-◌, ◌*◌, ◌<◌, ◌≤◌, Bool, true, false, eqb, ltb, List, [], ◌∷◌, ◌++◌, map, length, get_or, take, drop, length-take-le, length-drop, get_or-drop, drop-drop, sym, refl, ap, ◌∙◌, arith, get_or-take, lt-ltb}
use mathlib.Core.Bool.{false≢true}
use native.Mathlib.Decide.{dec_lt}
use lib.ListN.{get_or-eq_default, length-append, get_or-append}
use lib.Seq.{get_or-append-add}
use Rattle.laws.specs.Pick.{pick}
use Rattle.laws.specs.Lists.{tabulate, first_of}
use Rattle.laws.specs.Placing.{span_has, patched}
use Rattle.laws.proofs.Lists.{get_or_tabulate, length_tabulate, tabulate_same, first_same, is_tabulate}
use Rattle.laws.proofs.Placing.{span_has_law, span_before, span_in, span_after}
use Rattle.ihex.specs.Digits.{digit, byte_at, bytes_from}
use Rattle.ihex.specs.Records.{is_shaped, spelled_by, record_of, length_of, address_of, gives, data_at, byte_in, is_given}
use Rattle.ihex.specs.Steps.{Stored, none_given}
use Rattle.ihex.proofs.Shape.{none_bad, digit_later, Fits, shaped_fits}

-- a record of a shaped line: its bytes are bytes, and there are as many as its first asks for
module _ (body : List ℕ) (e : is_shaped body ≡ true) where
  fits : Fits body
  fits = shaped_fits body e

  body_digit : (k : ℕ) → 1 + k < length body → digit (get_or body (1 + k) 0) < 16
  body_digit k h = digit_later k _ (none_bad body fits.clean (1 + k) h)

  spelled_is : spelled_by body ≡ bytes_from body 1 (5 + byte_at body 1)
  unfolding spelled_by
  spelled_is = rw e

  pub spelled_length : length (spelled_by body) ≡ 5 + length_of (spelled_by body)
  spelled_length =
      ap length spelled_is ∙ length_tabulate (5 + byte_at body 1) _
      ∙ ap (λ n. 5 + n) (sym (ap (λ l. get_or l 0 0) spelled_is ∙ get_or_tabulate (5 + byte_at body 1) (λ i. byte_at body (1 + 2 * i)) 0 0 (omega arith)))

  spelled_small : (i : ℕ) → i < 5 + byte_at body 1 → get_or (spelled_by body) i 0 < 256
  spelled_small i h =
      let at : (k : ℕ) (q : ℕ) → q ≡ 1 + k → 1 + k < length body → digit (get_or body q 0) < 16 = λ k q g l. rw g (body_digit k l) in
      rw (ap (λ l. get_or l i 0) spelled_is ∙ get_or_tabulate (5 + byte_at body 1) (λ i. byte_at body (1 + 2 * i)) i 0 h)
      (omega (arith, at (2 * i) (1 + 2 * i) refl (omega (arith, fits.size)), at (2 * i + 1) (1 + 2 * i + 1) (omega arith) (omega (arith, fits.size))))

pub record_small : (body : List ℕ) (i : ℕ) → get_or (spelled_by body) i 0 < 256
unfolding spelled_by
record_small body i = go (is_shaped body) refl (dec_lt i (5 + byte_at body 1))
  where
    go : (b : Bool) → is_shaped body ≡ b → Dec (i < 5 + byte_at body 1) → get_or (spelled_by body) i 0 < 256
    go true e (yes h) = spelled_small body e i h
    go true e (no h) = rw (get_or-eq_default (spelled_by body) 0 {n = i} (omega (arith, ap length (spelled_is body e), length_tabulate (5 + byte_at body 1) (λ i. byte_at body (1 + 2 * i))))) (omega arith)
    go false e d = rw e (omega arith)

-- the scratch tells whether a byte is given
pub scratch_given : (ls : List (List ℕ)) (a : ℕ) → ltb (byte_in 256 (map record_of ls) a) 256 ≡ is_given (map record_of ls) a
unfolding byte_in is_given
scratch_given [] a = refl
scratch_given (l ∷ ls) a = go (gives (record_of l) a) (scratch_given ls a)
  where
    go : (b : Bool) → ltb (byte_in 256 (map record_of ls) a) 256 ≡ is_given (map record_of ls) a
        → ltb (pick b (data_at (record_of l) a) (byte_in 256 (map record_of ls) a)) 256 ≡ pick b true (is_given (map record_of ls) a)
    go true ih = lt-ltb _ _ (record_small _ _)
    go false ih = ih

-- records one after the other
pub in_append : (none : ℕ) (rs ts : List (List ℕ)) (a : ℕ) → byte_in none (rs ++ ts) a ≡ byte_in (byte_in none ts a) rs a
unfolding byte_in
in_append none [] ts a = refl
in_append none (r ∷ rs) ts a = rw (in_append none rs ts a)

pub in_none : (none : ℕ) (rs : List (List ℕ)) (a : ℕ) → is_given rs a ≡ false → byte_in none rs a ≡ none
unfolding byte_in is_given
in_none none [] a e = refl
in_none none (r ∷ rs) a e = go (gives r a) e (in_none none rs a)
  where
    go : (b : Bool) → pick b true (is_given rs a) ≡ false → (is_given rs a ≡ false → byte_in none rs a ≡ none) → pick b (data_at r a) (byte_in none rs a) ≡ none
    go true e ih = absurd (false≢true (sym e))
    go false e ih = ih e

pub in_one : (none : ℕ) (r : List ℕ) (a : ℕ) → byte_in none (r ∷ []) a ≡ pick (gives r a) (data_at r a) none
unfolding byte_in
in_one none r a = refl

-- a record's bytes where the room for one record has them
pub front_at : (r bytes : List ℕ) → take (length r) bytes ≡ r → (i : ℕ) → i < length r → get_or bytes i 0 ≡ get_or r i 0
front_at r bytes front i h = sym (get_or-take (length r) bytes i 0 h) ∙ ap (λ l. get_or l i 0) front

-- the scratch with n bytes, data after a record's first four, stored at an address
pub stored_at : List ℕ → ℕ → ℕ → List ℕ → ℕ → ℕ
stored_at bytes address n scratch a = patched address n (λ i. get_or bytes (4 + i) 0) a (get_or scratch a 0)

-- whether none of n bytes from an address on is given
abbrev pub is_fresh : List ℕ → ℕ → ℕ → Bool
is_fresh scratch address n = eqb (first_of n (λ i. ltb (get_or scratch (address + i) 0) 256)) n

-- n bytes of data laid there, and whether none was given before
pub record Laid (bytes : List ℕ) (n address : ℕ) (before after : List ℕ) (fresh : Bool) : Type 0 where
  pub tells : fresh ≡ is_fresh before address n
  pub stored : fresh ≡ true → after ≡ tabulate 8192 (stored_at bytes address n before)

-- the part of the scratch in which they are stored
module _ (bytes before : List ℕ) (n address : ℕ) (held : 4 + n ≤ length bytes) (whole : length before ≡ 8192) (fits : address + n ≤ 8192) where
  part_length : length (take n (drop address before)) ≡ n
  part_length = length-take-le n (drop address before) (omega (arith, length-drop address before))

  data_length : length (take n (drop 4 bytes)) ≡ n
  data_length = length-take-le n (drop 4 bytes) (omega (arith, length-drop 4 bytes))

  front_length : length (take address before) ≡ address
  front_length = length-take-le address before (omega arith)

  part_tells : none_given (take n (drop address before)) ≡ is_fresh before address n
  part_tells =
      ap (λ m. eqb (first_of m (λ i. ltb (get_or (take n (drop address before)) i 0) 256)) m) part_length
      ∙ ap (λ m. eqb m n) (first_same n _ (λ i. ltb (get_or before (address + i) 0) 256) (λ i h.
      ap (λ x. ltb x 256) (get_or-take n (drop address before) i 0 h ∙ get_or-drop address before i 0)))

  laid_over : List ℕ
  laid_over = take address before ++ (take n (drop 4 bytes) ++ drop (address + n) before)

  over_length : length laid_over ≡ 8192
  unfolding laid_over
  over_length = simp (length-append, length-drop, front_length, data_length) (omega arith)

  over_at : (a : ℕ) → a < 8192 → get_or laid_over a 0 ≡ stored_at bytes address n before a
  unfolding laid_over stored_at patched
  over_at a h = go (dec_lt a address) (dec_lt a (address + n))
    where
      go : Dec (a < address) → Dec (a < address + n)
          → get_or (take address before ++ (take n (drop 4 bytes) ++ drop (address + n) before)) a 0
          ≡ pick (span_has address n a) (get_or bytes (4 + (a - address)) 0) (get_or before a 0)
      go (yes l) d =
          rw (span_before address n a l)
          (get_or-append (take address before) (take n (drop 4 bytes) ++ drop (address + n) before) 0 a (omega (arith, front_length)) ∙ get_or-take address before a 0 l)
      go (no l) (yes m) =
          let here : a ≡ length (take address before) + (a - address) = omega (arith, front_length) in
          rw (span_in address n a (omega arith) m)
          (ap (λ k. get_or (take address before ++ (take n (drop 4 bytes) ++ drop (address + n) before)) k 0) here
          ∙ get_or-append-add (take address before) (take n (drop 4 bytes) ++ drop (address + n) before) (a - address) 0
          ∙ get_or-append (take n (drop 4 bytes)) (drop (address + n) before) 0 (a - address) (omega (arith, data_length))
          ∙ get_or-take n (drop 4 bytes) (a - address) 0 (omega arith) ∙ get_or-drop 4 bytes (a - address) 0)
      go (no l) (no m) =
          let here : a ≡ length (take address before) + (length (take n (drop 4 bytes)) + (a - (address + n))) = omega (arith, front_length, data_length) in
          let there : address + n + (a - (address + n)) ≡ a = omega arith in
          rw (span_after address n a (omega arith))
          (ap (λ k. get_or (take address before ++ (take n (drop 4 bytes) ++ drop (address + n) before)) k 0) here
          ∙ get_or-append-add (take address before) (take n (drop 4 bytes) ++ drop (address + n) before) (length (take n (drop 4 bytes)) + (a - (address + n))) 0
          ∙ get_or-append-add (take n (drop 4 bytes)) (drop (address + n) before) (a - (address + n)) 0
          ∙ get_or-drop (address + n) before (a - (address + n)) 0 ∙ ap (λ k. get_or before k 0) there)

  pub laid : {m k : ℕ} {part : List ℕ} {fresh : Bool} → m ≡ n → k ≡ n → Stored (take m (drop 4 bytes)) (take k (drop address before)) part fresh
      → Laid bytes n address before (take address before ++ (part ++ drop k (drop address before))) fresh
  unfolding laid_over
  laid {m} {k} {part} {fresh} e f stored =
      let whole_part : Stored (take n (drop 4 bytes)) (take n (drop address before)) part fresh = rw (e, f) at stored in
      record {
        tells = whole_part.tells ∙ part_tells;
        stored = λ t.
            ap (λ i. take address before ++ (part ++ drop i (drop address before))) f
            ∙ ap (λ (l : List ℕ). take address before ++ (part ++ l)) (drop-drop n address before)
            ∙ ap (λ (l : List ℕ). take address before ++ (l ++ drop (address + n) before)) whole_part.holds
            ∙ is_tabulate 0 8192 (stored_at bytes address n before) laid_over over_length over_at;
      }

-- a record of which no byte is given yet, stored over what the records before it gave
module _ (rs : List (List ℕ)) (r bytes scratch : List ℕ)
    (front : take (length r) bytes ≡ r) (whole : length r ≡ 5 + length_of r)
    (held : scratch ≡ tabulate 8192 (byte_in 256 rs))
    (fresh : (i : ℕ) → i < length_of r → is_given rs (address_of r + i) ≡ false) where
  stored_same : (a : ℕ) → a < 8192 → stored_at bytes (address_of r) (length_of r) scratch a ≡ byte_in 256 (rs ++ (r ∷ [])) a
  unfolding gives stored_at patched
  stored_same a h = go (span_has (address_of r) (length_of r) a) refl ∙ sym (in_append 256 rs (r ∷ []) a ∙ ap (λ n. byte_in n rs a) (in_one 256 r a))
    where
      go : (b : Bool) → span_has (address_of r) (length_of r) a ≡ b
          → pick b (get_or bytes (4 + (a - address_of r)) 0) (get_or scratch a 0) ≡ byte_in (pick b (data_at r a) 256) rs a
      go true e =
          let within = span_has_law (address_of r) (length_of r) a e in
          let at : address_of r + (a - address_of r) ≡ a = omega arith in
          front_at r bytes front (4 + (a - address_of r)) (omega arith)
          ∙ sym (in_none (data_at r a) rs a (rw (← at) (fresh (a - address_of r) (omega arith))))
      go false e = ap (λ l. get_or l a 0) held ∙ get_or_tabulate 8192 (byte_in 256 rs) a 0 h

  pub stored_all : tabulate 8192 (stored_at bytes (address_of r) (length_of r) scratch) ≡ tabulate 8192 (byte_in 256 (rs ++ (r ∷ [])))
  stored_all = tabulate_same 8192 _ _ stored_same
