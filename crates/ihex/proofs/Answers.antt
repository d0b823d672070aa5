-- The reader's answers at a line of the record's shape, in the values that the code has: the eight-bit sum and the next line's place as
-- parsed, and the record's bytes in the room for one record. Each is the verdict, or the next turn's start.
-- Assumes nothing.
use Rattle.std.proofs.Common.{◌≡◌, ℕ, ◌+◌, ◌*◌, ◌<◌, ◌≤◌, Bool, true, false, Some, None, Result, Ok, ltb, List, [], ◌∷◌, ◌++◌, length, get_or, take, drop, sym, ap, ◌∙◌, add-one, arith, take_all, take-suc, le-ltb, eqb-true, le-leb}
use native.Mathlib.Decide.{ℕ_discrete}
use borrow.Author.Tests.{eqb-false}
use Rattle.laws.specs.Pick.{pick}
use Rattle.laws.specs.Said.{accepted, refused}
use Rattle.laws.specs.Lists.{tabulate, first_of}
use Rattle.laws.proofs.Lists.{first_most, tabulate_same}
use Rattle.laws.proofs.Said.{number_of, said_by}
use Rattle.ihex.specs.Lines.{body_of}
use Rattle.ihex.specs.Records.{has_bad, records, is_shaped, length_of, address_of, type_of, sum_of, is_end, fresh_in, fault_of, byte_in, gives, data_at}
use Rattle.ihex.specs.Reading.{said, fault_said, verdict}
use Rattle.ihex.specs.Steps.{Collected, Parsed, record_at, next_at, line_at}
use Rattle.ihex.specs.declared.Line.{Line}
use Rattle.ihex.specs.declared.ReadError.{ReadError}
use Rattle.ihex.proofs.Faults.{fault_told, fault_shape, is_end_law, other_type, long_end, far_end, fault_sum, fault_type, fault_end, fault_past, fault_twice, fault_none}
use Rattle.ihex.proofs.Shape.{shaped_fits}
use Rattle.ihex.proofs.Given.{front_at, in_append, in_one, Laid}
use Rattle.ihex.proofs.Passed.{Passed, line_shaped, line_unshaped, verdict_over, k_below, record_here, whole_here, next_fits, is_last, not_last, verdict_fault, verdict_more, verdict_done, fresh_here, passed_more}

-- the line at this place, parsed; its record's bytes stand in the room for one record
pub record Met (text : List ℕ) (at count : ℕ) (scratch bytes : List ℕ) (here : Line) : Type 0 where
  pub before : Passed text at count scratch
  pub more : at < length text
  pub line : Some here ≡ line_at text at
  pub front : take (length (record_at text at)) bytes ≡ record_at text at

-- a refusal is an answer by its number and place
pub refused_by : {text scratch : List ℕ} {x : Result ℕ ReadError} {number place : ℕ} → refused number place ≡ verdict text
    → ((said x).number ≡ number) × ((said x).place ≡ place) × ((said x).value ≡ 0) × (0 < number) → Collected text scratch x
refused_by is (number, place, value, some) = record { says = said_by is number place value; held = λ e. absurd (omega arith) }

-- a line without a bad character is told by its record
clean_said : (body : List ℕ) (place number : ℕ) → has_bad body ≡ false → fault_said body place number ≡ refused number place
unfolding fault_said
clean_said body place number clean = rw clean

module _ {text : List ℕ} {at count : ℕ} {scratch : List ℕ} (before : Passed text at count scratch) where
  pub over : length text ≤ at → refused 12 at ≡ verdict text
  over h = sym (verdict_over text at count scratch before h)

  module _ (more : at < length text) {bytes : List ℕ} where
    pub meets : {here : Line} → Parsed text at bytes (Some here) → Met text at count scratch bytes here
    meets parsed = record { before = before; more = more; line = parsed.line; front = parsed.front }

    pub meets_none : {x : Result ℕ ReadError} → Parsed text at bytes None → said x ≡ fault_said (body_of (drop at text)) at 20 → Collected text scratch x
    meets_none parsed is =
        record {
          says = is ∙ sym (verdict_fault text at count scratch before more 20 (omega arith) (fault_shape _ _ (line_unshaped text at parsed.line)));
          held = λ e. absurd (omega (arith, number_of is, fault_told (body_of (drop at text)) at 20 (omega arith)));
        }

module _ {text : List ℕ} {at count : ℕ} {scratch bytes : List ℕ} {here : Line} (met : Met text at count scratch bytes here) where
  abbrev sum : ℕ
  sum = here.sum

  abbrev next : ℕ
  next = here.next

  abbrev before : Passed text at count scratch
  before = met.before

  abbrev more : at < length text
  more = met.more

  shaped : is_shaped (body_of (drop at text)) ≡ true
  shaped = (line_shaped text at here met.line).0

  next_is : next ≡ next_at text at
  next_is = (line_shaped text at here met.line).2

  whole : length (record_at text at) ≡ 5 + length_of (record_at text at)
  whole = whole_here text at count scratch before more shaped

  some : 0 < length (record_at text at)
  some = omega (arith, whole)

  byte : (i : ℕ) → i < 5 → get_or bytes i 0 ≡ get_or (record_at text at) i 0
  byte i h = front_at (record_at text at) bytes met.front i (omega (arith, whole))

  address_is : 256 * get_or bytes 1 0 + get_or bytes 2 0 ≡ address_of (record_at text at)
  address_is = omega (arith, byte 1 (omega arith), byte 2 (omega arith))

  fault_is : (f : ℕ) → 0 < f → fault_of (take before.k (records text)) (record_at text at) ≡ f → refused f at ≡ verdict text
  fault_is f h e = sym (verdict_fault text at count scratch before more f h e ∙ clean_said _ at f (shaped_fits _ shaped).clean)

  pub met_next : (next ≤ length text) × (at + 11 + 2 * get_or bytes 0 0 ≤ next)
  met_next =
      let fits = next_fits text at count scratch before more shaped in
      (omega (arith, fits.0, next_is), omega (arith, fits.1, next_is, byte 0 (omega arith)))

  pub met_sum : (sum ≡ 0 → ⊥) → refused 8 at ≡ verdict text
  met_sum h = fault_is 8 (omega arith) (fault_sum _ _ some (λ e. h ((line_shaped text at here met.line).1 ∙ e)))

  module _ (zero_sum : sum ≡ 0) where
    summed : sum_of (record_at text at) ≡ 0
    summed = sym (line_shaped text at here met.line).1 ∙ zero_sum

    -- the end record's type
    module _ (kind : get_or bytes 3 0 ≡ 1) where
      typed : type_of (record_at text at) ≡ 1
      typed = sym (byte 3 (omega arith)) ∙ kind

      not_zero : type_of (record_at text at) ≡ 0 → ⊥
      not_zero e = omega (arith, typed)

      met_long_end : (get_or bytes 0 0 ≡ 0 → ⊥) → refused 9 at ≡ verdict text
      met_long_end h = fault_is 9 (omega arith) (fault_type _ _ some summed (long_end _ typed (λ e. h (byte 0 (omega arith) ∙ e))) not_zero)

      module _ (no_data : get_or bytes 0 0 ≡ 0) where
        empty : length_of (record_at text at) ≡ 0
        empty = sym (byte 0 (omega arith)) ∙ no_data

        met_far_end : (256 * get_or bytes 1 0 + get_or bytes 2 0 ≡ 0 → ⊥) → refused 9 at ≡ verdict text
        met_far_end h = fault_is 9 (omega arith) (fault_type _ _ some summed (far_end _ typed empty (λ e. h (address_is ∙ e))) not_zero)

        module _ (at_zero : 256 * get_or bytes 1 0 + get_or bytes 2 0 ≡ 0) where
          ended : is_end (record_at text at) ≡ true
          ended = is_end_law _ typed empty (sym address_is ∙ at_zero)

          good : fault_of (take before.k (records text)) (record_at text at) ≡ 0
          good = fault_end _ _ some summed ended

          met_more : next < length text → refused 12 next ≡ verdict text
          met_more h =
              rw next_is
              (sym (verdict_more text at count scratch before more good ended (not_last text at count scratch before more shaped (rw next_is at h))))

          met_done : length text ≤ next → accepted count ≡ verdict text
          met_done h = sym (verdict_done text at count scratch before more good ended (is_last text at count scratch before more shaped (rw next_is at h)) empty)

          -- the end record gives no byte, so the scratch holds all that the records give
          met_all : length text ≤ next → scratch ≡ tabulate 8192 (byte_in 256 (records text))
          unfolding gives
          met_all h =
              let last = is_last text at count scratch before more shaped (rw next_is at h) in
              let below = k_below text at count scratch before more in
              before.held
              ∙ tabulate_same 8192 _ _ (λ a g.
              sym (ap (λ (rs : List (List ℕ)). byte_in 256 rs a)
              (sym (take_all (before.k + 1) (records text) last) ∙ ap (λ m. take m (records text)) (add-one before.k) ∙ take-suc (records text) before.k [] below
              ∙ ap (λ (r : List ℕ). take before.k (records text) ++ (r ∷ [])) (record_here text at count scratch before more))
              ∙ in_append 256 (take before.k (records text)) (record_at text at ∷ []) a
              ∙ ap (λ n. byte_in n (take before.k (records text)) a)
              (in_one 256 (record_at text at) a ∙ nothing a)))
            where
              nothing : (a : ℕ) → pick (gives (record_at text at) a) (data_at (record_at text at) a) 256 ≡ 256
              nothing a =
                  let from : address_of (record_at text at) ≡ 0 = sym address_is ∙ at_zero in
                  simp (le-leb (address_of (record_at text at)) a (omega arith), le-ltb a (address_of (record_at text at) + length_of (record_at text at)) (omega (arith, empty)))

    -- another type
    module _ (kind : get_or bytes 3 0 ≡ 1 → ⊥) where
      no_end : is_end (record_at text at) ≡ false
      no_end = other_type _ (λ e. kind (byte 3 (omega arith) ∙ e))

      met_type : (get_or bytes 3 0 ≡ 0 → ⊥) → refused 9 at ≡ verdict text
      met_type h = fault_is 9 (omega arith) (fault_type _ _ some summed no_end (λ e. h (byte 3 (omega arith) ∙ e)))

      module _ (plain : get_or bytes 3 0 ≡ 0) where
        typed_data : type_of (record_at text at) ≡ 0
        typed_data = sym (byte 3 (omega arith)) ∙ plain

        met_past : 8192 < 256 * get_or bytes 1 0 + get_or bytes 2 0 + get_or bytes 0 0 → refused 10 at ≡ verdict text
        met_past h = fault_is 10 (omega arith) (fault_past _ _ some summed no_end typed_data (omega (arith, byte 0 (omega arith), address_is)))

        module _ (fits : 256 * get_or bytes 1 0 + get_or bytes 2 0 + get_or bytes 0 0 ≤ 8192) {after : List ℕ} {fresh : Bool}
            (stored : Laid bytes (get_or bytes 0 0) (256 * get_or bytes 1 0 + get_or bytes 2 0) scratch after fresh) where
          ends_within : address_of (record_at text at) + length_of (record_at text at) ≤ 8192
          ends_within = omega (arith, byte 0 (omega arith), address_is)

          found : ℕ
          found = first_of (get_or bytes 0 0) (λ i. ltb (get_or scratch (256 * get_or bytes 1 0 + get_or bytes 2 0 + i) 0) 256)

          found_is : found ≡ fresh_in (take before.k (records text)) (record_at text at)
          unfolding found
          found_is = fresh_here text at count scratch before more shaped bytes met.front _ _ (byte 0 (omega arith)) address_is fits

          met_twice : fresh ≡ false → refused 11 at ≡ verdict text
          unfolding found
          met_twice e =
              let other = eqb-false found (get_or bytes 0 0) (sym stored.tells ∙ e) in
              let most = first_most (get_or bytes 0 0) (λ i. ltb (get_or scratch (256 * get_or bytes 1 0 + get_or bytes 2 0 + i) 0) 256) in
              fault_is 11 (omega arith)
              (fault_twice _ _ some summed no_end typed_data ends_within
              (rw (← found_is, ← byte 0 (omega arith)) (omega arith)))

          met_passed : fresh ≡ true → Passed text next (count + get_or bytes 0 0) after
          unfolding found
          met_passed e =
              let all : length_of (record_at text at) ≤ fresh_in (take before.k (records text)) (record_at text at) =
              omega (arith, eqb-true found (get_or bytes 0 0) (sym stored.tells ∙ e), found_is, byte 0 (omega arith)) in
              rw (stored.stored e, next_is)
              (passed_more text at count scratch before more shaped bytes met.front _ _ (byte 0 (omega arith)) address_is fits no_end
              (fault_none _ _ some summed no_end typed_data ends_within all) all)

  -- the same by all that the code tests on the way
  abbrev n : ℕ
  n = get_or bytes 0 0

  abbrev kind : ℕ
  kind = get_or bytes 3 0

  pub said_type : (sum ≡ 0) × (kind ≡ 1 → ⊥) × (kind ≡ 0 → ⊥) → refused 9 at ≡ verdict text
  said_type (z, k, h) = met_type z k h

  -- with the address that it reads
  module _ {address : ℕ} (reads : address ≡ address_of bytes) where
    pub said_long : (sum ≡ 0) × (kind ≡ 1) → (n ≡ 0 → address ≡ 0 → ⊥) → refused 9 at ≡ verdict text
    said_long (z, k) h = go (ℕ_discrete n 0)
      where
        go : Dec (n ≡ 0) → refused 9 at ≡ verdict text
        go (no e) = met_long_end z k e
        go (yes e) = met_far_end z k e (λ a. h e (reads ∙ a))

    pub said_more : (sum ≡ 0) × (kind ≡ 1) × (n ≡ 0) × (address ≡ 0) × (next < length text) → refused 12 next ≡ verdict text
    said_more (z, k, e, a, l) = met_more z k e (sym reads ∙ a) l

    pub said_done : (sum ≡ 0) × (kind ≡ 1) × (n ≡ 0) × (address ≡ 0) × (length text ≤ next) → Collected text scratch (Ok count)
    said_done (z, k, e, a, l) = record { says = met_done z k e (sym reads ∙ a) l; held = λ d. met_all z k e (sym reads ∙ a) l }

    pub said_past : (sum ≡ 0) × (kind ≡ 1 → ⊥) × (kind ≡ 0) × (8192 < address + n) → refused 10 at ≡ verdict text
    said_past (z, k, d, h) = met_past z k d (omega (arith, reads))

    module _ {after : List ℕ} {fresh : Bool} (stored : Laid bytes n address scratch after fresh)
        (tested : (sum ≡ 0) × (kind ≡ 1 → ⊥) × (kind ≡ 0) × (address + n ≤ 8192)) where
      fits : address_of bytes + n ≤ 8192
      fits = omega (arith, reads, tested)

      pub said_twice : fresh ≡ false → refused 11 at ≡ verdict text
      said_twice e = met_twice tested.0 tested.1 tested.2 fits (rw reads at stored) e

      pub said_passed : fresh ≡ true → Passed text next (count + n) after
      said_passed e = met_passed tested.0 tested.1 tested.2 fits (rw reads at stored) e
