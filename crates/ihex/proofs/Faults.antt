-- The table's tests of one record, one after the other: what each says where it is the first that fails, and that none does.
-- Assumes nothing.
use Rattle.std.proofs.Common.{◌≡◌, ℕ, ◌+◌, ◌<◌, ◌≤◌, Bool, true, false, eqb, List, [], length, arith, le-ltb, lt-ltb, eq-eqb, ne_eqb, eqb-true}
use Rattle.laws.specs.Pick.{pick}
use Rattle.laws.specs.Said.{refused}
use Rattle.laws.specs.Lists.{first_of}
use Rattle.laws.proofs.Both.{both_parts}
use Rattle.ihex.specs.Records.{first_bad, has_bad, length_of, address_of, type_of, sum_of, is_end, fresh_in, fault_of}
use Rattle.ihex.specs.Reading.{fault_said}

pub is_end_law : (r : List ℕ) → type_of r ≡ 1 → length_of r ≡ 0 → address_of r ≡ 0 → is_end r ≡ true
unfolding is_end
is_end_law r t l a = simp (eq-eqb (type_of r) 1 t, eq-eqb (length_of r) 0 l, eq-eqb (address_of r) 0 a)

end_length_law : (r : List ℕ) → is_end r ≡ true → (length_of r ≡ 0) × (address_of r ≡ 0)
unfolding is_end
end_length_law r e =
    let parts = both_parts (eqb (length_of r) 0) (eqb (address_of r) 0) (both_parts (eqb (type_of r) 1) _ e).1 in
    (eqb-true _ _ parts.0, eqb-true _ _ parts.1)

module _ (r : List ℕ) where
  pub other_type : (type_of r ≡ 1 → ⊥) → is_end r ≡ false
  unfolding is_end
  other_type t = simp (ne_eqb (type_of r) 1 t)

  pub long_end : type_of r ≡ 1 → (length_of r ≡ 0 → ⊥) → is_end r ≡ false
  unfolding is_end
  long_end t l = simp (eq-eqb (type_of r) 1 t, ne_eqb (length_of r) 0 l)

  pub far_end : type_of r ≡ 1 → length_of r ≡ 0 → (address_of r ≡ 0 → ⊥) → is_end r ≡ false
  unfolding is_end
  far_end t l a = simp (eq-eqb (type_of r) 1 t, eq-eqb (length_of r) 0 l, ne_eqb (address_of r) 0 a)

-- a fault is told with a number, whatever its line has
pub fault_told : (body : List ℕ) (place number : ℕ) → 0 < number → 0 < (fault_said body place number).number
unfolding fault_said
fault_told body place number h = go (has_bad body)
  where
    go : (b : Bool) → 0 < (pick b (refused 19 (place + first_bad body)) (refused number place)).number
    go true = omega arith
    go false = h

pub fault_shape : (earlier : List (List ℕ)) (r : List ℕ) → r ≡ [] → fault_of earlier r ≡ 20
unfolding fault_of
fault_shape earlier r e = rw e

module _ (earlier : List (List ℕ)) (r : List ℕ) (some : 0 < length r) where
  shaped : eqb (length r) 0 ≡ false
  shaped = ne_eqb (length r) 0 (omega arith)

  pub fault_sum : (sum_of r ≡ 0 → ⊥) → fault_of earlier r ≡ 8
  unfolding fault_of
  fault_sum s = simp (shaped, ne_eqb (sum_of r) 0 s)

  module _ (sum : sum_of r ≡ 0) where
    pub fault_type : is_end r ≡ false → (type_of r ≡ 0 → ⊥) → fault_of earlier r ≡ 9
    unfolding fault_of
    fault_type e t = simp (shaped, eq-eqb (sum_of r) 0 sum, e, ne_eqb (type_of r) 0 t)

    pub fault_end : is_end r ≡ true → fault_of earlier r ≡ 0
    unfolding fault_of first_of
    fault_end e =
        let zeros = end_length_law r e in
        simp (shaped, eq-eqb (sum_of r) 0 sum, e, zeros.0, zeros.1)

    module _ (no_end : is_end r ≡ false) (plain : type_of r ≡ 0) where
      pub fault_past : 8192 < address_of r + length_of r → fault_of earlier r ≡ 10
      unfolding fault_of
      fault_past h = simp (shaped, eq-eqb (sum_of r) 0 sum, no_end, eq-eqb (type_of r) 0 plain, lt-ltb _ _ h)

      pub fault_twice : address_of r + length_of r ≤ 8192 → fresh_in earlier r < length_of r → fault_of earlier r ≡ 11
      unfolding fault_of
      fault_twice h g = simp (shaped, eq-eqb (sum_of r) 0 sum, no_end, eq-eqb (type_of r) 0 plain, le-ltb _ _ h, lt-ltb _ _ g)

      pub fault_none : address_of r + length_of r ≤ 8192 → length_of r ≤ fresh_in earlier r → fault_of earlier r ≡ 0
      unfolding fault_of
      fault_none h g = simp (shaped, eq-eqb (sum_of r) 0 sum, no_end, eq-eqb (type_of r) 0 plain, le-ltb _ _ h, le-ltb _ _ g)
