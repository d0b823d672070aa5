-- Reading: the fault of a line without a record is 20 and that of any other at most 11, so 7 is told of no line, but of a text too long alone.
-- Assumes nothing.
use Prim.Native.Nat.{ℕ, ◌+◌, ◌<◌, ◌≤◌}
use mathlib.Core.Path.{◌≡◌, refl, sym, ◌∙◌, ap}
use mathlib.Core.Bool.{Bool, true, false, not}
use mathlib.Core.List.{List, [], map}
use native.Mathlib.Omega.{arith}
use borrow.Author.Tests.{ltb-true}
use lib.Dec.{eqb, ltb}
use lib.ListN.{length, get_or, take, get_or-map}
use Rattle.laws.specs.Pick.{pick}
use Rattle.laws.specs.Said.{accepted, refused}
use Rattle.image.specs.Image.{image_bytes}
use Rattle.ihex.specs.Lines.{lines, body_of, place_of}
use Rattle.ihex.specs.Records.{first_bad, has_bad, spelled_by, record_of, records, is_end, count_of, fault_of, sum_of, type_of, address_of, length_of, fresh_in}
use Rattle.ihex.specs.Reading.{most_text, nth, fault_at, stop_of, fault_said, judged, verdict, answer_of}
use Rattle.ihex.proofs.Passed.{record_nil}
use Rattle.finer.specs.Claims.{ReadLength}

-- the record of a line
pub record_at_law : (ls : List (List ℕ)) (k : ℕ) → k < length (map record_of ls) → nth (map record_of ls) k ≡ spelled_by (body_of (nth ls k))
record_at_law ls k h =
    ap (λ (d : List ℕ). get_or (map record_of ls) k d) (sym record_nil) ∙ get_or-map record_of ls k []

-- a record's fault is 20 where there is none to look at, and never 19
pub fault_none : (es : List (List ℕ)) (r : List ℕ) → eqb (length r) 0 ≡ true → fault_of es r ≡ 20
unfolding fault_of
fault_none es r e = rw e

pub fault_other : (es : List (List ℕ)) (r : List ℕ) → eqb (length r) 0 ≡ false → fault_of es r ≤ 11
unfolding fault_of
fault_other es r e =
    rw e
    (go (not (eqb (sum_of r) 0)) (not (pick (is_end r) true (eqb (type_of r) 0))) (ltb 8192 (address_of r + length_of r)) (ltb (fresh_in es r) (length_of r)))
  where
    go : (a b d f : Bool) → pick a 8 (pick b 9 (pick d 10 (pick f 11 0))) ≤ 11
    go true b d f = omega arith
    go false true d f = omega arith
    go false false true f = omega arith
    go false false false true = omega arith
    go false false false false = omega arith

-- 7 is said of the text's length: no line is told so
fault_seven : (body : List ℕ) (place number : ℕ) → (number ≡ 7 → ⊥) → (fault_said body place number).number ≡ 7 → ⊥
unfolding fault_said
fault_seven body place number other e = go (has_bad body) e
  where
    go : (b : Bool) → (pick b (refused 19 (place + first_bad body)) (refused number place)).number ≡ 7 → ⊥
    go true e = omega arith
    go false e = other e

fault_no_seven : (es : List (List ℕ)) (r : List ℕ) → fault_of es r ≡ 7 → ⊥
unfolding fault_of
fault_no_seven es r e =
    go (eqb (length r) 0) (not (eqb (sum_of r) 0)) (not (pick (is_end r) true (eqb (type_of r) 0))) (ltb 8192 (address_of r + length_of r)) (ltb (fresh_in es r) (length_of r)) e
  where
    go : (s a b d f : Bool) → ◌≡◌ {A = ℕ} (pick s 20 (pick a 8 (pick b 9 (pick d 10 (pick f 11 0))))) 7 → ⊥
    go true a b d f e = omega arith
    go false true b d f e = omega arith
    go false false true d f e = omega arith
    go false false false true f e = omega arith
    go false false false false true e = omega arith
    go false false false false false e = omega arith

judged_no_seven : (ls rs : List (List ℕ)) (k : ℕ) → (judged ls rs k).number ≡ 7 → ⊥
unfolding judged
judged_no_seven ls rs k e = go (ltb k (length rs)) (ltb 0 (fault_at rs k)) (ltb (k + 1) (length rs)) e
  where
    go : (a f l : Bool)
        → (pick a (pick f (fault_said (body_of (nth ls k)) (place_of ls k) (fault_at rs k)) (pick l (refused 12 (place_of ls (k + 1))) (accepted (count_of rs)))) (refused 12 (place_of ls k))).number ≡ 7
        → ⊥
    go true true l e = fault_seven (body_of (nth ls k)) (place_of ls k) (fault_at rs k) (fault_no_seven (take k rs) (nth rs k)) e
    go true false true e = omega arith
    go true false false e = omega arith
    go false f l e = omega arith

pub read_length : ReadLength
unfolding answer_of
read_length text room e = go (ltb room image_bytes) (ltb most_text (length text)) refl e
  where
    go : (a b : Bool) → ltb most_text (length text) ≡ b → (pick a (refused 6 0) (pick b (refused 7 0) (verdict text))).number ≡ 7 → most_text < length text
    go true b h e = absurd (omega arith)
    go false true h e = ltb-true most_text (length text) h
    go false false h e = absurd (judged_no_seven (lines text) (records text) (stop_of (records text)) e)
