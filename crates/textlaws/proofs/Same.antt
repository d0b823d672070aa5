-- What an accepted text's count and image depend on: its records alone. So neither the case of a digit nor the end of a line changes them,
-- and two accepted texts with the same records, in whatever order, have the same image.
-- Assumes nothing.
use mathlib.Core.Path.{◌≡◌, refl, sym, ◌∙◌, ap}
use mathlib.Core.Bool.{Bool, true, false, not}
use mathlib.Core.List.{List, []}
use Prim.Native.Nat.{ℕ, zero, suc, ◌+◌, ◌*◌, ◌<◌}
use native.Mathlib.Omega.{arith}
use lib.Dec.{ltb}
use lib.ListN.{length, get_or}
use borrow.Author.Tests.{ltb-true, ne_eqb}
use Rattle.laws.specs.Pick.{pick}
use Rattle.laws.specs.Said.{accepted, refused}
use Rattle.laws.specs.Lists.{tabulate, first_of}
use Rattle.laws.proofs.Lists.{tabulate_same, first_same}
use Rattle.laws.proofs.Said.{number_of}
use Rattle.ihex.specs.Digits.{digit, byte_at}
use Rattle.ihex.specs.Lines.{lines, body_of, place_of}
use Rattle.ihex.specs.Records.{belongs, first_bad, records, spelled_by, is_shaped, byte_in, count_of}
use Rattle.ihex.specs.Reading.{nth, fault_at, stop_of, fault_said, judged}
use Rattle.ihex.proofs.Faults.{fault_told}
use Rattle.textlaws.specs.Alike.{AlikeBodies}
use Rattle.textlaws.specs.Laws.{SameVerdict, SameImage, CasesAlike, AlikeSpells}

-- whether lines are judged good depends on their records
judged_same : (ls ls' rs : List (List ℕ)) (k n : ℕ) → judged ls rs k ≡ accepted n → judged ls' rs k ≡ accepted n
unfolding judged
judged_same ls ls' rs k n e = go (ltb k (length rs)) (ltb 0 (fault_at rs k)) refl (ltb (k + 1) (length rs)) e
  where
    go : (a f : Bool) → ltb 0 (fault_at rs k) ≡ f → (l : Bool)
        → pick a (pick f (fault_said (body_of (nth ls k)) (place_of ls k) (fault_at rs k)) (pick l (refused 12 (place_of ls (k + 1))) (accepted (count_of rs)))) (refused 12 (place_of ls k)) ≡ accepted n
        → pick a (pick f (fault_said (body_of (nth ls' k)) (place_of ls' k) (fault_at rs k)) (pick l (refused 12 (place_of ls' (k + 1))) (accepted (count_of rs)))) (refused 12 (place_of ls' k)) ≡ accepted n
    go true true h l e = absurd (omega (arith, number_of e, fault_told (body_of (nth ls k)) (place_of ls k) (fault_at rs k) (ltb-true 0 (fault_at rs k) h)))
    go true false h true e = absurd (omega (arith, number_of e))
    go true false h false e = e
    go false f h l e = absurd (omega (arith, number_of e))

-- two texts with the same records: where one is accepted so is the other, unless it is too long, with the same count; and they spell the
-- same image
pub same_verdict : SameVerdict
same_verdict text text' n e h =
    ap (λ (rs : List (List ℕ)). judged (lines text') rs (stop_of rs)) (sym e) ∙ judged_same (lines text) (lines text') (records text) (stop_of (records text)) n h

pub same_image : SameImage
same_image text text' e = ap (λ (rs : List (List ℕ)). tabulate 8192 (byte_in 255 rs)) e

module _ (body body' : List ℕ) (alike : AlikeBodies body body') where
  bytes_alike : (k : ℕ) → byte_at body (1 + k) ≡ byte_at body' (1 + k)
  bytes_alike k =
      let e : 1 + k + 1 ≡ 1 + (k + 1) = omega arith in
      rw (alike.digits k, e, alike.digits (k + 1))

  belongs_alike : (k : ℕ) → belongs k (get_or body k 0) ≡ belongs k (get_or body' k 0)
  unfolding belongs
  belongs_alike zero = rw alike.first
  belongs_alike (suc k) =
      let one : suc k ≡ 1 + k = omega arith in
      rw (one, ne_eqb (1 + k) 0 (omega arith), alike.digits k)

  shaped_alike : is_shaped body ≡ is_shaped body'
  unfolding is_shaped
  shaped_alike =
      let same : first_bad body ≡ first_bad body' =
      ap (λ n. first_of n (λ k. not (belongs k (get_or body k 0)))) alike.size ∙ first_same (length body') _ _ (λ k h. ap not (belongs_alike k)) in
      rw (same, alike.size, bytes_alike 0)

  -- they are the same record
  one_record : spelled_by body ≡ spelled_by body'
  unfolding spelled_by
  one_record =
      rw (shaped_alike, bytes_alike 0)
      (ap (λ (l : List ℕ). pick (is_shaped body') l []) (tabulate_same (5 + byte_at body' 1) _ _ (λ i h. bytes_alike (2 * i))))

pub alike_spells : AlikeSpells
alike_spells = one_record

-- upper and lower case are one digit
pub cases_alike : CasesAlike
unfolding digit
cases_alike c h = go c h
  where
    go : (c : ℕ) → c < 6 → digit (65 + c) ≡ digit (97 + c)
    go zero h = refl
    go (suc zero) h = refl
    go (suc (suc zero)) h = refl
    go (suc (suc (suc zero))) h = refl
    go (suc (suc (suc (suc zero)))) h = refl
    go (suc (suc (suc (suc (suc zero))))) h = refl
    go (suc (suc (suc (suc (suc (suc c)))))) h = absurd (omega arith)
