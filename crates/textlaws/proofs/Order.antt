-- The order of records does not matter: a text is accepted where each record is good by itself, no two give the same byte, and the last
-- record and no other is the end record. All of that stays where the records before the last change places, and so does the byte that they
-- give at each address.
-- Assumes nothing.
use mathlib.Core.Path.{◌≡◌, refl, sym, ◌∙◌, ap, subst}
use mathlib.Core.Bool.{Bool, true, false, not, false≢true}
use mathlib.Core.List.{List, [], ◌∷◌}
use Prim.Native.Nat.{ℕ, zero, suc, ◌+◌, ◌-◌, ◌<◌, ◌≤◌}
use native.Mathlib.Nat.{not-suc-le-zero, le_of_suc-le-suc}
use native.Mathlib.Decide.{dec_lt, ℕ_discrete}
use native.Mathlib.Omega.{arith}
use lib.Dec.{eqb, ltb}
use lib.ListN.{length, take}
use lib.Seq.{get_or-take, length-take-le}
use borrow.Author.Tests.{ltb-true, ltb-false, lt-ltb, le-ltb, eqb-true, eqb-false, eq-eqb, ne_eqb}
use Rattle.laws.specs.Pick.{pick}
use Rattle.laws.specs.Said.{accepted, refused}
use Rattle.laws.specs.Lists.{tabulate, first_of}
use Rattle.laws.proofs.Lists.{first_is, first_none, first_before, first_at, first_most, tabulate_same}
use Rattle.laws.proofs.Placing.{span_has_law, span_in}
use Rattle.laws.proofs.Said.{number_of}
use Rattle.ihex.specs.Lines.{lines, body_of, place_of}
use Rattle.ihex.specs.Records.{records, length_of, address_of, type_of, sum_of, is_end, gives, data_at, byte_in, is_given, fresh_in, count_of, fault_of}
use Rattle.ihex.specs.Reading.{nth, fault_at, stops_at, stop_of, fault_said, judged, verdict, image_in}
use Rattle.ihex.proofs.Faults.{fault_told}
use Rattle.ihex.proofs.Given.{in_none}
use Rattle.textlaws.specs.Laws.{Reordered}

-- a record that is good by itself
pub record Fine (r : List ℕ) : Type 0 where
  pub some : 0 < length r
  pub sum : sum_of r ≡ 0
  pub type : pick (is_end r) true (eqb (type_of r) 0) ≡ true
  pub fits : address_of r + length_of r ≤ 8192

-- two records that give no byte both
abbrev pub Apart : List ℕ → List ℕ → Type 0
Apart r s = (a : ℕ) → gives r a ≡ true → gives s a ≡ true → ⊥

-- no fault after earlier records: good by itself, and no byte given by them
module _ (es : List (List ℕ)) (r : List ℕ) where
  no_fault : fault_of es r ≡ 0 → Fine r × (length_of r ≤ fresh_in es r)
  unfolding fault_of
  no_fault e =
      go (eqb (length r) 0) refl (eqb (sum_of r) 0) refl (pick (is_end r) true (eqb (type_of r) 0)) refl (ltb 8192 (address_of r + length_of r)) refl
      (ltb (fresh_in es r) (length_of r)) refl e
    where
      go : (a : Bool) → eqb (length r) 0 ≡ a → (b : Bool) → eqb (sum_of r) 0 ≡ b → (t : Bool) → pick (is_end r) true (eqb (type_of r) 0) ≡ t
          → (p : Bool) → ltb 8192 (address_of r + length_of r) ≡ p → (f : Bool) → ltb (fresh_in es r) (length_of r) ≡ f
          → ◌≡◌ {A = ℕ} (pick a 20 (pick (not b) 8 (pick (not t) 9 (pick p 10 (pick f 11 0))))) 0 → Fine r × (length_of r ≤ fresh_in es r)
      go true ea b eb t et p ep f ef e = absurd (omega arith)
      go false ea false eb t et p ep f ef e = absurd (omega arith)
      go false ea true eb false et p ep f ef e = absurd (omega arith)
      go false ea true eb true et true ep f ef e = absurd (omega arith)
      go false ea true eb true et false ep true ef e = absurd (omega arith)
      go false ea true eb true et false ep false ef e =
          (record { some = let ne = eqb-false (length r) 0 ea in omega arith; sum = eqb-true _ _ eb; type = et; fits = ltb-false 8192 _ ep }, ltb-false _ _ ef)

  none_fault : Fine r → length_of r ≤ fresh_in es r → fault_of es r ≡ 0
  unfolding fault_of
  none_fault fine h =
      let some = ne_eqb (length r) 0 (let l = fine.some in λ e. omega arith) in
      simp (some, eq-eqb _ _ fine.sum, fine.type, le-ltb 8192 _ fine.fits, le-ltb _ _ h)

  -- none of its bytes is given
  fresh_apart : length_of r ≤ fresh_in es r → (a : ℕ) → gives r a ≡ true → is_given es a ≡ false
  unfolding gives
  fresh_apart h a g =
      let within = span_has_law (address_of r) (length_of r) a g in
      let e : address_of r + (a - address_of r) ≡ a = omega arith in
      subst (λ (n : ℕ). is_given es n ≡ false) e (first_before (length_of r) (λ i. is_given es (address_of r + i)) (a - address_of r) (omega arith))

  apart_fresh : ((a : ℕ) → gives r a ≡ true → is_given es a ≡ false) → length_of r ≤ fresh_in es r
  unfolding gives
  apart_fresh h =
      let e = first_none (length_of r) (λ i. is_given es (address_of r + i)) (λ i l.
      h (address_of r + i) (span_in (address_of r) (length_of r) (address_of r + i) (omega arith) (omega arith))) in
      omega arith

-- given by some of them, by place
pub given_none : (es : List (List ℕ)) (a : ℕ) → is_given es a ≡ false → (j : ℕ) → j < length es → gives (nth es j) a ≡ true → ⊥
unfolding is_given
given_none [] a e j h g = absurd (not-suc-le-zero h)
given_none (r ∷ es) a e zero h g = false≢true (sym e ∙ ap (λ b. pick b true (is_given es a)) g)
given_none (r ∷ es) a e (suc j) h g = go (gives r a) e (λ f. given_none es a f j (le_of_suc-le-suc h) g)
  where
    go : (b : Bool) → pick b true (is_given es a) ≡ false → (is_given es a ≡ false → ⊥) → ⊥
    go true e k = absurd (false≢true (sym e))
    go false e k = k e

pub none_given : (es : List (List ℕ)) (a : ℕ) → ((j : ℕ) → j < length es → gives (nth es j) a ≡ true → ⊥) → is_given es a ≡ false
unfolding is_given
none_given [] a h = refl
none_given (r ∷ es) a h = go (gives r a) refl (none_given es a (λ j l g. h (suc j) (omega arith) g))
  where
    go : (b : Bool) → gives r a ≡ b → is_given es a ≡ false → pick b true (is_given es a) ≡ false
    go true e k = absurd (h 0 (omega arith) e)
    go false e k = k

-- an accepted list of records, with no order among those before the last
pub record Good (rs : List (List ℕ)) : Type 0 where
  pub last : ℕ
  pub size : length rs ≡ last + 1
  pub fine : (j : ℕ) → j ≤ last → Fine (nth rs j)
  pub apart : (i j : ℕ) → i ≤ last → j ≤ last → (i ≡ j → ⊥) → Apart (nth rs i) (nth rs j)
  pub going : (j : ℕ) → j < last → is_end (nth rs j) ≡ false
  pub ends : is_end (nth rs last) ≡ true

going_on : (rs : List (List ℕ)) (j : ℕ) → stops_at rs j ≡ false → (fault_at rs j ≡ 0) × (is_end (nth rs j) ≡ false)
going_on rs j e = go (ltb 0 (fault_at rs j)) refl e
  where
    go : (b : Bool) → ltb 0 (fault_at rs j) ≡ b → pick b true (is_end (nth rs j)) ≡ false → (fault_at rs j ≡ 0) × (is_end (nth rs j) ≡ false)
    go true h e = absurd (false≢true (sym e))
    go false h e = (let l = ltb-false 0 (fault_at rs j) h in omega arith, e)

earlier_at : (rs : List (List ℕ)) (i j : ℕ) → i < j → j < length rs → (i < length (take j rs)) × (nth (take j rs) i ≡ nth rs i)
earlier_at rs i j h g = (omega (arith, length-take-le j rs (omega arith)), get_or-take j rs i [] h)

-- no fault, in the order in which they stand
module _ (rs : List (List ℕ)) (k : ℕ) (size : length rs ≡ k + 1) (past : (j : ℕ) → j < k → stops_at rs j ≡ false)
    (good : fault_at rs k ≡ 0) (ended : is_end (nth rs k) ≡ true) where
  fault_at_law : (j : ℕ) → j ≤ k → fault_at rs j ≡ 0
  fault_at_law j h = go (ℕ_discrete j k)
    where
      go : Dec (j ≡ k) → fault_at rs j ≡ 0
      go (yes e) = ap (fault_at rs) e ∙ good
      go (no e) = (going_on rs j (past j (omega arith))).0

  after_apart : (i j : ℕ) → i < j → j ≤ k → Apart (nth rs i) (nth rs j)
  after_apart i j h g a gi gj =
      let here = earlier_at rs i j h (omega arith) in
      let none = fresh_apart (take j rs) (nth rs j) (no_fault (take j rs) (nth rs j) (fault_at_law j g)).1 a gj in
      given_none (take j rs) a none i here.0 (ap (λ (r : List ℕ). gives r a) here.1 ∙ gi)

  in_order : Good rs
  in_order =
      record {
        last = k;
        size = size;
        fine = λ j h. (no_fault (take j rs) (nth rs j) (fault_at_law j h)).0;
        apart = λ i j hi hj ne a gi gj. side i j hi hj ne a gi gj (dec_lt i j);
        going = λ j h. (going_on rs j (past j h)).1;
        ends = ended;
      }
    where
      side : (i j : ℕ) → i ≤ k → j ≤ k → (i ≡ j → ⊥) → (a : ℕ) → gives (nth rs i) a ≡ true → gives (nth rs j) a ≡ true → Dec (i < j) → ⊥
      side i j hi hj ne a gi gj (yes l) = after_apart i j l hj a gi gj
      side i j hi hj ne a gi gj (no l) = after_apart j i (omega arith) hi a gj gi

-- where a text is accepted its records are so
pub good_of : (text : List ℕ) (n : ℕ) → verdict text ≡ accepted n → Good (records text)
unfolding judged
good_of text n e =
    go (ltb (stop_of (records text)) (length (records text))) refl (ltb 0 (fault_at (records text) (stop_of (records text)))) refl
    (ltb (stop_of (records text) + 1) (length (records text))) refl e
  where
    stops : (b : Bool) → ltb 0 (fault_at (records text) (stop_of (records text))) ≡ b → b ≡ false
        → pick b true (is_end (nth (records text) (stop_of (records text)))) ≡ true → is_end (nth (records text) (stop_of (records text))) ≡ true
    stops true h e t = absurd (false≢true (sym e))
    stops false h e t = t

    go : (a : Bool) → ltb (stop_of (records text)) (length (records text)) ≡ a → (f : Bool) → ltb 0 (fault_at (records text) (stop_of (records text))) ≡ f
        → (l : Bool) → ltb (stop_of (records text) + 1) (length (records text)) ≡ l
        → pick a (pick f (fault_said (body_of (nth (lines text) (stop_of (records text)))) (place_of (lines text) (stop_of (records text))) (fault_at (records text) (stop_of (records text))))
        (pick l (refused 12 (place_of (lines text) (stop_of (records text) + 1))) (accepted (count_of (records text))))) (refused 12 (place_of (lines text) (stop_of (records text)))) ≡ accepted n
        → Good (records text)
    go false ea f ef l el e = absurd (omega (arith, number_of e))
    go true ea true ef l el e =
        absurd (omega (arith, number_of e, fault_told (body_of (nth (lines text) (stop_of (records text)))) (place_of (lines text) (stop_of (records text))) _ (ltb-true 0 (fault_at (records text) (stop_of (records text))) ef)))
    go true ea false ef true el e = absurd (omega (arith, number_of e))
    go true ea false ef false el e =
        let below : stop_of (records text) < length (records text) = ltb-true _ _ ea in
        let most : length (records text) ≤ stop_of (records text) + 1 = ltb-false _ _ el in
        let none : fault_at (records text) (stop_of (records text)) ≤ 0 = ltb-false 0 _ ef in
        in_order (records text) (stop_of (records text)) (omega arith) (first_before (length (records text)) (stops_at (records text))) (omega arith)
        (stops (ltb 0 (fault_at (records text) (stop_of (records text)))) refl ef (first_at (length (records text)) (stops_at (records text)) below))

-- and such records make a text accepted
module _ (rs : List (List ℕ)) (all : Good rs) where
  good_fault : (j : ℕ) → j ≤ all.last → fault_at rs j ≡ 0
  good_fault j h =
      none_fault (take j rs) (nth rs j) (all.fine j h)
      (apart_fresh (take j rs) (nth rs j) (λ a g.
      none_given (take j rs) a (λ i l gi.
      let below : i < j = omega (arith, l, all.size, length-take-le j rs (omega (arith, all.size))) in
      let here = earlier_at rs i j below (omega (arith, all.size)) in
      all.apart i j (omega arith) h (omega arith) a (sym (ap (λ (r : List ℕ). gives r a) here.1) ∙ gi) g)))

  good_stop : stop_of rs ≡ all.last
  good_stop =
      first_is (length rs) (stops_at rs) all.last (omega (arith, all.size))
      (λ j h. rw (good_fault j (omega arith)) (all.going j h)) (rw (good_fault all.last (omega arith)) all.ends)

  pub good_judged : (ls : List (List ℕ)) → judged ls rs (stop_of rs) ≡ accepted (count_of rs)
  unfolding judged
  good_judged ls =
      rw (good_stop, lt-ltb all.last (length rs) (omega (arith, all.size)), good_fault all.last (omega arith), le-ltb (all.last + 1) (length rs) (omega (arith, all.size)))

module _ (rs rs' : List (List ℕ)) (order : Reordered rs rs') (all : Good rs) where
  to_within : (j : ℕ) → j ≤ all.last → order.to j ≤ all.last
  to_within j h = go (ℕ_discrete j all.last)
    where
      go : Dec (j ≡ all.last) → order.to j ≤ all.last
      go (yes e) = omega (arith, order.last j (omega (arith, all.size)))
      go (no e) = omega (arith, order.within j (omega (arith, all.size)), all.size)

  there : (j : ℕ) → j ≤ all.last → nth rs' j ≡ nth rs (order.to j)
  there j h = order.same j (omega (arith, all.size))

  other_place : (i j : ℕ) → (i ≡ j → ⊥) → order.to i ≡ order.to j → ⊥
  other_place i j ne e = ne (sym (order.from_to i) ∙ ap order.from e ∙ order.from_to j)

  -- it is accepted too
  pub reordered_good : Good rs'
  reordered_good =
      record {
        last = all.last;
        size = sym order.size ∙ all.size;
        fine = λ j h. subst Fine (sym (there j h)) (all.fine (order.to j) (to_within j h));
        apart = λ i j hi hj ne a gi gj.
            all.apart (order.to i) (order.to j) (to_within i hi) (to_within j hj) (other_place i j ne) a
            (sym (ap (λ (r : List ℕ). gives r a) (there i hi)) ∙ gi) (sym (ap (λ (r : List ℕ). gives r a) (there j hj)) ∙ gj);
        going = λ j h. ap is_end (there j (omega arith)) ∙ all.going (order.to j) (omega (arith, order.within j (omega (arith, all.size)), all.size));
        ends = ap is_end (there all.last (omega arith) ∙ ap (nth rs) (order.last all.last (sym all.size))) ∙ all.ends;
      }

-- the byte at an address is that of the first record that gives one
in_at : (none : ℕ) (rs : List (List ℕ)) (a j : ℕ) → j < length rs → gives (nth rs j) a ≡ true → ((i : ℕ) → i < j → gives (nth rs i) a ≡ true → ⊥)
    → byte_in none rs a ≡ data_at (nth rs j) a
unfolding byte_in
in_at none [] a j h g before = absurd (not-suc-le-zero h)
in_at none (r ∷ rs) a zero h g before = rw g
in_at none (r ∷ rs) a (suc j) h g before =
    go (gives r a) refl (in_at none rs a j (le_of_suc-le-suc h) g (λ i l k. before (suc i) (omega arith) k))
  where
    go : (b : Bool) → gives r a ≡ b → byte_in none rs a ≡ data_at (nth rs j) a → pick b (data_at r a) (byte_in none rs a) ≡ data_at (nth rs j) a
    go true e ih = absurd (before 0 (omega arith) e)
    go false e ih = ih

module _ (rs rs' : List (List ℕ)) (order : Reordered rs rs') (all : Good rs) where
  pub from_within : (j : ℕ) → j < length rs → order.from j < length rs
  from_within j h = go (ℕ_discrete (j + 1) (length rs))
    where
      go : Dec (j + 1 ≡ length rs) → order.from j < length rs
      go (yes e) = omega (arith, sym (ap order.from (order.last j e)) ∙ order.from_to j)
      go (no e) = omega (arith, order.back j (omega arith))

  -- where a record gives the byte, the same record gives it after the change, and no other does
  given_there : (a j : ℕ) → j < length rs → gives (nth rs j) a ≡ true → byte_in 255 rs' a ≡ data_at (nth rs j) a
  given_there a j h g =
      let j' = order.from j in
      let h' = from_within j h in
      let r : nth rs' j' ≡ nth rs j = order.same j' h' ∙ ap (nth rs) (order.to_from j) in
      in_at 255 rs' a j' (omega (arith, order.size)) (ap (λ (x : List ℕ). gives x a) r ∙ g) (λ i l gi.
      let last = all.size in
      all.apart (order.to i) j (to_within rs rs' order all i (omega arith)) (omega arith)
      (λ e. other_place rs rs' order all i j' (omega arith) (e ∙ sym (order.to_from j))) a
      (sym (ap (λ (x : List ℕ). gives x a) (order.same i (omega arith))) ∙ gi) g)
      ∙ ap (λ (x : List ℕ). data_at x a) r

  given_here : (a j : ℕ) → j < length rs → gives (nth rs j) a ≡ true → byte_in 255 rs a ≡ data_at (nth rs j) a
  given_here a j h g =
      let last = all.size in
      in_at 255 rs a j h g (λ i l gi. all.apart i j (omega arith) (omega arith) (omega arith) a gi g)

  pub not_there : (a : ℕ) → is_given rs a ≡ false → is_given rs' a ≡ false
  not_there a e =
      none_given rs' a (λ j l g.
      let last = all.size in
      let same = order.size in
      let inside = to_within rs rs' order all j (omega arith) in
      given_none rs a e (order.to j) (omega arith) (sym (ap (λ (x : List ℕ). gives x a) (order.same j (omega arith))) ∙ g))

  -- the image is the same
  reordered_byte : (a : ℕ) → byte_in 255 rs a ≡ byte_in 255 rs' a
  reordered_byte a = go (dec_lt (first_of (length rs) (λ j. gives (nth rs j) a)) (length rs))
    where
      go : Dec (first_of (length rs) (λ j. gives (nth rs j) a) < length rs) → byte_in 255 rs a ≡ byte_in 255 rs' a
      go (yes h) =
          let g = first_at (length rs) (λ j. gives (nth rs j) a) h in
          given_here a _ h g ∙ sym (given_there a _ h g)
      go (no h) =
          let none : is_given rs a ≡ false = none_given rs a (λ j l g.
          let most = first_most (length rs) (λ j. gives (nth rs j) a) in
          false≢true (sym (first_before (length rs) (λ j. gives (nth rs j) a) j (omega arith)) ∙ g)) in
          in_none 255 rs a none ∙ sym (in_none 255 rs' a (not_there a none))

  reordered_image : tabulate 8192 (byte_in 255 rs) ≡ tabulate 8192 (byte_in 255 rs')
  reordered_image = tabulate_same 8192 (byte_in 255 rs) (byte_in 255 rs') (λ a h. reordered_byte a)

-- of texts: where one is accepted so is one with its records in another order, the end record last, and the two have one image
pub order_verdict : (text text' : List ℕ) (n : ℕ) → Reordered (records text) (records text') → verdict text ≡ accepted n
    → (verdict text' ≡ accepted (count_of (records text'))) × (image_in text ≡ image_in text')
order_verdict text text' n order e =
    let all = good_of text n e in (
      good_judged (records text') (reordered_good (records text) (records text') order all) (lines text'),
      reordered_image (records text) (records text') order all,
    )
