-- The count does not depend on the order of records either: where no two records give the same byte, the sum of their lengths is the number
-- of addresses at which a byte is given, and that number knows no order.
-- Assumes nothing.
use mathlib.Core.Path.{◌≡◌, refl, sym, ◌∙◌, ap}
use mathlib.Core.Bool.{Bool, true, false}
use mathlib.Core.List.{List, [], ◌∷◌}
use Prim.Native.Nat.{ℕ, suc, ◌+◌, ◌<◌, ◌≤◌}
use native.Mathlib.Omega.{arith}
use lib.ListN.{length}
use Rattle.laws.specs.Pick.{pick}
use Rattle.laws.specs.Said.{Said, accepted}
use Rattle.laws.specs.Lists.{tabulate}
use Rattle.laws.specs.Sums.{sum_all}
use Rattle.laws.proofs.Lists.{tabulate_same}
use Rattle.laws.proofs.Sums.{sum_both, sum_none, sum_span}
use Rattle.ihex.specs.Lines.{lines}
use Rattle.ihex.specs.Records.{records, length_of, address_of, gives, is_given, count_of}
use Rattle.ihex.specs.Reading.{nth}
use Rattle.textlaws.specs.Laws.{Reordered, OrderSame}
use Rattle.textlaws.proofs.Order.{Apart, Good, good_of, good_judged, reordered_good, order_verdict, none_given, given_none, not_there, from_within}

abbrev one : Bool → ℕ
one b = pick b 1 0

-- at how many addresses records give a byte
given_count : List (List ℕ) → ℕ
given_count rs = sum_all (tabulate 8192 (λ a. one (is_given rs a)))

-- one record gives as many as its length
gives_count : (r : List ℕ) → address_of r + length_of r ≤ 8192 → sum_all (tabulate 8192 (λ a. one (gives r a))) ≡ length_of r
unfolding gives
gives_count r h = sum_span (address_of r) (length_of r) 8192 h

count_given : (rs : List (List ℕ)) → ((j : ℕ) → j < length rs → address_of (nth rs j) + length_of (nth rs j) ≤ 8192)
    → ((i j : ℕ) → i < length rs → j < length rs → (i ≡ j → ⊥) → Apart (nth rs i) (nth rs j)) → count_of rs ≡ given_count rs
unfolding sum_all is_given given_count
count_given [] fits apart = sym (sum_none 8192)
count_given (r ∷ rs) fits apart =
    let rest = count_given rs (λ j h. fits (suc j) (omega arith)) (λ i j hi hj ne. apart (suc i) (suc j) (omega arith) (omega arith) (omega arith)) in
    let here = gives_count r (fits 0 (omega arith)) in
    omega (arith, rest, here, sum_both 8192 (λ a. one (gives r a)) (λ a. one (is_given rs a)), ap sum_all (tabulate_same 8192 _ (λ a. one (gives r a) + one (is_given rs a)) each))
  where
    each : (a : ℕ) → a < 8192 → one (pick (gives r a) true (is_given rs a)) ≡ one (gives r a) + one (is_given rs a)
    each a h = go (gives r a) refl
      where
        go : (b : Bool) → gives r a ≡ b → one (pick b true (is_given rs a)) ≡ one b + one (is_given rs a)
        go true e = rw (none_given rs a (λ j l g. apart 0 (suc j) (omega arith) (omega arith) (omega arith) a e g))
        go false e = omega arith

good_count : (rs : List (List ℕ)) → Good rs → count_of rs ≡ given_count rs
good_count rs all =
    let last = all.size in
    count_given rs (λ j h. (all.fine j (omega arith)).fits) (λ i j hi hj ne. all.apart i j (omega arith) (omega arith) ne)

module _ (rs rs' : List (List ℕ)) (order : Reordered rs rs') (all : Good rs) where
  not_here : (a : ℕ) → is_given rs' a ≡ false → is_given rs a ≡ false
  not_here a e =
      none_given rs a (λ j l g.
      let inside = from_within rs rs' order all j l in
      let same = order.size in
      given_none rs' a e (order.from j) (omega arith)
      (ap (λ (x : List ℕ). gives x a) (order.same (order.from j) inside ∙ ap (nth rs) (order.to_from j)) ∙ g))

  same_given : (a : ℕ) → is_given rs a ≡ is_given rs' a
  same_given a = go (is_given rs a) (is_given rs' a) (not_there rs rs' order all a) (not_here a)
    where
      go : (b b' : Bool) → (b ≡ false → b' ≡ false) → (b' ≡ false → b ≡ false) → b ≡ b'
      go true true f g = refl
      go true false f g = g refl
      go false true f g = sym (f refl)
      go false false f g = refl

  reordered_count : count_of rs ≡ count_of rs'
  unfolding given_count
  reordered_count =
      good_count rs all ∙ ap sum_all (tabulate_same 8192 _ _ (λ a h. ap one (same_given a))) ∙ sym (good_count rs' (reordered_good rs rs' order all))

-- of texts: where one is accepted, one with its records in another order, the end record last, is accepted with the same count and the same
-- image
pub order_same : OrderSame
order_same text text' n order e =
    let all = good_of text n e in
    let told = order_verdict text text' n order e in
    let own : count_of (records text) ≡ n = ap (λ (s : Said). s.value) (sym (good_judged (records text) all (lines text)) ∙ e) in
    (told.0 ∙ ap accepted (sym (reordered_count (records text) (records text') order all) ∙ own), told.1)
