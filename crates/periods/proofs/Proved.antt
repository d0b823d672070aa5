-- The statements of specs/Theorems.antt about the definitions, from dac's own laws of them and from the count of high clocks.
-- Assumes nothing.
use Prim.Native.Nat.{ℕ, zero, suc, ◌+◌, ◌-◌, ◌%◌, ◌<◌, ◌≤◌}
use mathlib.Core.Path.{◌≡◌, refl, sym, ap, ◌∙◌}
use mathlib.Core.Bool.{Bool, true, false, false≢true, ◌||◌}
use mathlib.Core.List.{List, [], ◌∷◌, ◌++◌, append_assoc, append-nil}
use native.Mathlib.Omega.{arith}
use lib.Count.{count_trailing_zeros}
use lib.Dec.{ltb}
use lib.ListN.{length, take, drop, length-append}
use lib.Seq.{take_at, drop_at, drop-length, drop-append-add}
use borrow.Author.Tests.{ne_eqb, ltb-false}
use Rattle.laws.specs.Pick.{pick}
use Rattle.laws.specs.Said.{accepted, refused}
use Rattle.wave.specs.declared.Pair.{Pair}
use Rattle.dac.specs.declared.Dac.{Dac}
use Rattle.wave.specs.Wave.{period, sub_periods, pair, bit, added, wave}
use Rattle.dac.specs.Running.{halves, kept_half, kept_pair, counts, kept_count, dac_of, kept, next_level, so_far, clocked, after_clocks, levels_of}
use Rattle.dac.specs.Play.{too_many_levels, answer_of, after_play, levels_played, lent_after}
use Rattle.periods.specs.Theorems.{Serves, BothHalves, Joined, Found, Keeps}
use Rattle.laws.proofs.Lists.{tabulate_same}
use Rattle.wave.proofs.Within.{wave_is}
use Rattle.dac.proofs.Clocks.{pair_kept, kept_pair_kept, playing_kept, length_levels, levels_split, after_split}
use Rattle.dac.proofs.Answers.{may, refused_play, accepted_play, accepted_count}
use Rattle.periods.proofs.Count.{one_pair}

pub serves : Serves
unfolding added
serves fine = (refl, by_bit)
  where
    by_bit : (b n : ℕ) → b ≤ 6 → 0 < n → n < sub_periods → count_trailing_zeros 7 n ≡ 6 - b → added fine n ≡ bit fine b
    by_bit b n hb some hn e =
        let back : 6 - (6 - b) ≡ b = omega arith in
        rw (ne_eqb n 0 (λ z. omega arith), e, back)

kept_small : (p : Pair) → kept_pair p ≡ p → (p.coarse < halves) × (p.fine < halves)
kept_small p e =
    let c : p.coarse % halves ≡ p.coarse = ap (λ (x : Pair). x.coarse) e in
    let f : p.fine % halves ≡ p.fine = ap (λ (x : Pair). x.fine) e in
    (omega arith, omega arith)

pub both_halves : BothHalves
both_halves p q kp kq h =
    let a = kept_small p kp in
    let b = kept_small q kq in
    let same : wave p 0 period ≡ wave q 0 period = wave_is p 0 period ∙ tabulate_same period _ _ (λ i small. h (0 + i) (omega arith)) ∙ sym (wave_is q 0 period) in
    let e : p ≡ q = one_pair p q a.0 a.1 b.0 b.1 same in
    (ap (λ (x : Pair). x.coarse) e, ap (λ (x : Pair). x.fine) e)

-- a play that is not refused asks for no more than there may be, and leaves its levels in the first bytes lent
not_many : (c room : ℕ) → too_many_levels c room ≡ false → (c ≤ period) × (c ≤ room)
not_many c room e = go (ltb period c) (ltb room c) refl refl e
  where
    go : (x y : Bool) → ltb period c ≡ x → ltb room c ≡ y → (x || y) ≡ false → (c ≤ period) × (c ≤ room)
    go true y p q f = absurd (false≢true (sym f))
    go false true p q f = absurd (false≢true (sym f))
    go false false p q f = (ltb-false period c p, ltb-false room c q)

lent_played : (d : Dac) (c : ℕ) (s : List ℕ) → too_many_levels c (length s) ≡ false → lent_after d c s ≡ levels_of c d ++ drop c s
unfolding levels_played lent_after
lent_played d c s e = rw (e, length_levels c d)

pub joined : Joined
joined d a b s t e accepted =
    let fits = not_many (a + b) (length (s ++ t)) accepted in
    let long = length-append s t in
    let first_may : too_many_levels a (length s) ≡ false = may a (length s) (omega arith) (omega arith) in
    let then_may : too_many_levels b (length t) ≡ false = may b (length t) (omega arith) (omega arith) in
    let first : after_play d a (length s) ≡ after_clocks a d = sym (accepted_play d a s first_may).0 in
    let empty : drop a s ≡ [] = rw (← e) (drop-length s) in
    let behind : drop (a + b) (s ++ t) ≡ drop b t = rw (← e) (drop-append-add s t b) in (
      rw first (sym (accepted_play (after_clocks a d) b t then_may).0 ∙ sym (after_split a b d) ∙ (accepted_play d (a + b) (s ++ t) accepted).0),
      rw first (sym (accepted_count (after_clocks a d) b t then_may _ _ refl refl) ∙ accepted_count d (a + b) (s ++ t) accepted _ _ (sym (after_split a b d)) refl),
      rw (first, lent_played d a s first_may, lent_played (after_clocks a d) b t then_may, lent_played d (a + b) (s ++ t) accepted, empty, behind, append-nil (levels_of a d), levels_split a b d)
          (sym (append_assoc (levels_of a d) (levels_of b (after_clocks a d)) (drop b t))),
    )

pub found : Found
unfolding levels_played
found d c lent = (accepted, refused)
  where
    accepted : too_many_levels c (length lent) ≡ false → (take c (lent_after d c lent) ≡ levels_played d c (length lent)) × (drop c (lent_after d c lent) ≡ drop c lent)
    accepted e =
        rw (lent_played d c lent e, e) (take_at (levels_of c d) (drop c lent) c (length_levels c d), drop_at (levels_of c d) (drop c lent) c (length_levels c d))

    refused : too_many_levels c (length lent) ≡ true → (levels_played d c (length lent) ≡ []) × (lent_after d c lent ≡ lent)
    refused e = (rw e refl, sym (refused_play d c lent e).2)

-- a record whose parts are kept is as its kept form
kept_parts : (p : ℕ) (h c f : Pair) (n : ℕ) → p < period → kept_pair h ≡ h → kept_pair c ≡ c → kept_pair f ≡ f → n < counts → kept (dac_of p h c f n) ≡ dac_of p h c f n
kept_parts p h c f n small eh ec ef few =
    let e : p % period ≡ p = omega arith in
    let en : kept_count n ≡ n = omega arith in
    λ i. dac_of (e i) (eh i) (ec i) (ef i) (en i)

module _ (d : Dac) where
  kept_kept : kept (kept d) ≡ kept d
  kept_kept = kept_parts _ _ _ _ (kept_count d.high) (omega arith) (kept_pair_kept d.held) (kept_pair_kept d.completed) (kept_pair_kept d.in_force) (omega arith)

  clocked_kept : kept (clocked (kept d)) ≡ clocked (kept d)
  unfolding clocked
  clocked_kept = kept_parts _ _ _ _ (kept_count (so_far (kept d) + next_level (kept d))) (omega arith) (kept_pair_kept d.held) (kept_pair_kept d.completed) (playing_kept d) (omega arith)

  levels_kept : (c : ℕ) → levels_of c (kept d) ≡ levels_of c d
  unfolding levels_of
  levels_kept zero = refl
  levels_kept (suc c) = ap (λ (k : Dac). next_level k ∷ levels_of c (clocked k)) kept_kept

  after_kept : (c : ℕ) → after_clocks (suc c) (kept d) ≡ after_clocks (suc c) d
  unfolding after_clocks
  after_kept c = ap (λ (k : Dac). after_clocks c (clocked k)) kept_kept

stays_kept : (c : ℕ) (d : Dac) → kept (after_clocks (suc c) d) ≡ after_clocks (suc c) d
unfolding after_clocks
stays_kept zero d = clocked_kept d
stays_kept (suc c) d = stays_kept c (clocked (kept d))

-- what a play answers
answer_kept : (d : Dac) (room c : ℕ) → answer_of (kept d) c room ≡ answer_of d c room
unfolding answer_of after_clocks
answer_kept d room c = ap (λ (n : ℕ). pick (too_many_levels c room) (refused 14 0) (accepted n)) (same c)
  where
    same : (c : ℕ) → kept_count (after_clocks c (kept d)).high ≡ kept_count (after_clocks c d).high
    same zero = omega arith
    same (suc c) = ap (λ (x : Dac). kept_count x.high) (after_kept d c)

pub keeps : Keeps
keeps d byte c room =
    let low = pair_kept (pair (kept_half d.held.coarse) (kept_half byte)) (omega arith) (omega arith) in
    let made = pair_kept (pair (kept_half byte) (kept_half d.held.fine)) (omega arith) (omega arith) in
    let done = kept_pair_kept d.completed in
    let force = kept_pair_kept d.in_force in
    let low_kept = kept_parts (d.position % period) _ _ _ (kept_count d.high) (omega arith) low done force (omega arith) in
    let high_kept = kept_parts (d.position % period) _ _ _ (kept_count d.high) (omega arith) made made force (omega arith) in (
      ap (λ (k : Dac). dac_of k.position (pair k.held.coarse (kept_half byte)) k.completed k.in_force k.high) (kept_kept d),
      low_kept,
      ap (λ (k : Dac). dac_of k.position (pair (kept_half byte) k.held.fine) (pair (kept_half byte) k.held.fine) k.in_force k.high) (kept_kept d),
      high_kept,
      levels_kept d c,
      after_kept d c,
      stays_kept c d,
      answer_kept d room c,
    )
