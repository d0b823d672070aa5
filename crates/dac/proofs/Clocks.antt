-- The clocks of a play, joined to what its code writes: within a period the levels are the wave of the pair in force, and a play is its first clocks and
-- then the others.
-- Assumes nothing.
use Rattle.std.proofs.Common.{◌≡◌, ℕ, zero, suc, ◌+◌, ◌-◌, ◌%◌, ◌<◌, ◌≤◌, Bool, true, false, eqb, List, [], ◌∷◌, ◌++◌, length, take, drop, refl, sym, ap, ap₂, ◌∙◌, zero-add, suc-add, append_assoc, length-drop, take_at, drop_at, length-take-le, arith, eq-eqb, ne_eqb}
use Rattle.laws.specs.Pick.{pick}
use Rattle.laws.specs.Sums.{sum_all}
use Rattle.wave.specs.declared.Pair.{Pair}
use Rattle.wave.specs.Wave.{period, level, wave, over, wave_in, laid}
use Rattle.wave.proofs.Within.{length_wave, sum_wave_le, behind, put_behind, in_all, laid_all, laid_cut}
use Rattle.dac.specs.declared.Dac.{Dac}
use Rattle.dac.specs.Running.{halves, kept_pair, kept_count, dac_of, kept, playing, next_level, so_far, clocked, after_clocks, levels_of}

-- Kept values are kept as they are.
pub pair_kept : (q : Pair) → q.coarse < halves → q.fine < halves → kept_pair q ≡ q
pair_kept q hc hf =
    let a : q.coarse % halves ≡ q.coarse = omega arith in
    let b : q.fine % halves ≡ q.fine = omega arith in
    rw (a, b)

pub kept_pair_kept : (q : Pair) → kept_pair (kept_pair q) ≡ kept_pair q
kept_pair_kept q = pair_kept (kept_pair q) (omega arith) (omega arith)

pub playing_kept : (d : Dac) → kept_pair (playing (kept d)) ≡ playing (kept d)
unfolding playing
playing_kept d = go (eqb (kept d).position 0)
  where
    go : (b : Bool) → kept_pair (pick b (kept_pair d.completed) (kept_pair d.in_force)) ≡ pick b (kept_pair d.completed) (kept_pair d.in_force)
    go true = kept_pair_kept d.completed
    go false = kept_pair_kept d.in_force

pub first_plays : (d : Dac) → d.position ≡ 0 → playing d ≡ d.completed
unfolding playing
first_plays d e = rw (eq-eqb d.position 0 e)

pub later_plays : (d : Dac) → 0 < d.position → playing d ≡ d.in_force
unfolding playing
later_plays d h = rw (ne_eqb d.position 0 (λ e. omega arith))

pub first_so_far : (d : Dac) → d.position ≡ 0 → so_far d ≡ 0
unfolding so_far
first_so_far d e = rw (eq-eqb d.position 0 e)

pub later_so_far : (d : Dac) → 0 < d.position → so_far d ≡ d.high
unfolding so_far
later_so_far d h = rw (ne_eqb d.position 0 (λ e. omega arith))

-- the high clocks that the next m clocks make, in the same period, and the record after them
unfoldable pub counted : Dac → ℕ → ℕ
counted k m = kept_count (so_far k + sum_all (wave (playing k) k.position m))

unfoldable pub moved : Dac → ℕ → Dac
moved d m = dac_of (((kept d).position + m) % period) (kept d).held (kept d).completed (playing (kept d)) (counted (kept d) m)

-- the first of them, and the others
count_next : (k : Dac) (m : ℕ) → counted k (suc m) ≡ kept_count (so_far k + next_level k + sum_all (wave (playing k) (suc k.position) m))
unfolding counted next_level wave sum_all
count_next k m = omega arith

-- one clock on, with the period not yet over
module _ (d : Dac) (more : (kept d).position + 1 < period) where
  position_on : (kept (clocked (kept d))).position ≡ suc (kept d).position
  unfolding clocked
  position_on = omega arith

  playing_on : playing (kept (clocked (kept d))) ≡ playing (kept d)
  unfolding clocked
  playing_on = later_plays (kept (clocked (kept d))) (omega arith) ∙ playing_kept d

  so_far_on : so_far (kept (clocked (kept d))) ≡ kept_count (so_far (kept d) + next_level (kept d))
  unfolding clocked
  so_far_on = later_so_far (kept (clocked (kept d))) (omega (arith, position_on)) ∙ omega arith

  counted_on : (m : ℕ) → counted (kept (clocked (kept d))) m ≡ counted (kept d) (suc m)
  unfolding counted
  counted_on m =
      ap₂ (λ (q : Pair) (p : ℕ). kept_count (so_far (kept (clocked (kept d))) + sum_all (wave q p m))) playing_on position_on
      ∙ omega (arith, so_far_on, count_next (kept d) m)

  moved_on : (m : ℕ) → moved (clocked (kept d)) m ≡ moved d (suc m)
  unfolding moved clocked
  moved_on m =
      let e : ((kept (clocked (kept d))).position + m) % period ≡ ((kept d).position + suc m) % period = omega arith in
      λ i. dac_of (e i) (kept_pair_kept d.held i) (kept_pair_kept d.completed i) (playing_on i) (counted_on m i)

level_next : (d : Dac) → next_level d ≡ level (playing d) d.position
unfolding next_level
level_next d = refl

one_moved : (d : Dac) → clocked (kept d) ≡ moved d 1
unfolding clocked moved wave sum_all
one_moved d =
    let e : kept_count (so_far (kept d) + next_level (kept d)) ≡ counted (kept d) 1 = omega (arith, count_next (kept d) 0) in
    ap (λ (n : ℕ). dac_of (((kept d).position + 1) % period) (kept d).held (kept d).completed (playing (kept d)) n) e

pub levels_within : (m : ℕ) (d : Dac) → (kept d).position + m ≤ period → levels_of m d ≡ wave (playing (kept d)) (kept d).position m
unfolding levels_of wave
levels_within zero d h = refl
levels_within (suc zero) d h = ap (λ (l : ℕ). l ∷ []) (level_next (kept d))
levels_within (suc (suc n)) d h =
    let more : (kept d).position + 1 < period = omega arith in
    let rest = levels_within (suc n) (clocked (kept d)) (omega (arith, position_on d more)) ∙ ap₂ (λ (q : Pair) (p : ℕ). wave q p (suc n)) (playing_on d more) (position_on d more) in
    ap₂ (λ (l : ℕ) (ls : List ℕ). l ∷ ls) (level_next (kept d)) rest

after_moved : (m : ℕ) (d : Dac) → (kept d).position + suc m ≤ period → after_clocks (suc m) d ≡ moved d (suc m)
unfolding after_clocks
after_moved zero d h = one_moved d
after_moved (suc n) d h =
    let more : (kept d).position + 1 < period = omega arith in
    after_moved n (clocked (kept d)) (omega (arith, position_on d more)) ∙ moved_on d more (suc n)

pub after_within : (m : ℕ) (d : Dac) → 0 < m → (kept d).position + m ≤ period
    → after_clocks m d ≡ moved d m
after_within zero d some h = absurd (omega arith)
after_within (suc m) d some h = after_moved m d h

pub length_levels : (c : ℕ) (d : Dac) → length (levels_of c d) ≡ c
unfolding levels_of
length_levels zero d = refl
length_levels (suc c) d = ap suc (length_levels c (clocked (kept d)))

-- a clocks and then b
pub levels_split : (a b : ℕ) (d : Dac) → levels_of (a + b) d ≡ levels_of a d ++ levels_of b (after_clocks a d)
unfolding levels_of after_clocks
levels_split zero b d = rw zero-add
levels_split (suc a) b d = rw suc-add (ap (λ (l : List ℕ). next_level (kept d) ∷ l) (levels_split a b (clocked (kept d))))

pub after_split : (a b : ℕ) (d : Dac) → after_clocks (a + b) d ≡ after_clocks b (after_clocks a d)
unfolding after_clocks
after_split zero b d = rw zero-add
after_split (suc a) b d = rw suc-add (after_split a b (clocked (kept d)))

over_levels : (c : ℕ) (d : Dac) (s ls : List ℕ) → ls ≡ levels_of c d → ls ++ drop c s ≡ over (levels_of c d) s
over_levels c d s ls e = rw (length_levels c d, e)

-- What `run` finds for a record: its kept form k, the pair q by which the next clock is played, and the high clocks b before it. A play that ends within
-- the period under way:
module _ (d k : Dac) (q : Pair) (is : k ≡ kept d) (plays : q ≡ playing k) (c : ℕ) (s : List ℕ) (room : c ≤ length s) where
  long : length (take c s) ≡ c
  long = length-take-le c s room

  pub run_within : (b r n : ℕ) (ls : List ℕ) → 0 < c → k.position + c ≤ period → b ≡ so_far k → r ≡ sum_all (wave_in q k.position (length (take c s))) → n ≡ kept_count (b + r)
      → ls ≡ laid q k.position (take c s)
      → (dac_of ((k.position + c) % period) k.held k.completed q n ≡ after_clocks c d) × (ls ++ drop c s ≡ over (levels_of c d) s)
  unfolding moved counted
  run_within b r n ls some fits before more total e =
      let p : k.position ≡ (kept d).position = ap (λ (x : Dac). x.position) is in
      let f : ls ≡ levels_of c d = e ∙ laid_all q k.position (take c s) (omega (arith, long)) ∙ rw (long, plays, is) (sym (levels_within c d (omega arith))) in
      let sum : r ≡ sum_all (wave q k.position c) = more ∙ ap sum_all (in_all q k.position (length (take c s)) (omega (arith, long))) ∙ ap (λ (m : ℕ). sum_all (wave q k.position m)) long in
      let high : n ≡ kept_count (so_far k + sum_all (wave q k.position c)) = omega arith in
      (rw (high, plays, is) (sym (after_within c d some (omega arith))), over_levels c d s ls f)

  -- and one that goes on in the next, after the clocks that are left
  module _ (left : ℕ) (rest : left ≡ period - k.position) (past : left < c) (most : c ≤ period) where
    next : Dac
    next = dac_of 0 (kept d).held (kept d).completed (playing (kept d)) (counted (kept d) left)

    at_end_law : after_clocks left d ≡ next
    unfolding next moved
    at_end_law =
        let p : k.position ≡ (kept d).position = ap (λ (x : Dac). x.position) is in
        let z : ((kept d).position + left) % period ≡ 0 = omega arith in
        after_within left d (omega arith) (omega arith) ∙ ap (λ (n : ℕ). dac_of n (kept d).held (kept d).completed (playing (kept d)) (counted (kept d) left)) z

    loaded : playing (kept next) ≡ (kept d).completed
    unfolding next
    loaded = first_plays (kept next) refl ∙ kept_pair_kept d.completed

    next_levels : levels_of (c - left) next ≡ wave (kept d).completed 0 (c - left)
    unfolding next
    next_levels = levels_within (c - left) next (omega arith) ∙ ap (λ (p : Pair). wave p 0 (c - left)) loaded

    -- the count starts anew, and does not come to as many as there are
    next_counted : counted (kept next) (c - left) ≡ sum_all (wave (kept d).completed 0 (c - left))
    unfolding next counted
    next_counted =
        let p : k.position ≡ (kept d).position = ap (λ (x : Dac). x.position) is in
        ap (λ (p : Pair). kept_count (so_far (kept next) + sum_all (wave p 0 (c - left)))) loaded
        ∙ omega (arith, first_so_far (kept next) refl, sum_wave_le (kept d).completed 0 (c - left))

    next_after : after_clocks (c - left) next
        ≡ dac_of (((kept d).position + c) % period) (kept d).held (kept d).completed (kept d).completed (sum_all (wave (kept d).completed 0 (c - left)))
    unfolding next moved
    next_after =
        let p : k.position ≡ (kept d).position = ap (λ (x : Dac). x.position) is in
        let z : (0 % period + (c - left)) % period ≡ ((kept d).position + c) % period = omega arith in
        after_within (c - left) next (omega arith) (omega arith)
        ∙ (λ i. dac_of (z i) (kept_pair_kept d.held i) (kept_pair_kept d.completed i) (loaded i) (next_counted i))

    -- the first part lent, and what is lent of it again
    tail : List ℕ
    tail = drop left (take c s)

    long_tail : length tail ≡ c - left
    unfolding tail
    long_tail = omega (arith, length-drop left (take c s), long)

    pub run_across : (r n : ℕ) (ls ms : List ℕ) → ls ≡ laid q k.position (take c s)
        → r ≡ sum_all (wave_in k.completed 0 (length (take (c - left) (drop left (ls ++ drop c s))))) → n ≡ r
        → ms ≡ laid k.completed 0 (take (c - left) (drop left (ls ++ drop c s)))
        → (dac_of ((k.position + c) % period) k.held k.completed k.completed n ≡ after_clocks c d)
        × (take left (ls ++ drop c s) ++ (ms ++ drop (c - left) (drop left (ls ++ drop c s))) ≡ over (levels_of c d) s)
    unfolding tail
    run_across r n ls ms e anew total f =
        let whole : left + (c - left) ≡ c = omega arith in
        let p : k.position ≡ (kept d).position = ap (λ (x : Dac). x.position) is in
        let xs : List ℕ = wave q k.position left in
        let lx : length xs ≡ left = length_wave q k.position left in
        let a : xs ≡ levels_of left d = rw (plays, is) (sym (levels_within left d (omega arith))) in
        let cut : ls ++ drop c s ≡ xs ++ (tail ++ drop c s) =
        ap (λ (l : List ℕ). l ++ drop c s) (e ∙ laid_cut q k.position (take c s) left rest (omega (arith, long))) ∙ append_assoc xs tail (drop c s) in
        let lent : take (c - left) (drop left (ls ++ drop c s)) ≡ tail =
        rw cut (behind xs (tail ++ drop c s) left (c - left) lx ∙ take_at tail (drop c s) (c - left) long_tail) in
        let b : ms ≡ levels_of (c - left) (after_clocks left d) =
        f ∙ ap (laid k.completed 0) lent ∙ laid_all k.completed 0 tail (omega (arith, long_tail)) ∙ rw (long_tail, is, at_end_law) (sym next_levels) in
        let all : xs ++ ms ≡ levels_of c d = ap₂ (λ (x y : List ℕ). x ++ y) a b ∙ sym (levels_split left (c - left) d) ∙ ap (λ (n : ℕ). levels_of n d) whole in
        let high : n ≡ sum_all (wave k.completed 0 (c - left)) =
        total ∙ anew ∙ ap (λ (t : List ℕ). sum_all (wave_in k.completed 0 (length t))) lent ∙ rw long_tail (ap sum_all (in_all k.completed 0 (c - left) (omega arith))) in
        let r : after_clocks c d ≡ dac_of (((kept d).position + c) % period) (kept d).held (kept d).completed (kept d).completed (sum_all (wave (kept d).completed 0 (c - left))) =
        ap (λ (n : ℕ). after_clocks n d) (sym whole) ∙ after_split left (c - left) d ∙ ap (λ (x : Dac). after_clocks (c - left) x) at_end_law ∙ next_after in (
          rw (high, is) (sym r),
          rw cut (put_behind xs (tail ++ drop c s) left (c - left) lx ms ∙ rw (drop_at tail (drop c s) (c - left) long_tail)
              (sym (append_assoc xs ms (drop c s)) ∙ over_levels c d s (xs ++ ms) all)),
        )
