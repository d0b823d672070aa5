-- The levels of a wave, joined to what the code writes: within a sub-period a wave is high and then low, and a wave is its first levels and then the
-- others.
-- Assumes nothing.
use Rattle.std.proofs.Common.{ℕ, zero, suc, ◌+◌, ◌-◌, ◌*◌, ◌/◌, ◌%◌, ◌<◌, ◌≤◌, min, ◌≡◌, refl, sym, ap, ap₂, ◌∙◌, Bool, true, false, List, [], ◌∷◌, ◌++◌, append_assoc, append-nil, zero-add, suc-add, add-suc, add-zero, arith, ltb, length, get_or, take, drop, set, replicate, length-append, length-drop, length-set, take_at, drop_at, drop-drop, length-take-le, get_or-set_same, get_or-set_other, ltb-true, ltb-false, lt-ltb, le-ltb}
use Rattle.std.proofs.Math.Decide.{ℕ_discrete, dec_lt}
use Rattle.std.proofs.Math.Seq.{drop-length}
use Rattle.laws.specs.Pick.{pick}
use Rattle.laws.specs.Lists.{tabulate}
use Rattle.laws.specs.Sums.{sum_all}
use Rattle.laws.proofs.Lists.{length_tabulate, get_or_tabulate, is_tabulate, tabulate_same}
use Rattle.laws.proofs.Sums.{sum_append, sum_same}
use Rattle.wave.specs.declared.Pair.{Pair}
use Rattle.wave.specs.Wave.{period, sub_period, added, level, wave, wave_in, laid}
use Rattle.wave.specs.Steps.{level_below, high_in, pulse, Lays}

pub wave_is : (q : Pair) (a n : ℕ) → wave q a n ≡ tabulate n (λ k. level q (a + k))
unfolding wave tabulate
wave_is q a zero = refl
wave_is q a (suc n) =
    ap₂ (λ (l : ℕ) (ls : List ℕ). l ∷ ls) (ap (λ (p : ℕ). level q p) (sym (add-zero a)))
    (wave_is q (suc a) n ∙ tabulate_same n _ _ (λ k h. let e : suc a + k ≡ a + suc k = omega arith in ap (λ (p : ℕ). level q p) e))

pub length_wave : (q : Pair) (a n : ℕ) → length (wave q a n) ≡ n
length_wave q a n = ap length (wave_is q a n) ∙ length_tabulate n _

pub wave_add : (q : Pair) (a n m : ℕ) → wave q a (n + m) ≡ wave q a n ++ wave q (a + n) m
unfolding wave
wave_add q a zero m = rw (zero-add, add-zero)
wave_add q a (suc n) m = rw (suc-add, add-suc, ← suc-add) (ap (λ (l : List ℕ). level q a ∷ l) (wave_add q (suc a) n m))

pub sum_wave_add : (q : Pair) (a n m : ℕ) → sum_all (wave q a (n + m)) ≡ sum_all (wave q a n) + sum_all (wave q (a + n) m)
sum_wave_add q a n m = ap sum_all (wave_add q a n m) ∙ sum_append (wave q a n) (wave q (a + n) m)

level_le : (q : Pair) (a : ℕ) → level q a ≤ 1
unfolding level
level_le q a = go (ltb (a % sub_period) (q.coarse + added q.fine (a / sub_period)))
  where
    go : (b : Bool) → pick b 1 0 ≤ 1
    go true = omega arith
    go false = omega arith

-- no more are high than there are
pub sum_wave_le : (q : Pair) (a n : ℕ) → sum_all (wave q a n) ≤ n
unfolding wave sum_all
sum_wave_le q a zero = omega arith
sum_wave_le q a (suc n) = omega (arith, level_le q a, sum_wave_le q (suc a) n)

pub lays_most : (q : Pair) (a n r : ℕ) (l : List ℕ) → Lays q a n r l → r ≤ n
lays_most q a n r l is = omega (arith, is.0, sum_wave_le q a n)

-- one clock of a sub-period that is high for its first x
module _ (i x n : ℕ) where
  still_high : i < x → pulse i x (suc n) ≡ 1 ∷ pulse (suc i) x n
  unfolding pulse
  still_high h =
      let a : min (x - i) (suc n) ≡ suc (min (x - suc i) n) = omega arith in
      let b : suc n - (x - i) ≡ n - (x - suc i) = omega arith in
      rw (a, b)

  now_low : x ≤ i → pulse i x (suc n) ≡ 0 ∷ pulse (suc i) x n
  unfolding pulse
  now_low h =
      let a : min (x - i) (suc n) ≡ 0 = omega arith in
      let b : suc n - (x - i) ≡ suc n = omega arith in
      let c : min (x - suc i) n ≡ 0 = omega arith in
      let d : n - (x - suc i) ≡ n = omega arith in
      rw (a, b, c, d)

  one_clock : pick (ltb i x) 1 0 ∷ pulse (suc i) x n ≡ pulse i x (suc n)
  one_clock = go (ltb i x) refl
    where
      go : (b : Bool) → ltb i x ≡ b → pick b 1 0 ∷ pulse (suc i) x n ≡ pulse i x (suc n)
      go true t = sym (still_high (ltb-true i x t))
      go false t = sym (now_low (ltb-false i x t))

no_pulse : (i x : ℕ) → [] ≡ pulse i x 0
unfolding pulse
no_pulse i x =
    let a : min (x - i) 0 ≡ 0 = omega arith in
    let b : 0 - (x - i) ≡ 0 = omega arith in
    rw (a, b)

level_at_law : (q : Pair) (s i : ℕ) → i < sub_period → level q (sub_period * s + i) ≡ pick (ltb i (q.coarse + added q.fine s)) 1 0
unfolding level
level_at_law q s i h =
    let a : (sub_period * s + i) % sub_period ≡ i = omega arith in
    let b : (sub_period * s + i) / sub_period ≡ s = omega arith in
    rw (a, b)

-- the clocks of sub-period s from its i-th on
pub within_sub : (q : Pair) (s n i : ℕ) → i + n ≤ sub_period → wave q (sub_period * s + i) n ≡ pulse i (q.coarse + added q.fine s) n
unfolding wave
within_sub q s zero i h = no_pulse i (q.coarse + added q.fine s)
within_sub q s (suc n) i h =
    let x : ℕ = q.coarse + added q.fine s in
    let rest : wave q (suc (sub_period * s + i)) n ≡ pulse (suc i) x n = rw (← add-suc) (within_sub q s n (suc i) (omega arith)) in
    ap₂ (λ (l : ℕ) (ls : List ℕ). l ∷ ls) (level_at_law q s i (omega arith)) rest ∙ one_clock i x n

-- a sub-period is high for no more clocks than it has
all_high : (i x n : ℕ) → i + n ≤ x → pulse i x n ≡ replicate n 1 ++ replicate 0 0
unfolding pulse
all_high i x n h =
    let a : min (x - i) n ≡ n = omega arith in
    let b : n - (x - i) ≡ 0 = omega arith in
    rw (a, b)

no_longer : (i x n : ℕ) → i + n ≤ sub_period → pulse i x n ≡ pulse i (min x sub_period) n
no_longer i x n h = go (dec_lt x sub_period)
  where
    go : Dec (x < sub_period) → pulse i x n ≡ pulse i (min x sub_period) n
    go (yes l) = let e : min x sub_period ≡ x = omega arith in rw e
    go (no l) =
        let e : min x sub_period ≡ sub_period = omega arith in
        rw e (all_high i x n (omega arith) ∙ sym (all_high i sub_period n h))

-- how many of a pulse's levels are high
pub sum_pulse : (i x n : ℕ) → sum_all (pulse i x n) ≡ min (x - i) n
unfolding pulse
sum_pulse i x n =
    let h : ℕ = min (x - i) n in
    let l : ℕ = n - (x - i) in
    omega (arith, sum_append (replicate h 1) (replicate l 0), sum_same h 1, sum_same l 0)

-- a level by what is left, which is 128 or more before the turn
pub level_left : (left before i v : ℕ) → before + i ≤ left → left < 256 → v ≡ (left - (before + i)) / 128 → v ≡ level_below (127 + before + i) left
level_left left before i v most small e = go (ltb (127 + before + i) left) refl
  where
    go : (b : Bool) → ltb (127 + before + i) left ≡ b → v ≡ pick b 1 0
    go true t = let below = ltb-true (127 + before + i) left t in omega arith
    go false t = let above = ltb-false (127 + before + i) left t in omega arith

-- clock by clock
pub pulse_is : (i x n : ℕ) → pulse i x n ≡ tabulate n (λ k. level_below (i + k) x)
unfolding tabulate
pulse_is i x zero = sym (no_pulse i x)
pulse_is i x (suc n) =
    sym (one_clock i x n)
    ∙ ap₂ (λ (l : ℕ) (ls : List ℕ). l ∷ ls) (ap (λ (k : ℕ). level_below k x) (sym (add-zero i)))
    (pulse_is (suc i) x n ∙ tabulate_same n _ _ (λ k h. let e : suc i + k ≡ i + suc k = omega arith in ap (λ (p : ℕ). level_below p x) e))

-- the clocks of a sub-period by the position a of the first of them
as_pulse : (q : Pair) (a n : ℕ) → a % sub_period + n ≤ sub_period → wave q a n ≡ pulse (a % sub_period) (high_in q (a / sub_period)) n
as_pulse q a n h =
    let e : a ≡ sub_period * (a / sub_period) + a % sub_period = omega arith in
    ap (λ (p : ℕ). wave q p n) e ∙ within_sub q (a / sub_period) n (a % sub_period) h ∙ no_longer (a % sub_period) (q.coarse + added q.fine (a / sub_period)) n h

-- a pulse goes by how far ahead its turn is, at which it goes low
pub same_turn : (i x j y n : ℕ) → x - i ≡ y - j → pulse i x n ≡ pulse j y n
unfolding pulse
same_turn i x j y n e = rw e refl

-- What is laid and counted within a sub-period, where the turn is as far ahead as the position and the pair say.
pub within_laid : (q : Pair) (a i x n r : ℕ) (ls : List ℕ) → ls ≡ pulse i x n → r ≡ min (x - i) n → x - i ≡ high_in q (a / sub_period) - a % sub_period
    → a % sub_period + n ≤ sub_period → Lays q a n r ls
within_laid q a i x n r ls is count ahead h =
    let e : pulse i x n ≡ wave q a n = same_turn i x (a % sub_period) (high_in q (a / sub_period)) n ahead ∙ sym (as_pulse q a n h) in
    (count ∙ sym (sum_pulse i x n) ∙ ap sum_all e, is ∙ e)

-- a whole one, k, as `whole` lays it
pub whole_laid : (q : Pair) (a k n r : ℕ) (ls : List ℕ) → a ≡ sub_period * k → n ≡ sub_period → (r ≡ high_in q k) × (ls ≡ pulse 0 (high_in q k) n) → Lays q a n r ls
whole_laid q a k n r ls at long is =
    let here : k ≡ a / sub_period = omega arith in
    let begins : 0 ≡ a % sub_period = omega arith in
    within_laid q a 0 (high_in q k) n r ls is.1 (omega (arith, is.0)) (ap (λ (m : ℕ). high_in q m - 0) here ∙ ap (λ (m : ℕ). high_in q (a / sub_period) - m) begins) (omega arith)

-- the same of what is left, as `many` and those above it count it
pub left_laid : (q : Pair) (a x left n r : ℕ) (ls : List ℕ) → ls ≡ pulse 127 left n → x ≡ high_in q (a / sub_period) → left ≡ x + 127 - a % sub_period → r ≡ min (x - a % sub_period) n
    → a % sub_period + n ≤ sub_period → Lays q a n r ls
left_laid q a x left n r ls is high from count h =
    let ahead : left - 127 ≡ x - a % sub_period = omega arith in
    within_laid q a 127 left n r ls is (count ∙ ap (λ (t : ℕ). min t n) (sym ahead)) (ahead ∙ ap (λ (y : ℕ). y - a % sub_period) high) h

-- a part written behind the first elements xs: what is lent, and what the whole is after it
module _ (xs s : List ℕ) (i k : ℕ) (long : length xs ≡ i) where
  pub behind : take k (drop i (xs ++ s)) ≡ take k s
  behind = rw (drop_at xs s i long)

  pub put_behind : (ys : List ℕ) → take i (xs ++ s) ++ (ys ++ drop k (drop i (xs ++ s))) ≡ xs ++ (ys ++ drop k s)
  put_behind ys = rw (take_at xs s i long, drop_at xs s i long)

length_pulse : (i x n : ℕ) → length (pulse i x n) ≡ n
length_pulse i x n = ap length (pulse_is i x n) ∙ length_tabulate n _

-- a pulse is its first levels and then the others
pulse_add : (i x n m : ℕ) → pulse i x (n + m) ≡ pulse i x n ++ pulse (i + n) x m
pulse_add i x zero m = rw (zero-add, add-zero) (ap (λ (l : List ℕ). l ++ pulse i x m) (no_pulse i x))
pulse_add i x (suc n) m =
    rw (suc-add n m, add-suc i n, ← suc-add i n)
    (sym (one_clock i x (n + m)) ∙ ap (λ (l : List ℕ). pick (ltb i x) 1 0 ∷ l) (pulse_add (suc i) x n m)
    ∙ ap (λ (l : List ℕ). l ++ pulse (suc i + n) x m) (one_clock i x n))

-- Laid in two runs, first k levels, and then the others, from clock j on.
pub two_runs : (i x k j : ℕ) (s ys zs : List ℕ) → k ≤ length s → ys ≡ pulse i x (length (take k s))
    → zs ≡ pulse j x (length (take (length (ys ++ drop k s) - k) (drop k (ys ++ drop k s)))) → j ≡ i + k
    → take k (ys ++ drop k s) ++ (zs ++ drop (length (ys ++ drop k s) - k) (drop k (ys ++ drop k s))) ≡ pulse i x (length s)
two_runs i x k j s ys zs h first others behind_them =
    let is : ys ≡ pulse i x k = first ∙ ap (pulse i x) (length-take-le k s h) in
    let size : length ys ≡ k = ap length is ∙ length_pulse i x k in
    let all : k + (length s - k) ≡ length s = omega arith in
    let over : length (ys ++ drop k s) - k ≡ length s - k = omega (arith, length-append ys (drop k s), length-drop k s) in
    let room : length (take (length s - k) (drop k s)) ≡ length s - k = length-take-le (length s - k) (drop k s) (omega (arith, length-drop k s)) in
    let part : zs ≡ pulse (i + k) x (length s - k) = others ∙ ap₂ (λ (c n : ℕ). pulse c x n) behind_them (rw over (ap length (behind ys (drop k s) k (length s - k) size) ∙ room)) in
    let rest : zs ++ drop (length (ys ++ drop k s) - k) (drop k s) ≡ pulse (i + k) x (length s - k) = rw (over, drop-drop, all, drop-length s) (append-nil zs ∙ part) in
    put_behind ys (drop k s) k (length (ys ++ drop k s) - k) size zs ∙ ap₂ (λ (l m : List ℕ). l ++ m) is rest ∙ sym (pulse_add i x k (length s - k)) ∙ ap (pulse i x) all

-- A clock more or none, laid behind the high ones.
pub one_more : (c b i x n : ℕ) (ys : List ℕ) → c < n → b ≤ 1 → x - i ≡ c → ys ≡ pulse i x n → set ys c b ≡ pulse 0 (c + b) n
one_more c b i x n ys inside most ahead laid =
    let is : ys ≡ pulse 0 c n = laid ∙ same_turn i x 0 c n (omega arith) in
    let size : length ys ≡ n = ap length is ∙ length_pulse 0 c n in
    is_tabulate 0 n _ (set ys c b) (length-set ys c b ∙ size) (λ k h. go is size k h (ℕ_discrete k c)) ∙ sym (pulse_is 0 (c + b) n)
  where
    level_is : (k x v : ℕ) → (k < x → v ≡ 1) → (x ≤ k → v ≡ 0) → v ≡ level_below (0 + k) x
    level_is k x v high low = rw (zero-add k) (by (dec_lt k x))
      where
        by : Dec (k < x) → v ≡ level_below k x
        by (yes l) = rw (lt-ltb k x l) (high l)
        by (no l) = let m : x ≤ k = omega arith in rw (le-ltb k x m) (low m)

    old : ys ≡ pulse 0 c n → (k : ℕ) → k < n → get_or ys k 0 ≡ level_below (0 + k) c
    old is k h = ap (λ (l : List ℕ). get_or l k 0) (is ∙ pulse_is 0 c n) ∙ get_or_tabulate n _ k 0 h

    go : ys ≡ pulse 0 c n → length ys ≡ n → (k : ℕ) → k < n → Dec (k ≡ c) → get_or (set ys c b) k 0 ≡ level_below (0 + k) (c + b)
    go is size k h (yes e) = rw e (get_or-set_same ys c b 0 (omega arith) ∙ level_is c (c + b) b (λ l. omega arith) (λ l. omega arith))
    go is size k h (no d) = get_or-set_other ys c k b 0 d ∙ old is k h ∙ level_is k (c + b) (level_below (0 + k) c) (λ l. rw (zero-add k) (rw (lt-ltb k c (omega arith)) refl)) (λ l. rw (zero-add k) (rw (le-ltb k c (omega arith)) refl))

-- l is l₀ with the first i levels of the wave from a position on over it, of which r are high
pub record Begun (q : Pair) (a i r : ℕ) (l l₀ : List ℕ) : Type 0 where
  pub inside : i ≤ length l₀
  pub size : length l ≡ length l₀
  pub high : r ≡ sum_all (wave q a i)
  pub most : r ≤ i
  pub is : l ≡ wave q a i ++ drop i l₀

module _ (q : Pair) (a : ℕ) where
  begun_by : (i r : ℕ) (l l₀ : List ℕ) → i ≤ length l₀ → r ≡ sum_all (wave q a i) → l ≡ wave q a i ++ drop i l₀ → Begun q a i r l l₀
  begun_by i r l l₀ h n e =
      record { inside = h; size = ap length e ∙ omega (arith, length-append (wave q a i) (drop i l₀), length-drop i l₀, length_wave q a i); high = n; most = omega (arith, n, sum_wave_le q a i); is = e }

  pub begun_none : (l : List ℕ) → Begun q a 0 0 l l
  unfolding wave sum_all
  begun_none l = begun_by 0 0 l l (omega arith) refl refl

  -- a part is laid behind it, up to e
  pub begun_more : (i e r m s : ℕ) (l l₀ ys : List ℕ) → Begun q a i r l l₀ → i ≤ e → e ≤ length l₀ → Lays q (a + i) (length (take (e - i) (drop i l))) m ys → s ≡ r + m
      → Begun q a e s (take i l ++ (ys ++ drop (e - i) (drop i l))) l₀
  begun_more i e r m s l l₀ ys g on room is sum =
      let whole : i + (e - i) ≡ e = omega arith in
      let long : length (wave q a i) ≡ i = length_wave q a i in
      let part : length (take (e - i) (drop i l)) ≡ e - i = length-take-le (e - i) (drop i l) (omega (arith, length-drop i l, g.size)) in
      let more : wave q a i ++ wave q (a + i) (e - i) ≡ wave q a e = sym (wave_add q a i (e - i)) ∙ ap (wave q a) whole in
      let laid : ys ≡ wave q (a + i) (e - i) = is.1 ∙ ap (wave q (a + i)) part in
      let count : m ≡ sum_all (wave q (a + i) (e - i)) = is.0 ∙ ap (λ (n : ℕ). sum_all (wave q (a + i) n)) part in
      begun_by e s _ l₀ room
      (omega (arith, g.high, sum_wave_add q a i (e - i)) ∙ ap (λ (n : ℕ). sum_all (wave q a n)) whole)
      (rw g.is (put_behind (wave q a i) (drop i l₀) i (e - i) long ys
      ∙ rw (drop-drop, whole, laid) (sym (append_assoc (wave q a i) (wave q (a + i) (e - i)) (drop e l₀)) ∙ ap (λ (w : List ℕ). w ++ drop e l₀) more)))

  -- a whole sub-period is laid behind it
  pub begun_whole : (i n r m s : ℕ) (l l₀ ys : List ℕ) → a + i ≡ sub_period * n → Begun q a i r l l₀ → i + sub_period ≤ length l₀
      → (m ≡ high_in q n) × (ys ≡ pulse 0 (high_in q n) (length (take (i + sub_period - i) (drop i l)))) → s ≡ r + m
      → Begun q a (i + sub_period) s (take i l ++ (ys ++ drop (i + sub_period - i) (drop i l))) l₀
  begun_whole i n r m s l l₀ ys at g room is sum =
      let part : length (take (i + sub_period - i) (drop i l)) ≡ sub_period = length-take-le (i + sub_period - i) (drop i l) (omega (arith, length-drop i l, g.size)) ∙ omega arith in
      begun_more i (i + sub_period) r m s l l₀ ys g (omega arith) room (whole_laid q (a + i) n _ m ys at part is) sum

  pub begun_all : (i r : ℕ) (l l₀ : List ℕ) → length l₀ ≤ i → Begun q a i r l l₀ → Lays q a (length l₀) r l
  begun_all i r l l₀ h g =
      let all : i ≡ length l₀ = omega (arith, g.inside) in
      (g.high ∙ ap (λ (n : ℕ). sum_all (wave q a n)) all, g.is ∙ rw (all, drop-length l₀) (append-nil (wave q a (length l₀))))

  -- the part behind it is laid, and that is all
  pub begun_rest : (i b r m s : ℕ) (l l₀ ys : List ℕ) → Begun q a i r l l₀ → Lays q b (length (take (length l - i) (drop i l))) m ys → b ≡ a + i → s ≡ r + m
      → Lays q a (length l₀) s (take i l ++ (ys ++ drop (length l - i) (drop i l)))
  begun_rest i b r m s l l₀ ys g is at sum =
      let laid : Lays q (a + i) (length (take (length l - i) (drop i l))) m ys = rw (← at) is in
      begun_all (length l) s _ l₀ (omega (arith, g.size))
      (begun_more i (length l) r m s l l₀ ys g (omega (arith, g.size, g.inside)) (omega (arith, g.size)) laid sum)

  module _ (s : List ℕ) where
    -- a first part is laid
    pub begun_first : (n r : ℕ) (ls : List ℕ) → n ≤ length s → Lays q a (length (take n s)) r ls → Begun q a n r (ls ++ drop n s) s
    begun_first n r ls h is =
        let long : length (take n s) ≡ n = length-take-le n s h in
        begun_by n r _ s h (is.0 ∙ ap (λ (k : ℕ). sum_all (wave q a k)) long) (ap (λ (w : List ℕ). w ++ drop n s) (is.1 ∙ ap (wave q a) long))

    -- What `lay` answers, and what it leaves in s: as many levels as there are bytes, and none from the period's end on.
    laid_is : (n : ℕ) → n ≡ min (length s) (period - a) → wave q a n ++ drop n s ≡ laid q a s
    unfolding laid
    laid_is n e = rw (← e, length_wave q a n)

    begun_laid : (n r : ℕ) (l : List ℕ) → n ≡ min (length s) (period - a) → Begun q a n r l s → (r ≡ sum_all (wave_in q a (length s))) × (l ≡ laid q a s)
    begun_laid n r l e g = (g.high ∙ ap (λ (k : ℕ). sum_all (wave q a k)) e, g.is ∙ laid_is n e)

    pub past_end : period ≤ a → (r : ℕ) → r ≡ 0 → (r ≡ sum_all (wave_in q a (length s))) × (s ≡ laid q a s)
    past_end h r none = begun_laid 0 r s (omega arith) (rw none (begun_none s))

    pub first_laid : (n r : ℕ) (ls : List ℕ) → n ≡ min (length s) (period - a) → Lays q a (length (take n s)) r ls
        → (r ≡ sum_all (wave_in q a (length s))) × (ls ++ drop n s ≡ laid q a s)
    first_laid n r ls e is = begun_laid n r _ e (begun_first n r ls (omega arith) is)

-- no more of them are high than there are bytes, or clocks of the period
pub in_most : (q : Pair) (a room r : ℕ) → r ≡ sum_all (wave_in q a room) → (r ≤ room) × (r ≤ period - a)
in_most q a room r e = let most = sum_wave_le q a (min room (period - a)) in (omega arith, omega arith)

-- where the bytes are no more than the period has left
pub in_all : (q : Pair) (a room : ℕ) → a + room ≤ period → wave_in q a room ≡ wave q a room
in_all q a room h = let e : min room (period - a) ≡ room = omega arith in ap (wave q a) e

pub laid_all : (q : Pair) (a : ℕ) (s : List ℕ) → a + length s ≤ period → laid q a s ≡ wave q a (length s)
laid_all q a s h = sym (laid_is q a s (length s) (omega arith)) ∙ rw (drop-length s) (append-nil (wave q a (length s)))

pub all_laid : (q : Pair) (a : ℕ) (s : List ℕ) (r : ℕ) (ls : List ℕ) → a + length s ≤ period → Lays q a (length s) r ls
    → (r ≡ sum_all (wave_in q a (length s))) × (ls ≡ laid q a s)
all_laid q a s r ls h is = (is.0 ∙ ap sum_all (sym (in_all q a (length s) h)), is.1 ∙ sym (laid_all q a s h))

-- and where the period ends before they do
pub laid_cut : (q : Pair) (a : ℕ) (s : List ℕ) (left : ℕ) → left ≡ period - a → left ≤ length s → laid q a s ≡ wave q a left ++ drop left s
laid_cut q a s left e h = sym (laid_is q a s left (omega arith))
