-- Where a line's body ends and what its end is decide the first line of a text: shown by walking the body.
-- Assumes nothing.
use Rattle.std.proofs.Common.{◌≡◌, ℕ, zero, suc, ◌+◌, ◌<◌, ◌≤◌, Bool, true, false, eqb, List, [], ◌∷◌, length, get_or, take, drop, sym, refl, ap, le_of_suc-le-suc, not-suc-le-zero, suc-add, zero-add, arith, drop_of_length-le, ne_eqb}
use mathlib.Core.Bool.{false≢true}
use Rattle.laws.specs.Pick.{pick, both}
use Rattle.laws.proofs.Both.{both_parts}
use Rattle.ihex.specs.Lines.{Plain, lines, onto, at_end, body_of}
use Rattle.ihex.specs.Steps.{end_length}

pub lines_nil : lines [] ≡ []
unfolding lines
lines_nil = refl

pub not_end : (c : ℕ) (s : List ℕ) → Plain c → at_end (c ∷ s) ≡ false
unfolding at_end
not_end c s p = simp (ne_eqb c 10 p.0, ne_eqb c 13 p.1)

-- the end of the text is a line's
pub ends_over : (s : List ℕ) (m : ℕ) → length s ≤ m → at_end (drop m s) ≡ true
unfolding at_end
ends_over s m h = rw (drop_of_length-le s {i = m} h)

-- the body goes up to the first end
pub body_cut : (m : ℕ) (s : List ℕ) → m ≤ length s → ((k : ℕ) → k < m → Plain (get_or s k 0)) → at_end (drop m s) ≡ true → body_of s ≡ take m s
unfolding body_of
body_cut zero [] h p e = refl
body_cut zero (c ∷ s) h p e = rw e
body_cut (suc m) [] h p e = absurd (not-suc-le-zero h)
body_cut (suc m) (c ∷ s) h p e =
    rw (not_end c s (p 0 (omega arith))) (ap (λ (l : List ℕ). c ∷ l) (body_cut m s (le_of_suc-le-suc h) (λ k l. p (suc k) (omega arith)) e))

-- and an end stands where it stops
pub record Cut (s body : List ℕ) : Type 0 where
  pub front : body ≡ take (length body) s
  pub within : length body ≤ length s
  pub ends : at_end (drop (length body) s) ≡ true

pub body_cuts : (s : List ℕ) → Cut s (body_of s)
unfolding body_of at_end
body_cuts [] = record { front = refl; within = omega arith; ends = refl }
body_cuts (c ∷ s) = go (at_end (c ∷ s)) refl (body_cuts s)
  where
    go : (b : Bool) → at_end (c ∷ s) ≡ b → Cut s (body_of s) → Cut (c ∷ s) (pick b [] (c ∷ body_of s))
    go true e cut = record { front = refl; within = omega arith; ends = e }
    go false e cut = record { front = ap (λ (l : List ℕ). c ∷ l) cut.front; within = omega (arith, cut.within); ends = cut.ends }

-- it has each character before which no end stands, and goes no further than one
pub body_goes : (m : ℕ) (s : List ℕ) → ((k : ℕ) → k < m → at_end (drop k s) ≡ false) → m ≤ length (body_of s)
unfolding body_of at_end
body_goes zero s goes = omega arith
body_goes (suc m) [] goes = absurd (false≢true (sym (goes 0 (omega arith))))
body_goes (suc m) (c ∷ s) goes = rw (goes 0 (omega arith)) (let more = body_goes m s (λ k h. goes (suc k) (omega arith)) in omega arith)

pub body_stops : (m : ℕ) (s : List ℕ) → at_end (drop m s) ≡ true → length (body_of s) ≤ m
unfolding body_of
body_stops m [] e = omega arith
body_stops zero (c ∷ s) e = rw e (omega arith)
body_stops (suc m) (c ∷ s) e = go (at_end (c ∷ s)) (body_stops m s e)
  where
    go : (b : Bool) → length (body_of s) ≤ m → length (pick b [] (c ∷ body_of s)) ≤ suc m
    go true h = omega arith
    go false h = omega arith

-- the first line: the body and its end
first_here : (c : ℕ) (s : List ℕ) → at_end (c ∷ s) ≡ true → lines (c ∷ s) ≡ take (end_length (c ∷ s)) (c ∷ s) ∷ lines (drop (end_length (c ∷ s)) (c ∷ s))
unfolding lines at_end
first_here c s e = go (eqb c 10) refl s e
  where
    go : (b : Bool) → eqb c 10 ≡ b → (s : List ℕ) → pick b true (both (eqb c 13) (eqb (get_or s 0 0) 10)) ≡ true
        → pick b ((c ∷ []) ∷ lines s) (onto c (lines s)) ≡ take (pick b 1 2) (c ∷ s) ∷ lines (drop (pick b 1 2) (c ∷ s))
    go true h s e = refl
    go false h [] e = refl
    go false h (d ∷ s) e = rw (both_parts (eqb c 13) (eqb d 10) e).1

pub end_fits : (s : List ℕ) → at_end s ≡ true → end_length s ≤ length s
unfolding at_end
end_fits [] e = omega arith
end_fits (c ∷ []) e = go (eqb c 10) e
  where
    go : (b : Bool) → pick b true (both (eqb c 13) false) ≡ true → pick b 1 2 ≤ 1
    go true e = omega arith
    go false e = absurd (false≢true (both_parts (eqb c 13) false e).1)
end_fits (c ∷ (d ∷ s)) e = go (eqb c 10)
  where
    go : (b : Bool) → pick b 1 2 ≤ suc (suc (length s))
    go true = omega arith
    go false = omega arith

pub first_cut : (m : ℕ) (s : List ℕ) → 0 < length s → m ≤ length s → ((k : ℕ) → k < m → Plain (get_or s k 0)) → at_end (drop m s) ≡ true
    → lines s ≡ take (m + end_length (drop m s)) s ∷ lines (drop (m + end_length (drop m s)) s)
unfolding lines
first_cut m [] z h p e = absurd (not-suc-le-zero z)
first_cut zero (c ∷ s) z h p e = rw (zero-add (end_length (c ∷ s))) (first_here c s e)
first_cut (suc m) (c ∷ []) z h p e =
    let f : m ≡ 0 = omega arith in
    rw (ne_eqb c 10 (p 0 (omega arith)).0, f)
first_cut (suc m) (c ∷ (d ∷ s)) z h p e =
    rw (
      suc-add m (end_length (drop m (d ∷ s))),
      ne_eqb c 10 (p 0 (omega arith)).0,
      first_cut m (d ∷ s) (omega arith) (le_of_suc-le-suc h) (λ k l. p (suc k) (omega arith)) e,
    )

onto_first : (c : ℕ) (ls : List (List ℕ)) → get_or (onto c ls) 0 [] ≡ c ∷ get_or ls 0 []
onto_first c [] = refl
onto_first c (l ∷ ls) = refl

first_head : (s : List ℕ) → get_or (get_or (lines s) 0 []) 0 0 ≡ get_or s 0 0
unfolding lines
first_head [] = refl
first_head (c ∷ s) = go (eqb c 10)
  where
    go : (b : Bool) → get_or (get_or (pick b ((c ∷ []) ∷ lines s) (onto c (lines s))) 0 []) 0 0 ≡ c
    go true = refl
    go false = rw (onto_first c (lines s))

-- the body of the first line is the body at the front of the text
pub first_body : (s : List ℕ) → body_of (get_or (lines s) 0 []) ≡ body_of s
unfolding lines body_of at_end
first_body [] = refl
first_body (c ∷ s) = go (eqb c 10) refl (first_body s)
  where
    go : (b : Bool) → eqb c 10 ≡ b → body_of (get_or (lines s) 0 []) ≡ body_of s
        → body_of (get_or (pick b ((c ∷ []) ∷ lines s) (onto c (lines s))) 0 []) ≡ body_of (c ∷ s)
    go true h ih = rw h
    go false h ih = rw (onto_first c (lines s), first_head s, ih)
