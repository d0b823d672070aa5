-- What the test of a play decides: a play that is refused leaves everything as it was, and one that is not is its clocks.
-- Assumes nothing.
use Rattle.std.proofs.Common.{◌≡◌, ℕ, ◌<◌, ◌≤◌, min, true, false, List, length, refl, ap, ◌∙◌, le-ltb, arith}
use Rattle.laws.specs.Said.{Said, accepted, refused}
use Rattle.wave.specs.Wave.{period, over}
use Rattle.dac.specs.declared.Dac.{Dac}
use Rattle.dac.specs.Running.{kept_count, after_clocks, levels_of}
use Rattle.dac.specs.Play.{too_many_levels, answer_of, after_play, levels_played, lent_after}

module _ (c room : ℕ) where
  pub may : c ≤ period → c ≤ room → too_many_levels c room ≡ false
  may most fits = rw (le-ltb period c most, le-ltb room c fits)

  pub past : min period room < c → too_many_levels c room ≡ true
  past h = grind arith

module _ (d : Dac) (c : ℕ) (s : List ℕ) where
  pub refused_play : too_many_levels c (length s) ≡ true
      → (◌≡◌ {A = Said} (refused 14 0) (answer_of d c (length s))) × (d ≡ after_play d c (length s)) × (s ≡ lent_after d c s)
  unfolding answer_of after_play levels_played lent_after
  refused_play e = rw e (refl, refl, refl)

  pub accepted_play : too_many_levels c (length s) ≡ false
      → (after_clocks c d ≡ after_play d c (length s)) × (over (levels_of c d) s ≡ lent_after d c s)
  unfolding after_play levels_played lent_after
  accepted_play e = rw e (refl, refl)

  -- and what it answers is the count of the record after it
  pub accepted_count : too_many_levels c (length s) ≡ false → (r : Dac) (n : ℕ) → r ≡ after_clocks c d → n ≡ kept_count r.high → accepted n ≡ answer_of d c (length s)
  unfolding answer_of
  accepted_count e r n after count = ap accepted (count ∙ ap (λ (x : Dac). kept_count x.high) after) ∙ rw e refl
