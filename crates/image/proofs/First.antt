-- The first address that lacks a bit, from where the strides that lack nothing end.
-- Assumes nothing.
use Rattle.std.proofs.Common.{◌≡◌, ℕ, ◌<◌, ◌≤◌, List, Option, Some, None, MatchOption, true, false, sym, arith}
use native.Mathlib.Decide.{dec_lt}
use Rattle.laws.proofs.Lists.{first_is, first_none}
use Rattle.image.specs.Image.{lacks_at, first_lacking}
use Rattle.image.specs.Steps.{WholeTo}

module _ (image : List ℕ) where
  -- nothing lacks a bit up to the end
  pub none_lacks : WholeTo image 8192 → first_lacking image ≡ 8192
  none_lacks w = first_none 8192 (lacks_at image) w.whole

  pub first_from : (from : ℕ) (r : Option ℕ) → WholeTo image from
      → MatchOption r ((k : ℕ) → from ≤ k → k < 8192 → lacks_at image k ≡ false)
      (λ i. (from ≤ i) × (i < 8192) × (lacks_at image i ≡ true) × ((k : ℕ) → from ≤ k → k < i → lacks_at image k ≡ false))
      → MatchOption r (first_lacking image ≡ 8192) (λ i. (i ≡ first_lacking image) × (i < 8192))
  first_from from None w h = first_none 8192 (lacks_at image) (λ k b. go k b (dec_lt k from))
    where
      go : (k : ℕ) → k < 8192 → Dec (k < from) → lacks_at image k ≡ false
      go k b (yes l) = w.whole k l
      go k b (no l) = h k (omega arith) b
  first_from from (Some i) w h = (sym (first_is 8192 (lacks_at image) i h.1 (λ k b. go k b (dec_lt k from)) h.2), h.1)
    where
      go : (k : ℕ) → k < i → Dec (k < from) → lacks_at image k ≡ false
      go k b (yes l) = w.whole k l
      go k b (no l) = h.3 k (omega arith) b
