-- `image::columns` meets its contract: what is kept for a place of the stride is above no byte passed at that place.
-- Assumes nothing.
use Rattle.std.proofs.Common.{◌≡◌, ℕ, zero, suc, ◌+◌, ◌*◌, ◌<◌, ◌≤◌, ◌%◌, List, [], length, get_or, drop, ap, ◌∙◌, arith}
use Rattle.std.proofs.Math.ListN.{set, length-set}
use Rattle.std.proofs.lemmas.List.{get_or-take, get_or-drop, get_or-set_same, get_or-set_other}
use Rattle.std.proofs.lemmas.Nat.{and_le_l, and_le_r}
use Rattle.std.specs.Simd.{first_chunks}
use native.Mathlib.Decide.{ℕ_discrete, dec_lt}
use Rattle.image.proofs.columns.Goals as goal

-- byte i of stride j
at_chunk : (n j i : ℕ) (xs : List ℕ) → j < n → i < 32 → get_or (get_or (first_chunks 32 n xs) j []) i 0 ≡ get_or xs (32 * j + i) 0
at_chunk zero j i xs h b = absurd (omega arith)
at_chunk (suc n) zero i xs h b = get_or-take 32 xs i 0 b ∙ ap (λ k. get_or xs k 0) (omega arith)
at_chunk (suc n) (suc j) i xs h b = at_chunk n j i (drop 32 xs) (omega arith) b ∙ get_or-drop 32 xs (32 * j + i) 0 ∙ ap (λ k. get_or xs k 0) (omega arith)

-- one byte more, at place i of stride j
under_more : (under strides : List ℕ) (j i v : ℕ) → i < 32 → length under ≡ 32 → v ≤ get_or under i 0 → v ≤ get_or strides (32 * j + i) 0
    → ((k : ℕ) → k < 32 * j + i → get_or under (k % 32) 0 ≤ get_or strides k 0)
    → (k : ℕ) → k < 32 * j + (i + 1) → get_or (set under i v) (k % 32) 0 ≤ get_or strides k 0
under_more under strides j i v small long less one before k u = go (ℕ_discrete (k % 32) i) (dec_lt k (32 * j + i))
  where
    go : Dec (k % 32 ≡ i) → Dec (k < 32 * j + i) → get_or (set under i v) (k % 32) 0 ≤ get_or strides k 0
    go (yes e) (yes b) =
        omega (arith, less, before k b, ap (λ (j : ℕ). get_or under j 0) e, ap (λ (j : ℕ). get_or (set under i v) j 0) e, get_or-set_same under i v 0 (omega arith))
    go (yes e) (no b) =
        let here : k ≡ 32 * j + i = omega arith in
        omega (arith, one, ap (λ (j : ℕ). get_or strides j 0) here, ap (λ (j : ℕ). get_or (set under i v) j 0) e, get_or-set_same under i v 0 (omega arith))
    go (no e) (yes b) = omega (arith, before k b, get_or-set_other under i (k % 32) v 0 e)
    go (no e) (no b) = absurd (omega arith)

pub loop-i-preserved : goal.loop-i-preserved
loop-i-preserved c =
    let strides = c.args.strides.now in
    let j = c.loop-stride.stride-index in
    let l = c.loop-i in
    let kept : ℕ = get_or l.under l.i 0 in
    let byte : ℕ = get_or (get_or c.as_chunks.result.0.now j []) l.i 0 in
    let here : byte ≡ get_or strides (32 * j + l.i) 0 =
    ap (λ (chunks : List (List ℕ)). get_or (get_or chunks j []) l.i 0) c.as_chunks.ensures.front ∙ at_chunk _ j l.i strides (omega arith) (omega arith) in
    (length-set l.under l.i _ ∙ l.invariant.0, under_more l.under strides j l.i _ (omega arith) l.invariant.0 (omega (arith, and_le_l kept byte)) (omega (arith, and_le_r kept byte)) l.invariant.1)
