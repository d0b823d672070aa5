-- `image::held` meets its contract: what all bytes of the strides have at each place, each byte has.
-- Assumes nothing.
use Rattle.std.proofs.Common.{◌≡◌, ℕ, ◌+◌, ◌<◌, drop, length, get_or, bit_or, sym, ◌∙◌, ap, arith, length-take, length-drop}
use Rattle.std.proofs.lemmas.List.{get_or-take, get_or-drop}
use Rattle.image.proofs.Spared.{held_all}
use Rattle.image.proofs.held.Goals as goal

pub returns-then-all_set : goal.returns-then-all_set
returns-then-all_set c e =
    let under = c.columns-under.result in
    let free = c.args.free in
    let size : length under ≡ 32 = omega arith in
    let rows : (k : ℕ) → k < 18 → bit_or (get_or under k 0) free ≡ 255 =
    λ k h. ap (λ n. bit_or n free) (sym (get_or-take 18 under k 0 h)) ∙ c.all_set.ensures.0 c.if-all_set.true k (omega (arith, length-take 18 under)) in
    let others : (k : ℕ) → k < 14 → bit_or (get_or under (18 + k) 0) 0 ≡ 255 =
    λ k h.
    ap (λ n. bit_or n 0) (sym (get_or-take 14 (drop 18 under) k 0 h ∙ get_or-drop 18 under k 0))
    ∙ c.all_set-then-all_set.ensures.0 e k (omega (arith, length-take 14 (drop 18 under), length-drop 18 under))
    in
    held_all under c.args.strides.now free size c.columns-under.ensures rows others
