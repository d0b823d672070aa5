-- Dots of one byte laid at once, column after column; and dots beyond the line's end, which are cut.
-- Assumes nothing.
use Prim.Native.Nat.{min}
use Rattle.std.proofs.Common.{◌≡◌, Bool, true, false, ℕ, zero, suc, ◌+◌, ◌-◌, ◌*◌, ◌/◌, ◌<◌, ◌≤◌, List, [], ◌∷◌, ◌++◌, length, get_or, take, drop, replicate, sym, ap, ◌∙◌, arith}
use Rattle.std.proofs.lemmas.List.{ext_get_or, take-replicate}
use Rattle.std.proofs.lemmas.Grind.{common_steps}
use mathlib.Core.Logic.{⊎_elim}
use Rattle.laws.specs.Lines.{overlay_from, overlay}
use Rattle.laws.specs.Pick.{pick}
use Rattle.laws.specs.Placing.{patched}
use Rattle.laws.proofs.Overlay.{overlay_length, overlay_leaves, overlay_same, overlay_twice, overlay_ext}
use Rattle.laws.proofs.Patched.{patched_none, patched_more, patched_cut}
use Rattle.laws.proofs.Placing.{part_at, span_in, span_before, span_after}
use Rattle.laws.proofs.Scan.{split}

-- a dot of a line painted over
overlay_dot : (f : ℕ → ℕ → ℕ) (b k at : ℕ) (out : List ℕ) → k < length out → at ≡ b + k → get_or (overlay_from f b out) k 0 ≡ f at (get_or out k 0)
unfolding overlay_from
overlay_dot f b k at [] lt is = absurd (omega arith)
overlay_dot f b zero at (a ∷ out) lt is = ap (λ (n : ℕ). f n a) (omega arith)
overlay_dot f b (suc k) at (a ∷ out) lt is = overlay_dot f (suc b) k at out (omega arith) (omega arith)

-- so many dots of one byte, laid all at once
filled : ℕ → ℕ → ℕ → List ℕ → List ℕ
filled from n byte out = take from out ++ (replicate n byte ++ drop n (drop from out))

module _ (from n byte : ℕ) (out : List ℕ) (fits : from + n ≤ length out) where
  filled_length : length (filled from n byte out) ≡ length out
  unfolding filled
  filled_length = grind (arith, common_steps)

  filled_before : (k : ℕ) → k < from → get_or (filled from n byte out) k 0 ≡ get_or out k 0
  unfolding filled
  filled_before k lt = grind (arith, common_steps)

  filled_in : (k : ℕ) → from ≤ k → k < from + n → get_or (filled from n byte out) k 0 ≡ byte
  unfolding filled
  filled_in k le lt = grind (arith, common_steps)

  filled_after : (k : ℕ) → from + n ≤ k → get_or (filled from n byte out) k 0 ≡ get_or out k 0
  unfolding filled
  filled_after k le = grind (arith, common_steps)

  filled_dot : (k : ℕ) → get_or (filled from n byte out) k 0 ≡ patched from n (λ d. byte) k (get_or out k 0)
  unfolding patched
  filled_dot k =
      ⊎_elim
      (λ (at : from ≤ k). ⊎_elim
      (λ (after : from + n ≤ k). simp (span_after from n k after) (filled_after k after))
      (λ (within : k < from + n). simp (span_in from n k at within) (filled_in k at within))
      (split (from + n) k))
      (λ (left : k < from). simp (span_before from n k left) (filled_before k left))
      (split from k)

  filled_is : filled from n byte out ≡ overlay (patched from n (λ d. byte)) out
  filled_is =
      ext_get_or 0 (filled from n byte out) (overlay (patched from n (λ d. byte)) out)
      (filled_length ∙ sym (overlay_length (patched from n (λ d. byte)) 0 out))
      (λ k lt. filled_dot k ∙ sym (overlay_dot (patched from n (λ d. byte)) 0 k k out (omega (arith, filled_length)) (omega arith)))

-- a part of the line, `rest` dots from dot `from` on, that is of one byte now
pub patch_laid : (from n byte rest : ℕ) (out part : List ℕ) → from + n ≤ length out → rest ≡ n → part ≡ replicate n byte
    → take from out ++ (part ++ drop rest (drop from out)) ≡ overlay (patched from n (λ d. byte)) out
unfolding filled
patch_laid from n byte rest out part fits e is = rw (is, e) (filled_is from n byte out fits)

-- or was filled with it
pub patch_fill : (from n byte rest : ℕ) (out part : List ℕ) → from + n ≤ length out → rest ≡ n → part ≡ replicate (length (take rest (drop from out))) byte
    → take from out ++ (part ++ drop rest (drop from out)) ≡ overlay (patched from n (λ d. byte)) out
patch_fill from n byte rest out part fits e is =
    let long : length (take rest (drop from out)) ≡ n = grind (arith, common_steps) in
    patch_laid from n byte rest out part fits e (is ∙ ap (λ (m : ℕ). replicate m byte) long)

-- of three runs of one byte each, the one that is picked is a run of the byte that is picked; and the front of it
pub picked_run : (n size on shade off : ℕ) (set shaded : Bool) → size ≤ n → take size (pick set (replicate n on) (pick shaded (replicate n shade) (replicate n off))) ≡ replicate size (pick set on (pick shaded shade off))
picked_run n size on shade off true shaded le = take-replicate size n on le
picked_run n size on shade off false true le = take-replicate size n shade le
picked_run n size on shade off false false le = take-replicate size n off le

-- no dot
pub patch_none : (from : ℕ) (shows : ℕ → ℕ) (out : List ℕ) → out ≡ overlay (patched from 0 shows) out
patch_none from shows out = overlay_leaves (patched from 0 shows) out (λ k old lt. patched_none from shows k old)

-- of n dots those are painted that are on the line, and the others cut
pub patch_cut : (from i n : ℕ) (shows : ℕ → ℕ) (out last : List ℕ) → i ≡ min (length out - from) n → last ≡ overlay (patched from i shows) out → last ≡ overlay (patched from n shows) out
patch_cut from i n shows out last is laid =
    ⊎_elim
    (λ (cut : length out - from ≤ n). laid ∙ overlay_ext (patched from i shows) (patched from n shows) 0 out (λ k old lo hi. patched_cut from shows i n k old (omega arith) (omega arith)))
    (λ (whole : n < length out - from). laid ∙ ap (λ (m : ℕ). overlay (patched from m shows) out) (omega arith))
    (split (length out - from) n)

-- no column
pub columns_none : (from size : ℕ) (byte_at : ℕ → ℕ) (out : List ℕ) → out ≡ overlay (patched from (0 * size) (λ d. byte_at (d / size))) out
columns_none from size byte_at out =
    let none : 0 ≡ 0 * size = omega arith in
    patch_none from (λ d. byte_at (d / size)) out ∙ ap (λ (n : ℕ). overlay (patched from n (λ d. byte_at (d / size))) out) none

-- a column more: `size` dots of its byte, after j columns of as many
pub column_more : (from size : ℕ) (byte_at : ℕ → ℕ) (j byte : ℕ) (out₀ out next : List ℕ) → out ≡ overlay (patched from (j * size) (λ d. byte_at (d / size))) out₀ → byte ≡ byte_at j
    → next ≡ overlay (patched (from + j * size) size (λ d. byte)) out → next ≡ overlay (patched from ((j + 1) * size) (λ d. byte_at (d / size))) out₀
column_more from size byte_at j byte out₀ out next before is laid =
    let shows : ℕ → ℕ = λ d. byte_at (d / size) in
    let more : j * size + size ≡ (j + 1) * size = omega arith in
    laid
    ∙ ap (λ (t : List ℕ). overlay (patched (from + j * size) size (λ d. byte)) t) before
    ∙ overlay_twice (patched from (j * size) shows) (patched (from + j * size) size (λ d. byte)) 0 out₀
    ∙ overlay_same _ (patched from (j * size + size) shows) out₀ (λ k old. patched_more from shows (j * size) size byte k old
    (λ d le lt. is ∙ ap byte_at (sym (part_at j size d le lt))))
    ∙ ap (λ (m : ℕ). overlay (patched from m shows) out₀) more
