-- Laws of `overlay`, each by induction on the line: painting twice, painting one dot, and what is painted depends on the dots it has.
-- Assumes nothing.
use mathlib.Core.Path.{◌≡◌, refl, sym, ap, ◌∙◌}
use mathlib.Core.List.{List, [], ◌∷◌}
use Prim.Native.Nat.{ℕ, zero, suc, ◌+◌, ◌<◌, ◌≤◌}
use native.Mathlib.Omega.{arith}
use lib.ListN.{length, set, replicate}
use Rattle.laws.specs.Lines.{overlay_from, overlay}
use Rattle.laws.specs.Lists.{tabulate}
use Rattle.laws.proofs.Lists.{tabulate_same}

pub overlay_length : (f : ℕ → ℕ → ℕ) (b : ℕ) (l : List ℕ) → length (overlay_from f b l) ≡ length l
unfolding overlay_from
overlay_length f b [] = refl
overlay_length f b (a ∷ l) = ap suc (overlay_length f (suc b) l)

pub overlay_twice : (f g : ℕ → ℕ → ℕ) (b : ℕ) (l : List ℕ) → overlay_from g b (overlay_from f b l) ≡ overlay_from (λ k a. g k (f k a)) b l
unfolding overlay_from
overlay_twice f g b [] = refl
overlay_twice f g b (a ∷ l) = ap (λ (t : List ℕ). g b (f b a) ∷ t) (overlay_twice f g (suc b) l)

pub overlay_ext : (f g : ℕ → ℕ → ℕ) (b : ℕ) (l : List ℕ) → ((k a : ℕ) → b ≤ k → k < b + length l → f k a ≡ g k a) → overlay_from f b l ≡ overlay_from g b l
unfolding overlay_from
overlay_ext f g b [] h = refl
overlay_ext f g b (a ∷ l) h =
    ap (λ (x : ℕ). x ∷ overlay_from f (suc b) l) (h b a (omega arith) (omega arith))
    ∙ ap (λ (t : List ℕ). g b a ∷ t) (overlay_ext f g (suc b) l (λ k a' lo hi. h k a' (omega arith) (omega arith)))

same_from : (b : ℕ) (l : List ℕ) → l ≡ overlay_from (λ k a. a) b l
unfolding overlay_from
same_from b [] = refl
same_from b (a ∷ l) = ap (λ (t : List ℕ). a ∷ t) (same_from (suc b) l)

-- painting that leaves each dot of the line leaves the line
pub overlay_leaves : (f : ℕ → ℕ → ℕ) (l : List ℕ) → ((k a : ℕ) → k < length l → f k a ≡ a) → l ≡ overlay f l
overlay_leaves f l h = same_from 0 l ∙ overlay_ext (λ k a. a) f 0 l (λ k a lo hi. sym (h k a (omega arith)))

-- paintings that do the same to each dot
pub overlay_same : (f g : ℕ → ℕ → ℕ) (l : List ℕ) → ((k a : ℕ) → f k a ≡ g k a) → overlay f l ≡ overlay g l
overlay_same f g l h = overlay_ext f g 0 l (λ k a lo hi. h k a)

set_from : (f g : ℕ → ℕ → ℕ) (b i v : ℕ) (l : List ℕ) → i < length l
    → ((a : ℕ) → v ≡ g (b + i) a)
    → ((k a : ℕ) → (k ≡ b + i → ⊥) → f k a ≡ g k a)
    → set (overlay_from f b l) i v ≡ overlay_from g b l
unfolding overlay_from
set_from f g b i v [] lt here there = absurd (omega arith)
set_from f g b zero v (a ∷ l) lt here there =
    ap (λ (x : ℕ). x ∷ overlay_from f (suc b) l) (here a ∙ ap (λ (k : ℕ). g k a) (omega arith))
    ∙ ap (λ (t : List ℕ). g b a ∷ t) (overlay_ext f g (suc b) l (λ k a' lo hi. there k a' (λ e. omega arith)))
set_from f g b (suc i) v (a ∷ l) lt here there =
    ap (λ (x : ℕ). x ∷ set (overlay_from f (suc b) l) i v) (there b a (λ e. omega arith))
    ∙ ap (λ (t : List ℕ). g b a ∷ t)
    (set_from f g (suc b) i v l (omega arith) (λ a'. here a' ∙ ap (λ (k : ℕ). g k a') (omega arith)) (λ k a' ne. there k a' (λ e. ne (omega arith))))

-- one dot more is painted
pub overlay_store : (f g : ℕ → ℕ → ℕ) (i v : ℕ) (l : List ℕ) → i < length l
    → ((a : ℕ) → v ≡ g i a)
    → ((k a : ℕ) → (k ≡ i → ⊥) → f k a ≡ g k a)
    → set (overlay f l) i v ≡ overlay g l
overlay_store f g i v l lt here there =
    set_from f g 0 i v l lt (λ a. here a ∙ ap (λ (k : ℕ). g k a) (omega arith)) (λ k a ne. there k a (λ e. ne (omega arith)))

filled_from : (f : ℕ → ℕ → ℕ) (a b n : ℕ) → overlay_from f b (replicate n a) ≡ tabulate n (λ k. f (b + k) a)
unfolding overlay_from tabulate
filled_from f a b zero = refl
filled_from f a b (suc n) =
    ap (λ (k : ℕ). f k a ∷ overlay_from f (suc b) (replicate n a)) (omega arith)
    ∙ ap (λ (t : List ℕ). f (b + 0) a ∷ t) (filled_from f a (suc b) n ∙ tabulate_same n _ _ (λ k lt. ap (λ (j : ℕ). f j a) (omega arith)))

-- painting over a line of one byte
pub overlay_filled : (f : ℕ → ℕ → ℕ) (a n : ℕ) → overlay f (replicate n a) ≡ tabulate n (λ k. f k a)
overlay_filled f a n = filled_from f a 0 n ∙ tabulate_same n _ _ (λ k lt. ap (λ (j : ℕ). f j a) (omega arith))
