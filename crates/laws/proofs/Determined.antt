-- A contract determines its outcome: one answer, and one last value of each thing lent. Said of the contract's own clauses.
-- A crate's proofs/Unique.antt has a `NAME-unique : Determines ..` for each of its public functions; `both_say` proves it where the one
-- `ensures` is a plain fact: of two answers that meet it, it asks that they, and what they leave, are equal. Where the promise goes through
-- a definition of the answer, as `said`, `told_apart` gives the answers back from what is said of them.
-- Assumes nothing.
use mathlib.Core.Path.{◌≡◌, sym, ap, ◌∙◌}
use base.Logic.{ent}
use contract.Lifetimes.{Lfts}
use contract.Monad.{conj, conj_l, conj_r, fact, fact_i, fact_use}
use borrow.Fn.World.{World}
use denote.Triple.Entry.{Args, Res}
use denote.Triple.Clauses.{Ended, Clauses, Lasts, at_exit}

abbrev pub Stated : Ended → Type 2
Stated T = (w : World) → Clauses w.𝓤 T

-- In every model, whoever has the `ensures` at two answers knows that the answers are equal, and so is all that was lent.
-- `ws` holds the last value of every parameter, so nothing lent is left out. The `requires` is not used.
abbrev pub Determines : (T : Ended) → Stated T → Type 2
Determines T stated =
    (w : World) (κs : Lfts T.signature.lifetimes) (a : Args T.signature κs) (g g' : (stated w κs a).ghost)
    (r r' : Res T.signature κs) (ws ws' : Lasts T κs a)
    → ent w.𝓤 (conj w.𝓤 ((stated w κs a).ensures g r (at_exit T κs a ws)) ((stated w κs a).ensures g' r' (at_exit T κs a ws'))) (fact w.𝓤 ((r ≡ r') × (ws ≡ ws')))

module _ (w : World) where
  pub both_say : {φ ψ χ : Type 0} → (φ → ψ → χ) → ent w.𝓤 (conj w.𝓤 (fact w.𝓤 φ) (fact w.𝓤 ψ)) (fact w.𝓤 χ)
  both_say {φ} {ψ} {χ} f =
      fact_use w.𝓤 φ (conj_l w.𝓤 (fact w.𝓤 φ) (fact w.𝓤 ψ))
      (λ p. fact_use w.𝓤 ψ (conj_r w.𝓤 (fact w.𝓤 φ) (fact w.𝓤 ψ)) (λ q. fact_i w.𝓤 χ _ (f p q)))

-- a definition that can be undone gives different things different values
pub told_apart : {A B : Type 0} (f : A → B) (undo : B → A) → ((x : A) → undo (f x) ≡ x) → (x y : A) → f x ≡ f y → x ≡ y
told_apart f undo back x y e = sym (back x) ∙ ap undo e ∙ back y
