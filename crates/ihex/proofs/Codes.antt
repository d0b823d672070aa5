-- What a record's type says of the byte that stands for it.
-- Assumes nothing.
use Rattle.std.proofs.Common.{◌≡◌, ℕ, Bool, true, false, Result, Ok, Err, eqb, refl, eqb-true, eq-eqb, ne_eqb, arith}
use Rattle.laws.specs.Pick.{pick}
use Rattle.ihex.specs.Codes.{kind_of}
use Rattle.ihex.specs.declared.Kind.{Kind}
use Rattle.ihex.specs.declared.Kind.TheVariants.{Data, End}
use Rattle.ihex.specs.declared.OtherKind.{OtherKind}

other : Result Kind OtherKind
other = Err (record {})

module _ (code : ℕ) where
  pub kind_data : Ok Data ≡ kind_of code → code ≡ 0
  unfolding kind_of other
  kind_data e = go (eqb code 0) (eqb code 1) refl e
    where
      go : (b d : Bool) → eqb code 0 ≡ b → Ok Data ≡ pick b (Ok Data) (pick d (Ok End) other) → code ≡ 0
      go true d f e = eqb-true code 0 f
      go false true f e = absurd cc
      go false false f e = absurd cc

  pub kind_end : Ok End ≡ kind_of code → code ≡ 1
  unfolding kind_of other
  kind_end e = go (eqb code 0) (eqb code 1) refl e
    where
      go : (b d : Bool) → eqb code 1 ≡ d → Ok End ≡ pick b (Ok Data) (pick d (Ok End) other) → code ≡ 1
      go true d f e = absurd cc
      go false true f e = eqb-true code 1 f
      go false false f e = absurd cc

  pub kind_other : {e : OtherKind} → Err e ≡ kind_of code → (code ≡ 1 → ⊥) × (code ≡ 0 → ⊥)
  unfolding kind_of
  kind_other {e} told = (one told, zero told)
    where
      zero : Err e ≡ pick (eqb code 0) (Ok Data) (pick (eqb code 1) (Ok End) (Err (record {}))) → code ≡ 0 → ⊥
      zero told f = let both = rw (eq-eqb code 0 f) at told in absurd cc

      one : Err e ≡ pick (eqb code 0) (Ok Data) (pick (eqb code 1) (Ok End) (Err (record {}))) → code ≡ 1 → ⊥
      one told f = let both = rw (ne_eqb code 0 (λ g. omega arith), eq-eqb code 1 f) at told in absurd cc
