-- What the struct tells, in the record that the library's promises speak of; and what is told of an outcome, by what its value and its refusal say of themselves.
-- Assumes nothing.
use Rattle.std.specs.Prelude.{ℕ, Result, Ok, Err}
use Rattle.laws.specs.Said.{Said, accepted, refused}
use Rattle.answer.specs.declared.Answer.{Answer}

abbrev pub told : Answer → Said
told a = record { number = a.number; place = a.place; value = a.value }

abbrev pub said_of : {V R : Type 0} → (V → ℕ) → (R → ℕ) → (R → ℕ) → Result V R → Said
said_of value number place = elim [ Ok v ↦ accepted (value v) | Err r ↦ refused (number r) (place r) ]
