-- What a call that can refuse tells its caller, in the numbers of the customer's documents.
-- Each answer is an enum of its own crate; that crate's `said` gives this record for each of its cases, and promises go through it.
-- Assumes nothing.
use Rattle.std.specs.Prelude.{ℕ}

pub record Said : Type 0 where
  -- 0: accepted; else K of the table
  pub number : ℕ
  -- P: where, 0 unless the table says otherwise
  pub place : ℕ
  -- what an accepted call answers
  pub value : ℕ

abbrev pub accepted : ℕ → Said
accepted v = record { number = 0; place = 0; value = v }

abbrev pub refused : ℕ → ℕ → Said
refused k p = record { number = k; place = p; value = 0 }
