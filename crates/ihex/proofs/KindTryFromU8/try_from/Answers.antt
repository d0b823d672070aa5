-- `ihex::KindTryFromU8::try_from` meets its contract: the byte decides the definition.
-- Assumes nothing.
use Rattle.std.proofs.Common.{◌≡◌, true, false, eqb, arith, eq-eqb, ne_eqb}
use Rattle.ihex.specs.Codes.{kind_of}
use Rattle.ihex.specs.Records.{data_type, end_type}
use Rattle.ihex.proofs.KindTryFromU8.try_from.Goals as goal

pub returns-in-0 : goal.returns-in-0
unfolding kind_of
returns-in-0 c =
    let plain : eqb c.args.code data_type ≡ true = omega (arith, eq-eqb) in
    simp plain

pub returns-in-1 : goal.returns-in-1
unfolding kind_of
returns-in-1 c =
    let plain : eqb c.args.code data_type ≡ false = omega (arith, ne_eqb) in
    let end : eqb c.args.code end_type ≡ true = omega (arith, eq-eqb) in
    simp (plain, end)

pub returns-in_default : goal.returns-in_default
unfolding kind_of
returns-in_default c =
    let plain : eqb c.args.code data_type ≡ false = omega (arith, ne_eqb) in
    let end : eqb c.args.code end_type ≡ false = omega (arith, ne_eqb) in
    simp (plain, end)
