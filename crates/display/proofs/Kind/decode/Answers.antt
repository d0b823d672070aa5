-- `display::Kind::decode`: each return by the tests of the code and of T0.
-- Assumes nothing.
use mathlib.Core.Path.{◌≡◌}
use mathlib.Core.Bool.{true, false}
use borrow.Author.Tests.{eq-eqb, ne_eqb}
use native.Mathlib.Omega.{arith}
use lib.Dec.{eqb}
use Rattle.display.specs.Words.{code_of, return_code, space_code, mark_of}
use Rattle.display.proofs.Sound.{reads_end, reads_space, reads_return, reads_character}
use Rattle.display.proofs.Kind.decode.Goals as goal

pub returns-in-63 : goal.returns-in-63
returns-in-63 c =
    let w = c.args.word in
    let space : eqb (code_of w) space_code ≡ true = omega (arith, eq-eqb) in
    let end : mark_of w ≡ true = search in
    reads_end w space end

pub returns-in-63-2 : goal.returns-in-63-2
returns-in-63-2 c =
    let w = c.args.word in
    let space : eqb (code_of w) space_code ≡ true = omega (arith, eq-eqb) in
    let end : mark_of w ≡ false = search in
    reads_space w space end

pub returns-in-62 : goal.returns-in-62
returns-in-62 c =
    let w = c.args.word in
    let space : eqb (code_of w) space_code ≡ false = omega (arith, ne_eqb) in
    let return : eqb (code_of w) return_code ≡ true = omega (arith, eq-eqb) in
    reads_return w space return

pub returns-in_default : goal.returns-in_default
returns-in_default c =
    let w = c.args.word in
    let space : eqb (code_of w) space_code ≡ false = omega (arith, ne_eqb) in
    let return : eqb (code_of w) return_code ≡ false = omega (arith, ne_eqb) in
    reads_character w space return
