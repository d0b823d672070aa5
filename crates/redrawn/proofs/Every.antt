-- What any word is, is an item: a test that is computed at each of the 1,024 words.
-- Assumes nothing.
use Prim.Native.Nat.{ℕ}
use mathlib.Core.Path.{◌≡◌, refl}
use mathlib.Core.Bool.{Bool, true}
use native.Mathlib.Omega.{arith}
use Rattle.laws.specs.Lists.{upto}
use Rattle.laws.proofs.Tests.{upto_at}
use Rattle.font.specs.Font.{font_cells}
use Rattle.display.specs.Words.{kind_of}
use Rattle.redrawn.specs.Screen.{is_item, EveryWord}

test : ℕ → Bool
test w = is_item font_cells (kind_of w)

computed : upto 1024 test ≡ true
unfolding test is_item kind_of
computed = refl

pub every_word : EveryWord
unfolding test
every_word w le = upto_at 1024 test computed w (omega arith)
