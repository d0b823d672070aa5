-- What a word decodes to, by the tests of its code and of T0; and that it is in range, since its parts are remainders.
-- Assumes nothing.
use mathlib.Core.Path.{◌≡◌, refl, sym, subst}
use mathlib.Core.Bool.{Bool, true, false}
use Prim.Native.Nat.{ℕ, ◌<◌, ◌≤◌}
use native.Mathlib.Omega.{arith}
use borrow.Author.Tests.{eqb-false}
use lib.Dec.{eqb}
use Rattle.laws.specs.Pick.{pick}
use Rattle.font.specs.Font.{font_cells}
use Rattle.units.specs.declared.Lines.{Lines}
use Rattle.judging.specs.Judging.{most_colour}
use Rattle.display.specs.declared.Kind.{Kind}
use Rattle.display.specs.declared.Kind.TheVariants.{Character, Space, Return, End}
use Rattle.display.specs.Words.{code_of, return_code, space_code, colour_of, mark_of, size_of, spacing_of, kind_of}
use Rattle.display.specs.Steps.{most_size, most_spacing, Sound}

module _ (w : ℕ) where
  pub reads_end : eqb (code_of w) space_code ≡ true → mark_of w ≡ true → End ≡ kind_of w
  unfolding kind_of
  reads_end none mark = simp (none, mark)

  pub reads_space : eqb (code_of w) space_code ≡ true → mark_of w ≡ false → Space (colour_of w) ≡ kind_of w
  unfolding kind_of
  reads_space none mark = simp (none, mark)

  pub reads_return : eqb (code_of w) space_code ≡ false → eqb (code_of w) return_code ≡ true → Return (size_of w) (record { 0 = spacing_of w }) ≡ kind_of w
  unfolding kind_of
  reads_return some back = simp (some, back)

  pub reads_character : eqb (code_of w) space_code ≡ false → eqb (code_of w) return_code ≡ false → Character (colour_of w) (code_of w) (mark_of w) ≡ kind_of w
  unfolding kind_of
  reads_character some other = simp (some, other)

sound_space : (w : ℕ) (end : Bool) → Sound (pick end End (Space (colour_of w)))
sound_space w true = tt
sound_space w false = omega arith

sound_other : (w : ℕ) (back : Bool) → eqb (code_of w) return_code ≡ back → eqb (code_of w) space_code ≡ false
    → Sound (pick back (Return (size_of w) (record { 0 = spacing_of w })) (Character (colour_of w) (code_of w) (mark_of w)))
sound_other w true e f = (omega arith, (omega arith, omega arith))
sound_other w false e f = (omega arith, omega (arith, eqb-false (code_of w) return_code e, eqb-false (code_of w) space_code f))

sound_code : (w : ℕ) (none : Bool) → eqb (code_of w) space_code ≡ none
    → Sound (pick none (pick (mark_of w) End (Space (colour_of w))) (pick (eqb (code_of w) return_code) (Return (size_of w) (record { 0 = spacing_of w })) (Character (colour_of w) (code_of w) (mark_of w))))
sound_code w true e = sound_space w (mark_of w)
sound_code w false e = sound_other w (eqb (code_of w) return_code) refl e

pub sound : (w : ℕ) (kd : Kind) → kd ≡ kind_of w → Sound kd
unfolding kind_of
sound w kd e = subst Sound (sym e) (sound_code w (eqb (code_of w) space_code) refl)

-- its parts, where the kind is known
module _ (kd : Kind) where
  pub character_sound : (colour code : ℕ) (blink : Bool) → kd ≡ Character colour code blink → Sound kd → (colour ≤ most_colour) × (code < font_cells)
  character_sound colour code blink told s = rw told at s

  pub own_sound : (own : ℕ) → kd ≡ Space own → Sound kd → own ≤ most_colour
  own_sound own told s = rw told at s

  pub return_sound : (size : ℕ) (spacing : Lines) → kd ≡ Return size spacing → Sound kd → (1 ≤ size) × ((size ≤ most_size) × (spacing.0 ≤ most_spacing))
  return_sound size spacing told s = rw told at s
