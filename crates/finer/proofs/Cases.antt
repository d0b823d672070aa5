-- What each claim says at one place, in numbers. A case takes the claim for its argument, so that a claim that says something else there is refused
-- with what it says.
-- Assumes nothing.
use Prim.Native.Nat.{ℕ, ◌<◌, ◌≤◌}
use mathlib.Core.Path.{◌≡◌, refl, ap}
use mathlib.Core.Bool.{Bool, true, false}
use mathlib.Core.List.{List, [], ◌∷◌, ◌++◌}
use lib.ListN.{length, get_or, replicate}
use Rattle.laws.specs.Lists.{tabulate, first_of}
use Rattle.laws.specs.Said.{Said, refused}
use Rattle.laws.specs.Sums.{sum_all}
use Rattle.laws.specs.Within.{within}
use Rattle.units.specs.declared.Dots.{Dots}
use Rattle.units.specs.declared.Lines.{Lines}
use Rattle.judging.specs.declared.Settings.{Settings}
use Rattle.judging.specs.Judging.{answer_of as painting}
use Rattle.ihex.specs.Digits.{digit}
use Rattle.ihex.specs.Lines.{LF, lines, at_end, body_of}
use Rattle.ihex.specs.Records.{colon, belongs, is_shaped, spelled_by, is_end, fault_of}
use Rattle.ihex.specs.Reading.{fault_said, judged, answer_of as reading}
use Rattle.writer.specs.Writing.{answer_of as writing}
use Rattle.finer.specs.Claims.{PaintLength, WriteLength, ReadLength, PaintPoints, WritePoints, CharacterPoints, ShapePoints}
use Rattle.finer.specs.Examples.{digit0, G, good, ending, Examples}

-- rows 0, 1 and 2 of a font and the others: two are above 4095
abbrev font : List ℕ → List ℕ
font others = 0 ∷ 4096 ∷ 4097 ∷ others

-- 64 words, and settings in range
abbrev words : List ℕ
words = replicate 64 0

abbrev settings : Settings
settings = record { on = true; mode = 0; colour = 1; h = 0; v = 0; ratio = 0; frequency = 0 }

abbrev line : Lines
line = record { 0 = 0 }

abbrev width : Dots
width = record { 0 = 8 }

-- what painting with such a font is told, and writing it
painted_told : (others : List ℕ) → length others ≡ 1113 → painting words (font others) settings line width 8 ≡ refused 18 1
unfolding painting within first_of
painted_told others size = rw size

written_told : (others : List ℕ) → length others ≡ 1113 → writing (font others) 22540 ≡ refused 18 1
unfolding writing within first_of
written_told others size = rw size

-- a font of 1,116 rows, of which rows 1 and 2 are above 4095: not 4 is told, but 18
pub paint_length_case : PaintLength → (others : List ℕ) → length others ≡ 1113 → ◌≡◌ {A = ℕ} 18 4 → ◌≡◌ {A = ℕ} 1116 1116 → ⊥
paint_length_case claim others size = rw (painted_told others size, size) at (claim words (font others) settings line width 8)

pub write_length_case : WriteLength → (others : List ℕ) → length others ≡ 1113 → ◌≡◌ {A = ℕ} 18 4 → ◌≡◌ {A = ℕ} 1116 1116 → ⊥
write_length_case claim others size = rw (written_told others size, size) at (claim (font others) 22540)

-- the same font: 18 is told of row 1, and not of row 2
pub paint_points_case : PaintPoints → (others : List ℕ) → length others ≡ 1113 → (1 < 1116) × (4095 < 4096) × (2 < 1 → 4097 ≤ 4095)
paint_points_case claim others size =
    let told = painted_told others size in
    let first = rw told at (claim words (font others) settings line width 8 (rw told)) in
    (first.inside, first.above, first.before 2)

pub write_points_case : WritePoints → (others : List ℕ) → length others ≡ 1113 → (1 < 1116) × (4095 < 4096) × (2 < 1 → 4097 ≤ 4095)
write_points_case claim others size =
    let told = written_told others size in
    let first = rw told at (claim (font others) 22540 (rw told)) in
    (first.inside, first.above, first.before 2)

-- a text of 65,536 bytes
too_long : (text : List ℕ) → length text ≡ 65536 → (reading text 8192).number ≡ 7
unfolding reading
too_long text size = rw size

pub read_length_case : ReadLength → (text : List ℕ) → length text ≡ 65536 → 65535 < 65536
read_length_case claim text size = rw size at (claim text 8192 (too_long text size))

-- a second line with two bad characters, :0GG, and one with a bad character directly before its end, :0G
pub character_points_case : CharacterPoints → (12 ≤ 14) × (15 < 14 → false ≡ true) × (15 ≤ 14 → true ≡ false)
unfolding tabulate first_of sum_all digit lines at_end body_of belongs is_shaped spelled_by is_end fault_of fault_said judged reading
character_points_case claim =
    let two = claim (good ++ (colon ∷ digit0 ∷ G ∷ G ∷ LF ∷ ending)) 8192 refl in
    let one = claim (good ++ (colon ∷ digit0 ∷ G ∷ LF ∷ ending)) 8192 refl in
    (two.from, two.before 3, one.no_end 3)

-- a second line with too few digits, :00
pub shape_points_case : ShapePoints → (◌≡◌ {A = ℕ} 12 12) × (◌≡◌ {A = Bool} false false)
unfolding tabulate first_of sum_all digit lines at_end body_of belongs is_shaped spelled_by is_end fault_of fault_said judged reading
shape_points_case claim =
    let there = claim (good ++ (colon ∷ digit0 ∷ digit0 ∷ LF ∷ [])) 8192 refl in
    (there.starts, there.clean)

-- rows 1 and 12 of the table: the bad character of a second line by its place, and an empty line by its number
pub examples_case : Examples → (◌≡◌ {A = ℕ} 12 12) × (◌≡◌ {A = ℕ} 20 20)
unfolding tabulate first_of sum_all digit lines at_end body_of belongs is_shaped spelled_by is_end fault_of fault_said judged reading
examples_case claim = (ap (λ (rows : List Said). (get_or rows 1 (refused 0 0)).place) claim, ap (λ (rows : List Said). (get_or rows 12 (refused 0 0)).number) claim)
