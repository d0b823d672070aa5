-- `judging::judged`: each return by the tests that led to it. A fact is stated by what it says, and `search` or `omega` finds it in the walk, so
-- that no answer depends on how many steps lie between.
-- Assumes nothing.
use Rattle.std.proofs.Common.{rules, ◌≡◌, true, false, leb, ltb, eqb, length, arith, le-leb, lt-ltb, le-ltb, eq-eqb, ne_eqb}
use Rattle.std.proofs.lemmas.Bool.{lt-leb}
use Rattle.std.proofs.lemmas.Result.{err_from_is_err_and}
use Rattle.laws.specs.Within.{within}
use Rattle.laws.proofs.Tests.{test_holds, test_fails}
use Rattle.font.specs.Font.{font_rows, most_row}
use Rattle.font.proofs.Refused.{whole_rows, whole_within, whole_refused}
use Rattle.judging.specs.Judging.{answer_of, in_range, most_ratio, word_count, most_word, most_line, most_width}
use Rattle.judging.proofs.judged.Goals as goal
use Rattle.judging.proofs.judged.Goals.{then-words-ne-WORDS-via-then-words-ne-WORDS, then-words-ne-WORDS-via-else-words-ne-WORDS+then-not-all_within, then-line-gt-MOST_LINE-via-then-line-gt-MOST_LINE, then-line-gt-MOST_LINE-via-else-line-gt-MOST_LINE+then-width-gt-MOST_WIDTH}

pub returns-then-not-in_range : goal.returns-then-not-in_range
unfolding answer_of
returns-then-not-in_range c =
    let ranged : in_range c.args.settings ≡ false = search test_fails in
    simp ranged

pub returns-then-settings-eq-MOST_RATIO : goal.returns-then-settings-eq-MOST_RATIO
unfolding answer_of
returns-then-settings-eq-MOST_RATIO c =
    let a = c.args in
    let ranged : in_range a.settings ≡ true = search test_holds in
    let ratio : eqb a.settings.ratio most_ratio ≡ true = omega (arith, eq-eqb) in
    simp (ranged, ratio)

pub returns-then-words-ne-WORDS : goal.returns-then-words-ne-WORDS
unfolding answer_of
returns-then-words-ne-WORDS c =
    let a = c.args in
    let ranged : in_range a.settings ≡ true = search test_holds in
    let ratio : eqb a.settings.ratio most_ratio ≡ false = omega (arith, ne_eqb) in
    elim c.then-words-ne-WORDS.branch [
      | then-words-ne-WORDS-via-then-words-ne-WORDS w ↦ let count : eqb (length a.words.now) word_count ≡ false = omega (arith, ne_eqb) in simp (ranged, ratio, count)
      | then-words-ne-WORDS-via-else-words-ne-WORDS+then-not-all_within w ↦
          let count : eqb (length a.words.now) word_count ≡ true = omega (arith, eq-eqb) in
          let words : within most_word a.words.now ≡ false = search test_fails in
          simp (ranged, ratio, count, words)
    ]

pub returns-in_err-whole : goal.returns-in_err-whole
unfolding answer_of
returns-in_err-whole c =
    let a = c.args in
    let ranged : in_range a.settings ≡ true = search test_holds in
    let ratio : eqb a.settings.ratio most_ratio ≡ false = omega (arith, ne_eqb) in
    let count : eqb (length a.words.now) word_count ≡ true = omega (arith, eq-eqb) in
    let words : within most_word a.words.now ≡ true = search test_holds in
    let p = err_from_is_err_and c.from_residual.result c.from_residual.ensures.1 in
    rw (p.1, p.2) (simp (ranged, ratio, count, words) (whole_refused a.font.now _ _ c.in_err-whole.ensures))

pub returns-then-line-gt-MOST_LINE : goal.returns-then-line-gt-MOST_LINE
unfolding answer_of
returns-then-line-gt-MOST_LINE c =
    let a = c.args in
    let ranged : in_range a.settings ≡ true = search test_holds in
    let ratio : eqb a.settings.ratio most_ratio ≡ false = omega (arith, ne_eqb) in
    let count : eqb (length a.words.now) word_count ≡ true = omega (arith, eq-eqb) in
    let words : within most_word a.words.now ≡ true = search test_holds in
    let rows : eqb (length a.font.now) font_rows ≡ true = search (rules, whole_rows) in
    let narrow : within most_row a.font.now ≡ true = search (rules, whole_within) in
    elim c.then-line-gt-MOST_LINE.branch [
      | then-line-gt-MOST_LINE-via-then-line-gt-MOST_LINE w ↦ let line : leb a.line.0 most_line ≡ false = omega (arith, lt-leb) in simp (ranged, ratio, count, words, rows, narrow, line)
      | then-line-gt-MOST_LINE-via-else-line-gt-MOST_LINE+then-width-gt-MOST_WIDTH w ↦
          let line : leb a.line.0 most_line ≡ true = omega (arith, le-leb) in
          let width : leb a.width.0 most_width ≡ false = omega (arith, lt-leb) in
          simp (ranged, ratio, count, words, rows, narrow, line, width)
    ]

pub returns-then-room-width : goal.returns-then-room-width
unfolding answer_of
returns-then-room-width c =
    let a = c.args in
    let ranged : in_range a.settings ≡ true = search test_holds in
    let ratio : eqb a.settings.ratio most_ratio ≡ false = omega (arith, ne_eqb) in
    let count : eqb (length a.words.now) word_count ≡ true = omega (arith, eq-eqb) in
    let words : within most_word a.words.now ≡ true = search test_holds in
    let rows : eqb (length a.font.now) font_rows ≡ true = search (rules, whole_rows) in
    let narrow : within most_row a.font.now ≡ true = search (rules, whole_within) in
    let line : leb a.line.0 most_line ≡ true = omega (arith, le-leb) in
    let width : leb a.width.0 most_width ≡ true = omega (arith, le-leb) in
    let room : ltb a.room a.width.0 ≡ true = omega (arith, lt-ltb) in
    simp (ranged, ratio, count, words, rows, narrow, line, width, room)

pub returns : goal.returns
unfolding answer_of
returns c =
    let a = c.args in
    let ranged : in_range a.settings ≡ true = search test_holds in
    let ratio : eqb a.settings.ratio most_ratio ≡ false = omega (arith, ne_eqb) in
    let count : eqb (length a.words.now) word_count ≡ true = omega (arith, eq-eqb) in
    let words : within most_word a.words.now ≡ true = search test_holds in
    let rows : eqb (length a.font.now) font_rows ≡ true = search (rules, whole_rows) in
    let narrow : within most_row a.font.now ≡ true = search (rules, whole_within) in
    let line : leb a.line.0 most_line ≡ true = omega (arith, le-leb) in
    let width : leb a.width.0 most_width ≡ true = omega (arith, le-leb) in
    let room : ltb a.room a.width.0 ≡ false = omega (arith, le-ltb) in
    simp (ranged, ratio, count, words, rows, narrow, line, width, room)
