-- No second answer meets a promise: the numbers said of two answers agree, and each case has numbers of its own; a line's bytes are said whole. And the bytes
-- of the answer's line are the account's line for the text, and so is what is printed of it.
-- Assumes nothing.
use Rattle.std.proofs.Common.{◌≡◌, ◌∙◌, ℕ, List, Result, Ok, Err, Some, eqb, ap, refl, sym}
use Rattle.std.specs.Result.{result_map_both}
use Rattle.laws.specs.Pick.{pick}
use Rattle.laws.specs.Said.{Said}
use Rattle.laws.proofs.Determined.{Determines, both_say, told_apart}
use Rattle.ihex.proofs.Unique.{meant as read_meant}
use Rattle.fontline.specs.Lines.{checked, line_for, said}
use Rattle.fontline.specs.declared.NoFont.{NoFont}
use Rattle.fontline.specs.declared.NoFont.TheVariants.{Text, Image}
use Rattle.ihex.specs.declared.ReadError.TheVariants.{NoRoom, TooLong, BadCharacter, BadShape, BadSum, BadType, PastEnd, GivenTwice, BadEnd}
use Rattle.fontline.specs.declared.Line.{Line}
use base.Logic.{ent}
use contract.Lifetimes.{Lfts}
use contract.Monad.{conj, fact}
use borrow.Fn.World.{World}
use denote.Triple.Entry.{Args, Res}
use denote.Triple.Clauses.{Lasts, at_exit}
use Rattle.fontline.specs.contracts.check as check
use Rattle.fontline.specs.contracts.count as count
use Rattle.fontline.specs.contracts.Line.text as text
use Rattle.fontline.specs.contracts.NoFontFromReadError.from as from_text
use Rattle.fontline.specs.contracts.NoFontFromNotAFont.from as from_image
use Rattle.fontline.specs.contracts.LineDisplay.TheImpl as printing

-- the answer of which this is said: 13 is the image's, and the reader has no case of it
abbrev meant : Said → Result ℕ NoFont
meant s = pick (eqb s.number 13) (Err (Image (record { 0 = s.place }))) (result_map_both (λ n. n) Text (read_meant s))

meant_said : (outcome : Result ℕ NoFont) → meant (said outcome) ≡ outcome
meant_said (Ok n) = refl
meant_said (Err (Image refusal)) = refl
meant_said (Err (Text NoRoom)) = refl
meant_said (Err (Text TooLong)) = refl
meant_said (Err (Text (BadCharacter place))) = refl
meant_said (Err (Text (BadShape place))) = refl
meant_said (Err (Text (BadSum place))) = refl
meant_said (Err (Text (BadType place))) = refl
meant_said (Err (Text (PastEnd place))) = refl
meant_said (Err (Text (GivenTwice place))) = refl
meant_said (Err (Text (BadEnd place))) = refl

pub count_unique : Determines count.ended (λ w. count.clauses w.𝓛 w.𝓜.mem w.𝓡.run)
count_unique w κs a g g' r r' ws ws' = both_say w (λ p q. (told_apart said meant meant_said r r' (p ∙ sym q), refl))

pub check_unique : Determines check.ended (λ w. check.clauses w.𝓛 w.𝓜.mem w.𝓡.run)
check_unique w κs a g g' r r' ws ws' =
    both_say w (λ p q. (ap (λ (outcome : Result ℕ NoFont). record { 0 = outcome }) (told_apart said meant meant_said r.0 r'.0 (p ∙ sym q)), refl))

pub text_unique : Determines text.ended (λ w. text.clauses w.𝓛 w.𝓜.mem w.𝓡.run)
text_unique w κs a g g' r r' ws ws' = both_say w (λ p q. (ap (λ (l : List ℕ). record { items = l }) (p ∙ sym q), refl))

pub NoFontFromReadError_from_unique : Determines from_text.ended (λ w. from_text.clauses w.𝓛 w.𝓜.mem w.𝓡.run)
NoFontFromReadError_from_unique w κs a g g' r r' ws ws' = both_say w (λ p q. (p ∙ sym q, refl))

pub NoFontFromNotAFont_from_unique : Determines from_image.ended (λ w. from_image.clauses w.𝓛 w.𝓜.mem w.𝓡.run)
NoFontFromNotAFont_from_unique w κs a g g' r r' ws ws' = both_say w (λ p q. (p ∙ sym q, refl))

-- a line that holds what was checked of a text: the bytes that are said of its like, and what is printed of it, are the account's line for the text
line_of : (given : List ℕ) (line like : Line) (bytes : List ℕ) → said line.0 ≡ checked given → like ≡ line → bytes ≡ line_for (said like.0)
    → (bytes ≡ line_for (checked given)) × (printing.ghosts.output line ≡ Some (line_for (checked given)))
line_of given line like bytes p alike q =
    (q ∙ ap (λ (l : Line). line_for (said l.0)) alike ∙ ap line_for p, ap (λ (s : Said). Some (line_for s)) p)

-- Whatever line meets the promise of `check`, and whatever bytes meet that of `text` at it: the bytes are the account's line for the text, and so is what is
-- printed of the line.
pub line_printed : (w : World) (κs : Lfts check.ended.signature.lifetimes) (a : Args check.ended.signature κs) (g : (check.clauses w.𝓛 w.𝓜.mem w.𝓡.run κs a).ghost)
    (line : Res check.ended.signature κs) (ws : Lasts check.ended κs a)
    (ls : Lfts text.ended.signature.lifetimes) (b : Args text.ended.signature ls) (h : (text.clauses w.𝓛 w.𝓜.mem w.𝓡.run ls b).ghost)
    (bytes : Res text.ended.signature ls) (vs : Lasts text.ended ls b)
    → b.0.now ≡ line
    → ent w.𝓤 (conj w.𝓤 ((check.clauses w.𝓛 w.𝓜.mem w.𝓡.run κs a).ensures g line (at_exit check.ended κs a ws))
    ((text.clauses w.𝓛 w.𝓜.mem w.𝓡.run ls b).ensures h bytes (at_exit text.ended ls b vs)))
    (fact w.𝓤 ((bytes.items ≡ line_for (checked a.0.now)) × (printing.ghosts.output line ≡ Some (line_for (checked a.0.now)))))
line_printed w κs a g line ws ls b h bytes vs of_it = both_say w (λ p q. line_of a.0.now line b.0.now bytes.items p of_it q)

-- The same of the line of whatever outcome meets the promise of `count`.
pub outcome_printed : (w : World) (κs : Lfts count.ended.signature.lifetimes) (a : Args count.ended.signature κs) (g : (count.clauses w.𝓛 w.𝓜.mem w.𝓡.run κs a).ghost)
    (outcome : Res count.ended.signature κs) (ws : Lasts count.ended κs a)
    (ls : Lfts text.ended.signature.lifetimes) (b : Args text.ended.signature ls) (h : (text.clauses w.𝓛 w.𝓜.mem w.𝓡.run ls b).ghost)
    (bytes : Res text.ended.signature ls) (vs : Lasts text.ended ls b)
    → b.0.now ≡ record { 0 = outcome }
    → ent w.𝓤 (conj w.𝓤 ((count.clauses w.𝓛 w.𝓜.mem w.𝓡.run κs a).ensures g outcome (at_exit count.ended κs a ws))
    ((text.clauses w.𝓛 w.𝓜.mem w.𝓡.run ls b).ensures h bytes (at_exit text.ended ls b vs)))
    (fact w.𝓤 ((bytes.items ≡ line_for (checked a.0.now)) × (printing.ghosts.output (record { 0 = outcome }) ≡ Some (line_for (checked a.0.now)))))
outcome_printed w κs a g outcome ws ls b h bytes vs of_it = both_say w (λ p q. line_of a.0.now (record { 0 = outcome }) b.0.now bytes.items p of_it q)
