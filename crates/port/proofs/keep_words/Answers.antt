-- `port::keep_words`: the words that the loop has passed are cut to their kept bits, and the others are as they were.
-- Assumes nothing.
use Rattle.std.proofs.Common.{refl, ap, arith}
use Rattle.laws.proofs.Lists.{filled_none, filled_more, filled_map}
use Rattle.port.specs.Port.{kept_word}
use Rattle.port.proofs.keep_words.Goals as goal

pub loop-word-init : goal.loop-word-init
loop-word-init c = filled_none _ _

pub loop-word-preserved : goal.loop-word-preserved
loop-word-preserved c = let l = c.loop-word in
    filled_more _ l.word-index l.words _ _ (omega (arith, l.invariant.size)) (ap kept_word (l.invariant.left l.word-index (omega arith))) l.invariant

pub returns : goal.returns
returns c = let l = c.loop-word in
    filled_map kept_word refl l.word-index l.words _ (omega (arith, l.invariant.size)) l.invariant
