-- `port::keep_words`: the words that the loop has passed are cut to their kept bits, and the others are as they were.
-- Assumes nothing.
use Rattle.std.proofs.Common.{get_or}
use Rattle.laws.proofs.Lists.{Filled}
use Rattle.port.specs.Port.{kept_word}
use Rattle.port.proofs.keep_words.Given as goal

abbrev pub invariant-loop-word : goal.invariant-loop-word
invariant-loop-word l = Filled (λ k. kept_word (get_or l.initial.words k 0)) l.word-index l.words l.initial.words
