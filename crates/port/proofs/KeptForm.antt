-- Every call leaves a port that is its own kept form: cutting it again changes nothing.
-- Assumes nothing.
use Rattle.std.proofs.Common.{◌≡◌, ℕ, ◌+◌, List, [], ◌∷◌, map, set, refl, ◌∙◌, arith}
use Rattle.std.proofs.lemmas.List.{map-set}
use Rattle.port.specs.declared.Port.{Port}
use Rattle.port.specs.Port.{kept_address, kept_attribute, kept_code, kept_word, word_of, kept_of, fresh_port, address_written, attribute_written, character_written}

words_again : (l : List ℕ) → map kept_word (map kept_word l) ≡ map kept_word l
words_again [] = refl
words_again (w ∷ l) = λ i. word_again i ∷ words_again l i
  where
    word_again : kept_word (kept_word w) ≡ kept_word w
    word_again = omega arith

address_again : (n : ℕ) → kept_address (kept_address n) ≡ kept_address n
address_again n = omega arith

attribute_again : (n : ℕ) → kept_attribute (kept_attribute n) ≡ kept_attribute n
attribute_again n = omega arith

stored_again : (code attribute : ℕ) → kept_word (word_of (kept_code code) (kept_attribute attribute)) ≡ word_of (kept_code code) (kept_attribute attribute)
stored_again code attribute = omega arith

pub fresh_kept : kept_of fresh_port ≡ fresh_port
fresh_kept = refl

pub address_written_kept : (p : Port) (byte : ℕ) → kept_of (address_written p byte) ≡ address_written p byte
address_written_kept p byte = λ i. record {
  address = address_again byte i;
  attribute = attribute_again p.attribute i;
  character = address_again p.character i;
  words = words_again p.words i;
}

pub attribute_written_kept : (p : Port) (byte : ℕ) → kept_of (attribute_written p byte) ≡ attribute_written p byte
attribute_written_kept p byte = λ i. record {
  address = address_again p.address i;
  attribute = attribute_again byte i;
  character = address_again p.character i;
  words = words_again p.words i;
}

pub character_written_kept : (p : Port) (byte : ℕ) → kept_of (character_written p byte) ≡ character_written p byte
character_written_kept p byte = λ i. record {
  address = address_again (kept_address p.address + 1) i;
  attribute = attribute_again p.attribute i;
  character = address_again byte i;
  words = words i;
}
  where
    words : map kept_word (character_written p byte).words ≡ (character_written p byte).words
    words =
        map-set kept_word (map kept_word p.words) (kept_address p.address) (word_of (kept_code byte) (kept_attribute p.attribute))
        ∙ (λ i. set (words_again p.words i) (kept_address p.address) (stored_again byte p.attribute i))
